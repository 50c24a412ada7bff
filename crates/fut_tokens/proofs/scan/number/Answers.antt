use Rattle.fut_tokens.proofs.Fronts.{number_front}
use Rattle.fut_tokens.proofs.scan.number.Goals as goal

pub returns : goal.returns
returns c =
    number_front c.args.text.now c.digit_run-length.result c.number_token-token.result c.requires.some c.requires.digit c.digit_run-length.ensures
    c.number_token-token.ensures

use Rattle.fut_tokens.proofs.Fronts.{word_front}
use Rattle.fut_tokens.proofs.scan.word.Goals as goal

pub returns : goal.returns
returns c =
    word_front c.args.text.now c.word_run-length.result c.in_ok-token.token c.requires.some c.requires.letter c.word_run-length.ensures c.in_ok-token.ensures

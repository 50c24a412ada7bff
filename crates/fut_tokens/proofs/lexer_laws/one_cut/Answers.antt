use Rattle.fut_tokens.proofs.Cuts.{cut_once}
use Rattle.fut_tokens.proofs.lexer_laws.one_cut.Goals as goal

pub returns : goal.returns
returns c = λ bytes ps qs. cut_once ps qs bytes

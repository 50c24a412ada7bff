use Rattle.fut_syntax.proofs.Programs.{parses_again}
use Rattle.fut_syntax.proofs.laws.parses_again.Goals as goal

pub returns : goal.returns
returns c = parses_again

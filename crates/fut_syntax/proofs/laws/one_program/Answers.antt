use Rattle.fut_syntax.proofs.Programs.{one_program}
use Rattle.fut_syntax.proofs.laws.one_program.Goals as goal

pub returns : goal.returns
returns c = one_program

use Rattle.fut_syntax.proofs.Whole.{no_fault}
use Rattle.fut_syntax.proofs.laws.no_fault.Goals as goal

pub returns : goal.returns
returns c = no_fault

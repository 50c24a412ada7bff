use Rattle.fut_syntax.proofs.Whole.{fault_once}
use Rattle.fut_syntax.proofs.laws.one_fault.Goals as goal

pub returns : goal.returns
returns c = fault_once

use Rattle.fut_syntax.proofs.Exact.{fault}
use Rattle.fut_syntax.proofs.laws.stop_is_fault.Goals as goal

pub returns : goal.returns
returns c = fault

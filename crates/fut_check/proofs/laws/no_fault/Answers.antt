use Rattle.fut_check.proofs.Once as once
use Rattle.fut_check.proofs.laws.no_fault.Goals as goal

pub returns : goal.returns
returns c = once.no_fault

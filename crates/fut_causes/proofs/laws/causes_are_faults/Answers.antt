use Rattle.fut_causes.proofs.Within as within
use Rattle.fut_causes.proofs.laws.causes_are_faults.Goals as goal

pub returns : goal.returns
returns c = within.causes_are_faults

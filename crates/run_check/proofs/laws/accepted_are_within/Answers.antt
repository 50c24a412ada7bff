use Rattle.run_check.proofs.Within.{accepted_are_within}
use Rattle.run_check.proofs.laws.accepted_are_within.Goals as goal

pub returns : goal.returns
returns c = accepted_are_within

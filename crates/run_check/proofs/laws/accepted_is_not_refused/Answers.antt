use Rattle.run_check.proofs.Refusals as laws
use Rattle.run_check.proofs.laws.accepted_is_not_refused.Goals as goal

pub returns : goal.returns
returns c = laws.accepted_is_not_refused

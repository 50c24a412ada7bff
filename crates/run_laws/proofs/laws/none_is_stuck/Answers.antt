use Rattle.run_laws.proofs.Stuck.{none_is_stuck}
use Rattle.run_laws.proofs.laws.none_is_stuck.Goals as goal

pub returns : goal.returns
returns c = none_is_stuck

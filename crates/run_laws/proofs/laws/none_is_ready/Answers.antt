use Rattle.run_laws.proofs.Ready.{none_is_ready}
use Rattle.run_laws.proofs.laws.none_is_ready.Goals as goal

pub returns : goal.returns
returns c = none_is_ready

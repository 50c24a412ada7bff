use Rattle.run_laws.proofs.Ready.{ready_is_first}
use Rattle.run_laws.proofs.laws.ready_is_first.Goals as goal

pub returns : goal.returns
returns c = ready_is_first

use Rattle.run_laws.proofs.Ready.{ready_run}
use Rattle.run_laws.proofs.laws.ready_run.Goals as goal

pub returns : goal.returns
returns c = ready_run

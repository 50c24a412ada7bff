use Rattle.task_machine.proofs.Leading.{leads_further}
use Rattle.task_machine.proofs.laws.leads_further.Goals as goal

pub returns : goal.returns
returns c = leads_further

use Rattle.task_machine.proofs.Leading.{leads_to_one}
use Rattle.task_machine.proofs.laws.leads_to_one.Goals as goal

pub returns : goal.returns
returns c = leads_to_one

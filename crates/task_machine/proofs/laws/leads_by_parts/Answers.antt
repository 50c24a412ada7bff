use Rattle.task_machine.proofs.Leading.{leads_by_parts}
use Rattle.task_machine.proofs.laws.leads_by_parts.Goals as goal

pub returns : goal.returns
returns c = leads_by_parts

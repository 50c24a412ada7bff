use Rattle.task_machine.proofs.Making.{acting_task}
use Rattle.task_machine.proofs.laws.acting_task.Goals as goal

pub returns : goal.returns
returns c = acting_task

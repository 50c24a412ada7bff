use Rattle.task_machine.proofs.Making.{children_come_later}
use Rattle.task_machine.proofs.laws.children_come_later.Goals as goal

pub returns : goal.returns
returns c = children_come_later

use Rattle.task_machine.proofs.Making.{child_comes}
use Rattle.task_machine.proofs.laws.child_comes.Goals as goal

pub returns : goal.returns
returns c = child_comes

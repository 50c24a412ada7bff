use Rattle.task_machine.proofs.Leading.{prefix_is_legal}
use Rattle.task_machine.proofs.laws.prefix_is_legal.Goals as goal

pub returns : goal.returns
returns c = prefix_is_legal

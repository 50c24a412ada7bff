use Rattle.task_machine.proofs.Stepping.{stands_at_one}
use Rattle.task_machine.proofs.laws.stands_at_one.Goals as goal

pub returns : goal.returns
returns c = stands_at_one

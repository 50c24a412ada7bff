use Rattle.task_machine.proofs.Stepping.{step_is_one}
use Rattle.task_machine.proofs.laws.step_is_one.Goals as goal

pub returns : goal.returns
returns c = step_is_one

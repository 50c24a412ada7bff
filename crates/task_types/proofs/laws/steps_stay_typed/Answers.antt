use Rattle.task_types.proofs.Stepping.{steps_stay}
use Rattle.task_types.proofs.laws.steps_stay_typed.Goals as goal

pub returns : goal.returns
returns c = steps_stay

use Rattle.task_types.proofs.Running.{steps_fit}
use Rattle.task_types.proofs.laws.steps_fit.Goals as goal

pub returns : goal.returns
returns c = steps_fit

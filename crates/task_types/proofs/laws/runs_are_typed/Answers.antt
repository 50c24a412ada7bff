use Rattle.task_types.proofs.Running.{runs_are_typed}
use Rattle.task_types.proofs.laws.runs_are_typed.Goals as goal

pub returns : goal.returns
returns c = runs_are_typed

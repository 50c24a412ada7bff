use Rattle.task_types.proofs.Calling.{start_typed}
use Rattle.task_types.proofs.laws.start_is_typed.Goals as goal

pub returns : goal.returns
returns c = start_typed

use Rattle.task_types.proofs.Running.{running_has_wish}
use Rattle.task_types.proofs.laws.running_has_wish.Goals as goal

pub returns : goal.returns
returns c = running_has_wish

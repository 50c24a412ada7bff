use Rattle.task_types.proofs.Running.{children_fit}
use Rattle.task_types.proofs.laws.children_fit.Goals as goal

pub returns : goal.returns
returns c = children_fit

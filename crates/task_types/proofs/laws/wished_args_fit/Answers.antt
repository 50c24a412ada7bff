use Rattle.task_types.proofs.Wishes.{wished_args_fit}
use Rattle.task_types.proofs.laws.wished_args_fit.Goals as goal

pub returns : goal.returns
returns c = wished_args_fit

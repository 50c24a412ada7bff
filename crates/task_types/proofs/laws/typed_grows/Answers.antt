use Rattle.task_types.proofs.Growing.{typed_on}
use Rattle.task_types.proofs.laws.typed_grows.Goals as goal

pub returns : goal.returns
returns c = typed_on

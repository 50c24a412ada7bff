use Rattle.task_types.proofs.Wishes.{typed_has_wish}
use Rattle.task_types.proofs.laws.typed_has_wish.Goals as goal

pub returns : goal.returns
returns c = typed_has_wish

use Rattle.std.proofs.Common.{refl}
use Rattle.task_machine.proofs.laws.return_row.Goals as goal

pub returns : goal.returns
returns c = record { waits = refl; ends = refl }

use Rattle.task_machine.proofs.Making.{others_stay}
use Rattle.task_machine.proofs.laws.others_stay.Goals as goal

pub returns : goal.returns
returns c = others_stay

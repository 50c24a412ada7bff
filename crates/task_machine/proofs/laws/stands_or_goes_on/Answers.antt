use Rattle.task_machine.proofs.Stepping.{stands_or_goes_on}
use Rattle.task_machine.proofs.laws.stands_or_goes_on.Goals as goal

pub returns : goal.returns
returns c = stands_or_goes_on

use Rattle.task_machine.proofs.Making.{strands_rise}
use Rattle.task_machine.proofs.laws.strands_rise.Goals as goal

pub returns : goal.returns
returns c = strands_rise

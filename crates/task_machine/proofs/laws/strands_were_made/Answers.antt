use Rattle.task_machine.proofs.Making.{strands_were_made}
use Rattle.task_machine.proofs.laws.strands_were_made.Goals as goal

pub returns : goal.returns
returns c = strands_were_made

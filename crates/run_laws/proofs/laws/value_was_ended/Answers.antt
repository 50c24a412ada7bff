use Rattle.run_laws.proofs.Ended.{value_was_ended}
use Rattle.run_laws.proofs.laws.value_was_ended.Goals as goal

pub returns : goal.returns
returns c = value_was_ended

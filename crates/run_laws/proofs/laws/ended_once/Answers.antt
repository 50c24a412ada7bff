use Rattle.run_laws.proofs.Ended.{ended_once}
use Rattle.run_laws.proofs.laws.ended_once.Goals as goal

pub returns : goal.returns
returns c = ended_once

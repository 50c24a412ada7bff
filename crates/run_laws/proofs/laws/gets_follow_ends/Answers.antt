use Rattle.run_laws.proofs.Ended.{gets_follow_ends}
use Rattle.run_laws.proofs.laws.gets_follow_ends.Goals as goal

pub returns : goal.returns
returns c = gets_follow_ends

use Rattle.access_shards.proofs.Growing.{log_stays}
use Rattle.access_shards.proofs.laws.log_stays.Goals as goal

pub returns : goal.returns
returns c = log_stays

use Rattle.access_shards.proofs.Growing.{kept_stays}
use Rattle.access_shards.proofs.laws.kept_stays.Goals as goal

pub returns : goal.returns
returns c = kept_stays

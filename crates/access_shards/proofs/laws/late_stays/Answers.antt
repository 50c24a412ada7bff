use Rattle.access_shards.proofs.Growing.{late_stays}
use Rattle.access_shards.proofs.laws.late_stays.Goals as goal

pub returns : goal.returns
returns c = late_stays

use Rattle.access_shards.proofs.Pairs.{kept_tells_races}
use Rattle.access_shards.proofs.laws.kept_tells_races.Goals as goal

pub returns : goal.returns
returns c = kept_tells_races

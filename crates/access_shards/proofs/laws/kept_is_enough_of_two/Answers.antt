use Rattle.access_shards.specs.Kept.{Kind, kinds}
use Rattle.access_shards.proofs.Greatest.{kept_is_enough}
use Rattle.access_shards.proofs.laws.kept_is_enough_of_two.Goals as goal

pub returns : goal.returns
returns c = kept_is_enough Kind kinds

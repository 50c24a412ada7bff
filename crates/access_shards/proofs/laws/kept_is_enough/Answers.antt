use Rattle.std.proofs.Common.{ℕ}
use Rattle.access_shards.proofs.Greatest.{kept_is_enough}
use Rattle.access_shards.proofs.laws.kept_is_enough.Goals as goal

pub returns : goal.returns
returns c = λ k. kept_is_enough ℕ k

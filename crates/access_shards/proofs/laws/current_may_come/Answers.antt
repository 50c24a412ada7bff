use Rattle.access_shards.proofs.Growing.{current_may_come}
use Rattle.access_shards.proofs.laws.current_may_come.Goals as goal

pub returns : goal.returns
returns c = current_may_come

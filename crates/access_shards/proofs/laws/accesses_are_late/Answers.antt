use Rattle.access_shards.proofs.Histories.{accesses_are_late}
use Rattle.access_shards.proofs.laws.accesses_are_late.Goals as goal

pub returns : goal.returns
returns c = accesses_are_late

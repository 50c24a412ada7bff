use Rattle.access_shards.proofs.Pairs.{races_are_of_accesses}
use Rattle.access_shards.proofs.laws.races_are_of_accesses.Goals as goal

pub returns : goal.returns
returns c = races_are_of_accesses

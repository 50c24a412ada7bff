use Rattle.access_shards.proofs.Pairs.{first_pair_is_of_accesses}
use Rattle.access_shards.proofs.laws.first_pair_is_of_accesses.Goals as goal

pub returns : goal.returns
returns c = first_pair_is_of_accesses

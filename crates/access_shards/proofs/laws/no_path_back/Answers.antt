use Rattle.access_shards.proofs.Histories.{no_path_back}
use Rattle.access_shards.proofs.laws.no_path_back.Goals as goal

pub returns : goal.returns
returns c = no_path_back

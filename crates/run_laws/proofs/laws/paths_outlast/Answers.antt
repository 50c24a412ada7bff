use Rattle.run_laws.proofs.Late.{paths_outlast}
use Rattle.run_laws.proofs.laws.paths_outlast.Goals as goal

pub returns : goal.returns
returns c = paths_outlast

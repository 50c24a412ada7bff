use Rattle.over_laws.proofs.Ending.{over_gives_run}
use Rattle.over_laws.proofs.laws.over_gives_run.Goals as goal

pub returns : goal.returns
returns c = over_gives_run

use Rattle.over_laws.proofs.Merging.{over_gives_history}
use Rattle.over_laws.proofs.laws.over_gives_history.Goals as goal

pub returns : goal.returns
returns c = over_gives_history

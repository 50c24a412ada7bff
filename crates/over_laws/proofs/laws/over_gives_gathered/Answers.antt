use Rattle.over_laws.proofs.Over.{over_gives_gathered}
use Rattle.over_laws.proofs.laws.over_gives_gathered.Goals as goal

pub returns : goal.returns
returns c = over_gives_gathered

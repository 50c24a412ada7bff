use Rattle.race_origins.proofs.Roots.{parting_stands}
use Rattle.race_origins.proofs.laws.parting_stands.Goals as goal

pub returns : goal.returns
returns c = parting_stands

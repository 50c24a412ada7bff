use Rattle.race_origins.proofs.Parts.{parting_parts}
use Rattle.race_origins.proofs.laws.parting_parts.Goals as goal

pub returns : goal.returns
returns c = parting_parts

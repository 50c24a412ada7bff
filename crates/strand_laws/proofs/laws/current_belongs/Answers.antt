use Rattle.strand_laws.proofs.Homes.{current_belongs}
use Rattle.strand_laws.proofs.laws.current_belongs.Goals as goal

pub returns : goal.returns
returns c = current_belongs

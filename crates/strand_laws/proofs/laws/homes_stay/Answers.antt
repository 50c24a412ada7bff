use Rattle.strand_laws.proofs.Homes.{homes_stay}
use Rattle.strand_laws.proofs.laws.homes_stay.Goals as goal

pub returns : goal.returns
returns c = homes_stay

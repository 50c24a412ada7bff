use Rattle.strand_laws.proofs.Homes.{orders_have_strands}
use Rattle.strand_laws.proofs.laws.orders_have_strands.Goals as goal

pub returns : goal.returns
returns c = orders_have_strands

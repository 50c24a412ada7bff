use Rattle.merge_laws.proofs.Allowing.{cells_are_left}
use Rattle.merge_laws.proofs.laws.cells_are_left.Goals as goal

pub returns : goal.returns
returns c = cells_are_left

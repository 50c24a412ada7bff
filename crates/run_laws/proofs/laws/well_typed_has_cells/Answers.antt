use Rattle.run_laws.proofs.Typed.{well_typed_has_cells}
use Rattle.run_laws.proofs.laws.well_typed_has_cells.Goals as goal

pub returns : goal.returns
returns c = well_typed_has_cells

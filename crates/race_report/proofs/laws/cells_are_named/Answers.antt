use Rattle.race_report.proofs.Naming.{named}
use Rattle.race_report.proofs.laws.cells_are_named.Goals as goal

pub returns : goal.returns
returns c = named

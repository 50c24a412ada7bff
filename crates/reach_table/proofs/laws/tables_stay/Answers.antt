use Rattle.reach_table.proofs.Events.{tables_stay}
use Rattle.reach_table.proofs.laws.tables_stay.Goals as goal

pub returns : goal.returns
returns c = tables_stay

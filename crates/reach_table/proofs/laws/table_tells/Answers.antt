use Rattle.reach_table.proofs.Reaching.{table_tells}
use Rattle.reach_table.proofs.laws.table_tells.Goals as goal

pub returns : goal.returns
returns c = table_tells

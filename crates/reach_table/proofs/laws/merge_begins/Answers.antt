use Rattle.reach_table.proofs.Events.{merge_begins}
use Rattle.reach_table.proofs.laws.merge_begins.Goals as goal

pub returns : goal.returns
returns c = merge_begins

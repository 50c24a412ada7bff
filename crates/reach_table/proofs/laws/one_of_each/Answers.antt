use Rattle.reach_table.proofs.Reaching.{one_of_each}
use Rattle.reach_table.proofs.laws.one_of_each.Goals as goal

pub returns : goal.returns
returns c = one_of_each

use Rattle.reach_table.proofs.Events.{orders_stay}
use Rattle.reach_table.proofs.laws.orders_stay.Goals as goal

pub returns : goal.returns
returns c = orders_stay

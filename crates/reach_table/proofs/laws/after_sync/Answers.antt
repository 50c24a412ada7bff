use Rattle.reach_table.proofs.Events.{after_sync}
use Rattle.reach_table.proofs.laws.after_sync.Goals as goal

pub returns : goal.returns
returns c = after_sync

use Rattle.run_laws.proofs.Once.{whole_leaves_each}
use Rattle.run_laws.proofs.laws.whole_leaves_each.Goals as goal

pub returns : goal.returns
returns c = whole_leaves_each

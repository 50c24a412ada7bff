use Rattle.run_laws.proofs.Waits.{children_stand_before}
use Rattle.run_laws.proofs.laws.children_stand_before.Goals as goal

pub returns : goal.returns
returns c = children_stand_before

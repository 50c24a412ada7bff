use Rattle.run_laws.proofs.Once.{left_for_good}
use Rattle.run_laws.proofs.laws.left_for_good.Goals as goal

pub returns : goal.returns
returns c = left_for_good

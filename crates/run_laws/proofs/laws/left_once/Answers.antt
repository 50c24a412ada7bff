use Rattle.run_laws.proofs.Once.{left_once}
use Rattle.run_laws.proofs.laws.left_once.Goals as goal

pub returns : goal.returns
returns c = left_once

use Rattle.run_laws.proofs.Once.{begun_once}
use Rattle.run_laws.proofs.laws.begun_once.Goals as goal

pub returns : goal.returns
returns c = begun_once

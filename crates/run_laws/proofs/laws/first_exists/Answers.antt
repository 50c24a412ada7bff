use Rattle.run_laws.proofs.Stuck.{first_exists}
use Rattle.run_laws.proofs.laws.first_exists.Goals as goal

pub returns : goal.returns
returns c = first_exists

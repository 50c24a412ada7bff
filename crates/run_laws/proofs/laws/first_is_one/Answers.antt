use Rattle.run_laws.proofs.Stuck.{first_is_one}
use Rattle.run_laws.proofs.laws.first_is_one.Goals as goal

pub returns : goal.returns
returns c = first_is_one

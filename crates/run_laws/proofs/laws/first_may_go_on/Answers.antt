use Rattle.run_laws.proofs.Ready.{first_may_go_on}
use Rattle.run_laws.proofs.laws.first_may_go_on.Goals as goal

pub returns : goal.returns
returns c = first_may_go_on

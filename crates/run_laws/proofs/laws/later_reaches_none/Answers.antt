use Rattle.run_laws.proofs.Late.{later_reaches_none}
use Rattle.run_laws.proofs.laws.later_reaches_none.Goals as goal

pub returns : goal.returns
returns c = later_reaches_none

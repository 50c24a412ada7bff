use Rattle.run_laws.proofs.Making.{evaluation_makes_no_handle}
use Rattle.run_laws.proofs.laws.evaluation_makes_no_handle.Goals as goal

pub returns : goal.returns
returns c = evaluation_makes_no_handle

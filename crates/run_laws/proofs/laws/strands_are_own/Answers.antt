use Rattle.run_laws.proofs.Once.{strands_are_own}
use Rattle.run_laws.proofs.laws.strands_are_own.Goals as goal

pub returns : goal.returns
returns c = strands_are_own

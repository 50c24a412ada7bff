use Rattle.fut_syntax.proofs.Viable.{begins}
use Rattle.fut_syntax.proofs.laws.completions.Goals as goal

pub returns : goal.returns
returns c = begins

use Rattle.fut_syntax.proofs.Decided.{decided}
use Rattle.fut_syntax.proofs.laws.either_one.Goals as goal

pub returns : goal.returns
returns c = decided

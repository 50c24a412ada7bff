use Rattle.std.proofs.Common.{refl}
use Rattle.fut_syntax.proofs.Exact.{fault}
use Rattle.fut_syntax.proofs.laws.second_operator.Goals as goal

pub returns : goal.returns
returns c = λ w. fault _ 4 refl

-- Slots of variables.
use Rattle.std.proofs.Common.{◌≡◌, ◌+◌, List, [], ◌∷◌, ◌++◌, arith}
use Rattle.fut_rules.specs.declared.names.Variable.{Variable}
use Rattle.fut_rules.specs.Kinds.{size}
use Rattle.fut_rules.specs.Names.{slots}

pub slots_more : (xs : List Variable) (x : Variable) → slots (xs ++ x ∷ []) ≡ slots xs + size x.kind
slots_more [] x = omega arith
slots_more (y ∷ xs) x = omega (arith, slots_more xs x)

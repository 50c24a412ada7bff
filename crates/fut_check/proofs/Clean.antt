-- No faults, and a count of none.
use Rattle.std.proofs.Common.{◌≡◌, List, [], ◌∷◌, length, Option, Some, None, refl, ap, arith}
use Rattle.std.specs.Prelude.{IsSomeAnd}
use Rattle.fut_syntax.specs.Trees.{Program}
use Rattle.fut_rules.specs.declared.fault.Fault.{Fault}
use Rattle.fut_check.specs.Items.{faults_of, IsWellTyped}
use Rattle.fut_check.specs.Checks.{fault_count}

empty : (fs : List Fault) → length fs ≡ 0 → fs ≡ []
empty [] h = refl
empty (f ∷ fs) h = absurd (omega arith)

pub no_count : (o : Option Program) → IsSomeAnd o IsWellTyped → fault_count o ≡ 0
no_count None h = absurd h
no_count (Some P) h = ap length h

pub no_faults : (o : Option Program) → fault_count o ≡ 0 → IsSomeAnd o IsWellTyped
no_faults None h = absurd (omega arith)
no_faults (Some P) h = empty (faults_of P) h

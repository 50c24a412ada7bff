-- The cause of a fault.
use Rattle.std.specs.Prelude.{◌≡◌, ◌⊎◌, ℕ, slice_get, List, [], ◌∷◌, Option, Some, None}
use Rattle.fut_tokens.specs.declared.token.Position.{Position}
use Rattle.fut_syntax.specs.declared.tree.Program as declared
use Rattle.fut_syntax.specs.Trees.{Program}
use Rattle.fut_syntax.specs.Views.{program_tree}
use Rattle.fut_rules.specs.Faults.{rule_number}
use Rattle.fut_causes.specs.declared.cause.Cause.{Cause}
use Rattle.fut_causes.specs.Causes.{Caused, causes_of}

-- a cause is among some
abbrev pub IsAmong : Caused → List Caused → Type 0
IsAmong c [] = ⊥
IsAmong c (d ∷ ds) = (c ≡ d) ⊎ IsAmong c ds

-- a program has this place where types or counts break a rule, and it is the rule of this number, at the token that stands here
pub record IsCausedAt (p : declared.Program) (number : ℕ) (place : Position) (c : Caused) : Type 0 where
  pub tree : Program
  pub is : program_tree p.items ≡ Some tree
  pub among : IsAmong c (causes_of tree)
  pub stands : slice_get p.places c.fault.token ≡ Some place
  pub rule : rule_number c.fault.rule ≡ number

-- the cause of a fault of the rule of this number at the token that stands here, if types or counts are its cause
abbrev pub IsCauseOf : declared.Program → ℕ → Position → Option Cause → Type 0
IsCauseOf p number place (Some cause) = (c : Caused) × IsCausedAt p number place c × (c.cause ≡ cause)
IsCauseOf p number place None = (c : Caused) → IsCausedAt p number place c → ⊥

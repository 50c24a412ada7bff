-- Laws of the check.
use Rattle.std.specs.Prelude.{◌≡◌, ℕ, ◌+◌, ◌<◌, ◌^◌, List, length, Ok}
use Rattle.fut_tokens.specs.declared.token.Position.{Position}
use Rattle.fut_syntax.specs.declared.tree.Program as declared
use Rattle.fut_syntax.specs.Texts.{Parses}
use Rattle.fut_check.specs.Checks.{HasPlaces, IsChecked, IsFaultOf}
use Rattle.fut_rules.specs.declared.fault.Fault.{Fault}
use Rattle.fut_rules.specs.Faults.{IsFirst}

-- what is read of a text can be checked
abbrev pub ReadCanBeChecked : Type 0
ReadCanBeChecked = (text : List ℕ) (p : declared.Program) → length text + 1 < 2 ^ 32 → Parses text (Ok p) → HasPlaces p

-- some faults have one first fault at most
abbrev pub OneFirst : Type 0
OneFirst = (fs : List Fault) (f g : Fault) → IsFirst f fs → IsFirst g fs → f ≡ g

-- a program has one first fault at most
abbrev pub OneFault : Type 0
OneFault = (p : declared.Program) (n m : ℕ) (a b : Position) → IsFaultOf p n a → IsFaultOf p m b → (n ≡ m) × (a ≡ b)

-- a well-typed program has no fault
abbrev pub NoFault : Type 0
NoFault = (p : declared.Program) (n : ℕ) (a : Position) → IsChecked p → IsFaultOf p n a → ⊥

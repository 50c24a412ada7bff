-- Faults, and which of them is the first.
use Rattle.std.specs.Prelude.{◌≡◌, ℕ, ◌+◌, Bool, false, ◌⊎◌, ◌||◌, ◌&&◌, nat_lt, nat_eq, if◌then◌else◌, List, [], ◌∷◌, Option, Some, None}
use Rattle.fut_rules.specs.declared.fault.Rule.{Rule}
use Rattle.fut_rules.specs.declared.fault.Rule.TheVariants as rule
use Rattle.fut_rules.specs.declared.fault.Fault.{Fault}

-- the number of a rule
abbrev pub rule_number : Rule → ℕ
rule_number rule.UnknownName = 1
rule_number rule.DoubledName = 2
rule_number rule.ArgumentCount = 3
rule_number rule.IntForHandle = 4
rule_number rule.HandleForInt = 5
rule_number rule.HandleDepth = 6
rule_number rule.ArrayLength = 7
rule_number rule.ResultType = 8
rule_number rule.NoMain = 9
rule_number rule.MainParameters = 10
rule_number rule.NoValue = 11
rule_number rule.ConstantLimit = 12

-- a fault comes before another: it stands at an earlier token, or at the same one by a lesser rule
abbrev pub is_before : Fault → Fault → Bool
is_before f g = nat_lt f.token g.token || (nat_eq f.token g.token && nat_lt (rule_number f.rule) (rule_number g.rule))

-- the fault of a rule that is broken, if one is, at a token
abbrev pub broken : Option Rule → ℕ → List Fault
broken None n = []
broken (Some r) n = record { token = n; rule = r } ∷ []

-- the fault of a rule at a token, where a test finds it
abbrev pub fault_if : Bool → ℕ → Rule → List Fault
fault_if found n r = if found then (record { token = n; rule = r } ∷ []) else []

-- a fault is among some
abbrev pub IsAmong : Fault → List Fault → Type 0
IsAmong f [] = ⊥
IsAmong f (g ∷ gs) = (f ≡ g) ⊎ IsAmong f gs

-- the first fault: the one at the least token, and there the one with the least rule
pub record IsFirst (f : Fault) (fs : List Fault) : Type 0 where
  pub among : IsAmong f fs
  pub first : (g : Fault) → IsAmong g fs → is_before g f ≡ false

-- the earlier of a fault that was found before, if one was, and one more
abbrev pub earlier : Option Fault → Fault → Fault
earlier None f = f
earlier (Some g) f = if is_before f g then f else g

-- the first of a fault that was found before and of more faults
abbrev pub least : Option Fault → List Fault → Option Fault
least found [] = found
least found (f ∷ fs) = least (Some (earlier found f)) fs

-- what a search for the first fault shows: how many tokens are behind it, how many there are, and the first fault so far
pub record Searched : Type 0 where
  pub at : ℕ
  pub end : ℕ
  pub found : Option Fault

-- a search has gone over so many tokens, and met these faults
pub record Walked (old new : Searched) (width : ℕ) (faults : List Fault) : Type 0 where
  pub at : new.at ≡ old.at + width
  pub end : new.end ≡ old.end
  pub found : new.found ≡ least old.found faults

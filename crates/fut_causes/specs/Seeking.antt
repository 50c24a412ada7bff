-- The search for the cause of a fault.
use Rattle.std.specs.Prelude.{◌≡◌, ℕ, ◌+◌, Bool, false, ◌&&◌, nat_eq, if◌then◌else◌, slice_get, List, [], ◌∷◌, Option, Some, None}
use Rattle.fut_tokens.specs.declared.token.Position.{Position}
use Rattle.fut_rules.specs.Faults.{rule_number}
use Rattle.fut_rules.specs.Names.{Scope}
use Rattle.fut_causes.specs.declared.cause.Cause.{Cause}
use Rattle.fut_causes.specs.declared.seek.Wanted.{Wanted}
use Rattle.fut_causes.specs.Causes.{Caused}

-- there is a place, and it is this one
abbrev pub is_place : Option Position → Position → Bool
is_place None place = false
is_place (Some p) place = nat_eq p.line place.line && nat_eq p.column place.column

-- a cause is that of the rule of this number at the token at this place
abbrev pub is_wanted : Wanted → Caused → Bool
is_wanted w c = is_place (slice_get w.places.now c.fault.token) w.place && nat_eq (rule_number c.fault.rule) w.number

-- what was found before, or a cause, if it is one that is wanted
abbrev pub kept : Wanted → Option Cause → Caused → Option Cause
kept w (Some c) d = Some c
kept w None d = if is_wanted w d then Some d.cause else None

-- what was found before, or the first of some causes that is wanted
abbrev pub first : Wanted → Option Cause → List Caused → Option Cause
first w found [] = found
first w found (d ∷ ds) = first w (kept w found d) ds

-- what a search shows: how many tokens are behind it, how many there are, what is wanted, and what was found so far
pub record Seeking : Type 0 where
  pub at : ℕ
  pub end : ℕ
  pub wanted : Wanted
  pub found : Option Cause

-- a search has gone over so many tokens, and met these causes
pub record Sought (old new : Seeking) (width : ℕ) (causes : List Caused) : Type 0 where
  pub at : new.at ≡ old.at + width
  pub end : new.end ≡ old.end
  pub wanted : new.wanted ≡ old.wanted
  pub found : new.found ≡ first old.wanted old.found causes

-- the same, and the scope is the one that is due behind them
pub record Passed (old new : Seeking) (width : ℕ) (causes : List Caused) (scope due : Scope) : Type 0 where
  pub sought : Sought old new width causes
  pub scope_is : scope ≡ due

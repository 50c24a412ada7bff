-- What a run text is, and where bytes cease to be one.
use Rattle.std.specs.Prelude.{◌≡◌, ℕ, ◌≤◌, List, [], ◌∷◌, ◌++◌, length, take}
use Rattle.fut_base.specs.declared.limits.TheConstants.{MOST_PROGRAM_BYTES, MOST_ENTRIES}
use Rattle.fut_base.specs.declared.record.Value.{Value}
use Rattle.fut_base.specs.declared.record.Race.{Race}
use Rattle.fut_base.specs.declared.record.Finish.{Finish}
use Rattle.fut_base.specs.declared.event.Event.{Event}
use Rattle.fut_base.specs.declared.event.Action.{Action}
pub use Rattle.fut_base.specs.Bounds.{IsNumber, IsSigned, IsValue, AreValues, IsCallWith, IsActionWith}
pub use Rattle.fut_base.specs.Bounds.{IsEventWith, AreEventsWith, IsAny, AreNumbered, IsFinish}
use Rattle.run_record.specs.declared.bounds.TheConstants.{MOST_ARGUMENTS, MOST_RACES}
use Rattle.run_record.specs.RunText.{run_text}

-- a call has at most 16 arguments
abbrev pub IsFew : ℕ → Type 0
IsFew count = count ≤ MOST_ARGUMENTS

-- the numbers of a call are within their bounds, and it has at most 16 arguments
abbrev pub IsCall : ℕ → ℕ → ℕ → ℕ → List Value → Type 0
IsCall code child kid cont args = IsCallWith IsFew code child kid cont args

-- so are those of an action
abbrev pub IsAction : Action → Type 0
IsAction a = IsActionWith IsFew a

-- so are those of an event
abbrev pub IsEvent : Event → Type 0
IsEvent e = IsEventWith IsFew e

-- so are those of each event
abbrev pub AreEvents : List Event → Type 0
AreEvents es = AreEventsWith IsFew es

-- the numbers of a race are within their bounds
abbrev pub IsRace : Race → Type 0
IsRace r = IsNumber r.cell × IsNumber r.first × IsNumber r.second

-- so are those of each race
abbrev pub AreRaces : List Race → Type 0
AreRaces [] = Unit {0}
AreRaces (r ∷ rs) = IsRace r × AreRaces rs

-- a program of at most 1,048,576 bytes, at most 1,000,000 entries, at most 65,536 races, and numbers within their bounds
pub record IsWithin (program : List ℕ) (events : List Event) (races : List Race) (end : Finish) : Type 0 where
  pub short : length program ≤ MOST_PROGRAM_BYTES
  pub few : length events ≤ MOST_ENTRIES
  pub numbered : AreEvents events
  pub few_races : length races ≤ MOST_RACES
  pub raced : AreRaces races
  pub finished : IsFinish end

-- the bytes are the run text of this program, these entries, these races and this finish
pub record IsRunText (bytes program : List ℕ) (events : List Event) (races : List Race) (end : Finish) : Type 0 where
  pub within : IsWithin program events races end
  pub text : bytes ≡ run_text program events races end

-- some run text has these bytes
abbrev pub IsSomeRunText : List ℕ → Type 0
IsSomeRunText bytes = (program : List ℕ) × (events : List Event) × (races : List Race) × (end : Finish) × IsRunText bytes program events races end

-- some run text begins with these bytes
abbrev pub Begins : List ℕ → Type 0
Begins bytes = (more : List ℕ) × IsSomeRunText (bytes ++ more)

-- the bytes are no run text, and the longest beginning of theirs with which a run text begins has so many bytes
pub record IsFault (bytes : List ℕ) (count : ℕ) : Type 0 where
  pub none : IsSomeRunText bytes → ⊥
  pub within : count ≤ length bytes
  pub begins : Begins (take count bytes)
  pub longest : (n : ℕ) → n ≤ length bytes → Begins (take n bytes) → n ≤ count

-- The accesses of one cell in a history. Lists of events called `past` have the newest event first.
use Rattle.std.specs.Prelude.{◌≡◌, ℕ, ◌==◌, if◌then◌else◌, List, [], ◌∷◌, ◌++◌, length, reverse, option_map, option_to_list, Option, Some, None}
use Rattle.fut_base.specs.declared.event.Event.{Event}
use Rattle.fut_base.specs.declared.event.Action.{Action}
use Rattle.fut_base.specs.declared.event.Action.TheVariants.{Reads, Writes}
use Rattle.fut_base.specs.Events.{structure_of}
use Rattle.fut_base.specs.Dag.{last_of}
use Rattle.fut_base.specs.Sound.{IsSound, current}
use Rattle.access_shards.specs.Touches.{Touch}
use Rattle.access_shards.specs.Kept.{Kind, reading, writing, touch}

-- how an action accesses a cell
abbrev pub kind_of : ℕ → Action → Option Kind
kind_of c (Reads cell _) = if cell == c then Some reading else None
kind_of c (Writes cell _) = if cell == c then Some writing else None
kind_of c _ = None

-- the accesses of a cell, each with its place in the history, the newest one first
abbrev pub touches_past : ℕ → List Event → List (Touch Kind)
touches_past c [] = []
touches_past c (e ∷ past) = option_to_list (option_map (λ kind. touch (length past) e.strand kind) (kind_of c e.action)) ++ touches_past c past

abbrev pub touches_of : ℕ → List Event → List (Touch Kind)
touches_of c h = touches_past c (reverse h)

-- an event stands on the current strand of its task, which has not ended
pub record IsStanding (past : List Event) (e : Event) : Type 0 where
  pub stands : current past e.task ≡ Some e.strand
  pub running : last_of past e.task ≡ None

abbrev pub AreStanding : List Event → Type 0
AreStanding [] = Unit {0}
AreStanding (e ∷ past) = AreStanding past × IsStanding past e

-- a history whose structure is sound, and whose events stand on the current strands of tasks that have not ended
pub record IsInStep (h : List Event) : Type 0 where
  pub sound : IsSound (structure_of h)
  pub standing : AreStanding (reverse h)

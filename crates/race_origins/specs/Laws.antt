-- What a parting entry can be.
use Rattle.std.specs.Prelude.{◌≡◌, ℕ, Bool, true, false, List, [], ◌∷◌, reverse, slice_get, Some, None}
use Rattle.fut_base.specs.declared.event.Event.{Event}
use Rattle.fut_base.specs.declared.event.Action.{Action}
use Rattle.fut_base.specs.declared.event.Action.TheVariants.{Spawns, Creates, Ends}
use Rattle.fut_base.specs.Events.{structure_of}
use Rattle.fut_base.specs.Dag.{last_of, AreJoined}
use Rattle.fut_base.specs.Sound.{IsSound, current}
use Rattle.race_origins.specs.Parting.{IsParting, IsPartingOf}

-- an action behind which two strands can go on: one that begins two, or the end of a task, for which several others wait
abbrev pub parts : Action → Bool
parts (Spawns _ _ _ _ _) = true
parts (Creates _ _ _ _ _) = true
parts (Ends _) = true
parts _ = false

-- each event, the newest first, stands on the strand at which its task stands after those before it, and that task has not ended
abbrev pub AreStanding : List Event → Type 0
AreStanding [] = Unit {0}
AreStanding (e ∷ past) = AreStanding past × (current past e.task ≡ Some e.strand) × (last_of past e.task ≡ None)

-- a history whose structure is sound, with all events, accesses too, on the strands of tasks that run
pub record IsInStep (h : List Event) : Type 0 where
  pub sound : IsSound (structure_of h)
  pub standing : AreStanding (reverse h)

-- the parting entry of two strands that no path joins is a spawn, a create or an end
abbrev pub PartingParts : Type 0
PartingParts = (h : List Event) (u v i : ℕ) → IsInStep h → (AreJoined h u v → ⊥) → (parting : IsParting h u v i) → parts parting.entry.action ≡ true

-- for the strands of two entries there is a parting entry
abbrev pub PartingStands : Type 0
PartingStands =
    (h : List Event) (i j : ℕ) (a b : Event) → IsInStep h → slice_get h i ≡ Some a → slice_get h j ≡ Some b
    → IsPartingOf h a.strand b.strand None → ⊥

-- The entry at which two strands part.
use Rattle.std.specs.Prelude.{◌≡◌, ℕ, ◌<◌, Bool, true, false, ◌&&◌, List, map, slice_get, Option, Some, None}
use Rattle.fut_base.specs.declared.event.Event.{Event}
use Rattle.fut_base.specs.Dag.{Reaches, edges_of}
use Rattle.race_origins.specs.declared.origins.Origins.{Origins}
use Rattle.race_origins.specs.Edges.{ends_of}
use Rattle.race_origins.specs.Marks.{has}

-- in a history a strand reaches both of two
pub record ReachesBoth (h : List Event) (u v strand : ℕ) : Type 0 where
  pub one : Reaches h strand u
  pub other : Reaches h strand v

-- the last entry of a history whose strand reaches both
pub record IsParting (h : List Event) (u v i : ℕ) : Type 0 where
  pub entry : Event
  pub stands : slice_get h i ≡ Some entry
  pub reaches : ReachesBoth h u v entry.strand
  pub last : (j : ℕ) (later : Event) → i < j → slice_get h j ≡ Some later → ReachesBoth h u v later.strand → ⊥

-- the place of that entry, or that the strand of no entry reaches both
abbrev pub IsPartingOf : List Event → ℕ → ℕ → Option ℕ → Type 0
IsPartingOf h u v None = (j : ℕ) (entry : Event) → slice_get h j ≡ Some entry → ReachesBoth h u v entry.strand → ⊥
IsPartingOf h u v (Some i) = IsParting h u v i

-- whether the strand of an event has both marks
abbrev pub has_both : List Bool → List Bool → Event → Bool
has_both one other e = has one e.strand && has other e.strand

-- the greatest place of a list whose item passes a test, where there is one
abbrev pub IsLastPlace : {X : Type 0} → (X → Bool) → List X → Option ℕ → Type 0
IsLastPlace {X} p xs None = (k : ℕ) (x : X) → slice_get xs k ≡ Some x → p x ≡ false
IsLastPlace {X} p xs (Some i) = (x : X) × (slice_get xs i ≡ Some x) × (p x ≡ true) × ((k : ℕ) (y : X) → i < k → slice_get xs k ≡ Some y → p y ≡ false)

-- the edges of a history
pub record AreOriginsOf (h : List Event) (origins : Origins) : Type 0 where
  pub edges : map ends_of origins.edges.items ≡ edges_of h

-- Accesses, and the pairs of places that race.
use Rattle.std.specs.Prelude.{◌≡◌, ℕ, ◌<◌, ◌≤◌, ◌==◌, ◌&&◌, ◌||◌, not, Bool, true, false, List, slice_get, Option, Some, None}
use Rattle.fut_base.specs.declared.event.Event.{Event}
use Rattle.fut_base.specs.declared.event.Action.{Action}
use Rattle.fut_base.specs.declared.event.Action.TheVariants.{Reads, Writes}
use Rattle.fut_base.specs.declared.record.Race.{Race}
use Rattle.fut_base.specs.Racing.{PlacesRace, IsFirstPair}
use Rattle.race_report.specs.declared.pairs.Access.{Access}
use Rattle.race_report.specs.declared.search.Joined.{Joined}
use Rattle.race_report.specs.Search.{is_joined}

-- the access that an action makes, where it makes one
abbrev pub access_of : Action → Option Access
access_of (Reads cell _) = Some (record { cell = cell; writes = false })
access_of (Writes cell _) = Some (record { cell = cell; writes = true })
access_of _ = None

-- two accesses of one cell, at least one of them a write
abbrev pub is_conflict : Access → Option Access → Bool
is_conflict access None = false
is_conflict access (Some other) = (other.cell == access.cell) && (other.writes || access.writes)

-- an event that conflicts with an access, and whose strand is not joined with that of the access
abbrev pub is_rival : Access → Joined → Event → Bool
is_rival access joined e = is_conflict access (access_of e.action) && not (is_joined joined e.strand)

-- the greatest place of a list whose item passes a test, where there is one
abbrev pub IsLastPlace : {X : Type 0} → (X → Bool) → List X → Option ℕ → Type 0
IsLastPlace {X} p xs None = (k : ℕ) (x : X) → slice_get xs k ≡ Some x → p x ≡ false
IsLastPlace {X} p xs (Some i) = (x : X) × (slice_get xs i ≡ Some x) × (p x ≡ true) × ((k : ℕ) (y : X) → i < k → slice_get xs k ≡ Some y → p y ≡ false)

-- the race of a place with its greatest earlier partner, where it has one
abbrev pub IsLastPair : List Event → ℕ → Option Race → Type 0
IsLastPair h j None = (c i : ℕ) → PlacesRace h c i j → ⊥
IsLastPair h j (Some r) = (r.second ≡ j) × PlacesRace h r.cell r.first j × ((c i : ℕ) → PlacesRace h c i j → (c ≡ r.cell) × (i ≤ r.first))

-- what is known of a cell from the places below n: none of them has an earlier partner, or this is the first pair
abbrev pub IsFoundBefore : List Event → ℕ → ℕ → Option Race → Type 0
IsFoundBefore h n c None = (i j : ℕ) → j < n → PlacesRace h c i j → ⊥
IsFoundBefore h n c (Some r) = (r.cell ≡ c) × IsFirstPair h c r.first r.second

-- Races, and the report of a history.
use Rattle.std.specs.Prelude.{◌≡◌, ℕ, ◌<◌, ◌≤◌, List, [], ◌∷◌, Some, slice_get, All, Any, ◌⊎◌}
use Rattle.fut_base.specs.declared.record.Race.{Race}
use Rattle.fut_base.specs.Events.{Event, Action, Reads, Writes}
use Rattle.fut_base.specs.Dag.{AreJoined}

-- an access of this cell
abbrev pub IsAccess : ℕ → Action → Type 0
IsAccess c (Reads cell _) = cell ≡ c
IsAccess c (Writes cell _) = cell ≡ c
IsAccess c _ = ⊥

-- a write of some cell
abbrev pub IsWrite : Action → Type 0
IsWrite (Writes _ _) = Unit {0}
IsWrite _ = ⊥

-- two events of a history that race on a cell: both access it, one at least writes it, and no path joins their strands
pub record AreRacing (h : List Event) (c : ℕ) (a b : Event) : Type 0 where
  pub one : IsAccess c a.action
  pub other : IsAccess c b.action
  pub write : IsWrite a.action ⊎ IsWrite b.action
  pub apart : AreJoined h a.strand b.strand → ⊥

-- two places of a history that race on a cell
pub record PlacesRace (h : List Event) (c i j : ℕ) : Type 0 where
  pub order : i < j
  pub events : (a : Event) × (b : Event) × (slice_get h i ≡ Some a) × (slice_get h j ≡ Some b) × AreRacing h c a b

-- the least place with an earlier partner, and its greatest partner
pub record IsFirstPair (h : List Event) (c i j : ℕ) : Type 0 where
  pub race : PlacesRace h c i j
  pub least : (m n : ℕ) → PlacesRace h c m n → j ≤ n
  pub greatest : (m : ℕ) → PlacesRace h c m j → m ≤ i

-- the cells of the races rise
abbrev pub AreRising : List Race → Type 0
AreRising [] = Unit {0}
AreRising (r ∷ rs) = All (λ s. r.cell < s.cell) rs × AreRising rs

-- the cells that have a race, in order, each with its first pair
pub record IsReport (h : List Event) (races : List Race) : Type 0 where
  pub each : All (λ r. IsFirstPair h r.cell r.first r.second) races
  pub whole : (c i j : ℕ) → PlacesRace h c i j → Any (λ r. r.cell ≡ c) races
  pub order : AreRising races

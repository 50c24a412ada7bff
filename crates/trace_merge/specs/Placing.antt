-- Entries that take the places of their tickets.
use Rattle.std.specs.Prelude.{◌≡◌, ℕ, ◌<◌, List, length, flat_map, slice_get, Option, Some}
use Rattle.fut_base.specs.declared.record.Entry.{Entry}
use Rattle.fut_base.specs.Dag.{Among}
use Rattle.fut_base.specs.Listed.{Listed}

-- an entry has a place
abbrev pub HasPlace : List (Option Entry) → ℕ → Entry → Type 0
HasPlace places k e = slice_get places k ≡ Some (Some e)

-- the entries of all these traces
abbrev pub entries_in : List (Listed (ℕ × Entry)) → List (ℕ × Entry)
entries_in traces = flat_map (λ (t : Listed (ℕ × Entry)). t.items) traces

-- the tickets are below a number, and no two entries have the same
pub record AreApart (count : ℕ) (drawn : List (ℕ × Entry)) : Type 0 where
  pub below : (x : ℕ × Entry) → Among x drawn → x.0 < count
  pub once : (x y : ℕ × Entry) → Among x drawn → Among y drawn → x.0 ≡ y.0 → x ≡ y

-- these entries took their places, and the others are as they were
pub record HavePlaces (drawn : List (ℕ × Entry)) (old new : List (Option Entry)) : Type 0 where
  pub each : (x : ℕ × Entry) → Among x drawn → HasPlace new x.0 x.1
  pub others : (k : ℕ) → ((x : ℕ × Entry) → Among x drawn → x.0 ≡ k → ⊥) → slice_get new k ≡ slice_get old k

-- each place has an entry
abbrev pub AreTaken : List (Option Entry) → Type 0
AreTaken places = (k : ℕ) → k < length places → (e : Entry) × HasPlace places k e

-- these are the entries of all places, in their order
pub record IsTaken (places : List (Option Entry)) (entries : List Entry) : Type 0 where
  pub size : length entries ≡ length places
  pub each : (k : ℕ) (e : Entry) → HasPlace places k e → slice_get entries k ≡ Some e

-- The cells of a run, put together out of the shards.
use Rattle.std.specs.Prelude.{◌≡◌, ℕ, ℤ, List, length, slice_get, All, Any, Option, Some, None}
use Rattle.fut_base.specs.declared.record.Race.{Race}
use Rattle.fut_base.specs.Dag.{Among}
use Rattle.fut_base.specs.Racing.{AreRising}
use Rattle.task_code.specs.Flat.{Compiled}
use Rattle.access_shards.specs.declared.kept.Kept.{Kept}
use Rattle.access_shards.specs.declared.kept.Kept.TheVariants.{Clean, Found}
use Rattle.run_shard.specs.Shards.{ShardNow, IsCellOf, made_by, known_by}
use Rattle.run_shard.specs.Ends.{IsEndOf}

-- the first pair that is kept of a cell, where it has one
abbrev pub pair_of : Kept → Option (ℕ × ℕ)
pair_of (Clean _ _) = None
pair_of (Found first second) = Some (first, second)

-- of all cells, by number, the values and the first pairs
pub record CellsNow : Type 0 where
  pub values : List ℤ
  pub pairs : List (Option (ℕ × ℕ))

-- at the place of a cell stand the value and the first pair of one of these
pub record HasOneOf (cells : List (ℕ × ℤ × Kept)) (c : ℕ) (now : CellsNow) : Type 0 where
  pub value : ℤ
  pub kept : Kept
  pub among : Among (c, value, kept) cells
  pub value_at : slice_get now.values c ≡ Some value
  pub pair_at : slice_get now.pairs c ≡ Some (pair_of kept)

-- none of these is this cell
abbrev pub IsNone : List (ℕ × ℤ × Kept) → ℕ → Type 0
IsNone cells c = (value : ℤ) (kept : Kept) → Among (c, value, kept) cells → ⊥

-- these cells took their places, and at the other places stands what stood there
pub record HavePlaces (cells : List (ℕ × ℤ × Kept)) (old new : CellsNow) : Type 0 where
  pub sizes : (length new.values ≡ length old.values) × (length new.pairs ≡ length old.pairs)
  pub each : (c : ℕ) (value : ℤ) (kept : Kept) → Among (c, value, kept) cells → HasOneOf cells c new
  pub others : (c : ℕ) → IsNone cells c → (slice_get new.values c ≡ slice_get old.values c) × (slice_get new.pairs c ≡ slice_get old.pairs c)

-- at the place of a cell stand the value and the first pair that its shard has of it
pub record HasCell (s : ShardNow) (c : ℕ) (values : List ℤ) (pairs : List (Option (ℕ × ℕ))) : Type 0 where
  pub value : ℤ
  pub kept : Kept
  pub of : IsEndOf (known_by s) (made_by s) c value kept
  pub value_at : slice_get values c ≡ Some value
  pub pair_at : slice_get pairs c ≡ Some (pair_of kept)

-- there is a place for each cell of the program, and at each stands what its shard has
pub record AreCells (code : Compiled) (shards : List ShardNow) (values : List ℤ) (pairs : List (Option (ℕ × ℕ))) : Type 0 where
  pub sizes : (length values ≡ code.cells) × (length pairs ≡ code.cells)
  pub each : (i : ℕ) (s : ShardNow) → slice_get shards i ≡ Some s → (c : ℕ) → IsCellOf code i c → HasCell s c values pairs

-- the cells that have a pair, in the order of their numbers, each with it
pub record ArePairs (pairs : List (Option (ℕ × ℕ))) (races : List Race) : Type 0 where
  pub each : All (λ r. slice_get pairs r.cell ≡ Some (Some (r.first, r.second))) races
  pub whole : (c first second : ℕ) → slice_get pairs c ≡ Some (Some (first, second)) → Any (λ r. r.cell ≡ c) races
  pub order : AreRising races

-- What a shard has at its end.
use Rattle.std.specs.Prelude.{◌≡◌, ℕ, ℤ, ◌+◌, ◌*◌, List, [], ◌∷◌, reverse}
use Rattle.fut_base.specs.declared.event.Event.{Event}
use Rattle.fut_base.specs.Dag.{Among}
use Rattle.task_code.specs.Flat.{Compiled}
use Rattle.access_shards.specs.declared.kept.Kept.{Kept}
use Rattle.access_shards.specs.Kept.{IsKept}
use Rattle.access_shards.specs.Laws.{AreOn}
use Rattle.access_shards.specs.Logged.{Logged}
use Rattle.merge_laws.specs.Parts.{value_left}
use Rattle.merge_laws.specs.Laws.{touches_in}
use Rattle.run_place.specs.Placed.{events_in}
use Rattle.run_shard.specs.Shards.{ShardNow, IsCellOf, made_by, known_by}

-- the cells of shard i from the k-th on, each with its value and what is kept of its accesses
abbrev pub cells_from : ℕ → ℕ → List ℤ → List Logged → List (ℕ × ℤ × Kept)
cells_from i k [] logs = []
cells_from i k (v ∷ values) [] = []
cells_from i k (v ∷ values) (l ∷ logs) = (8 * k + i, v, l.kept) ∷ cells_from i (k + 1) values logs

-- all cells of shard i, the last one first
abbrev pub cells_of : ℕ → List ℤ → List Logged → List (ℕ × ℤ × Kept)
cells_of i values logs = reverse (cells_from i 0 values logs)

-- by the shard's accesses and by the structural entries that it knows, of which their strands are, a cell has this value, and this has to
-- be kept of it
pub record IsEndOf (known own : List (ℕ × Event)) (c : ℕ) (value : ℤ) (kept : Kept) : Type 0 where
  pub value_is : value ≡ value_left c (reverse (events_in own))
  pub kept_is : IsKept (events_in known) (touches_in c own) kept
  pub strands : AreOn (events_in known) (touches_in c own)

-- these are the cells of the shard
pub record AreEnds (code : Compiled) (i : ℕ) (s : ShardNow) (cells : List (ℕ × ℤ × Kept)) : Type 0 where
  pub each : (c : ℕ) (value : ℤ) (kept : Kept) → Among (c, value, kept) cells → IsCellOf code i c × IsEndOf (known_by s) (made_by s) c value kept
  pub all : (c : ℕ) → IsCellOf code i c → (value : ℤ) × (kept : Kept) × Among (c, value, kept) cells

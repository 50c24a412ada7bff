-- What holds of a shard, by its holder's own list and by the structural entries that its holder knows. Lists of entries have the oldest
-- first.
use Rattle.std.specs.Prelude.{◌≡◌, ℕ, ℤ, ◌+◌, ◌*◌, ◌^◌, ◌/◌, ◌%◌, ◌<◌, ◌≤◌, List, [], length, reverse, slice_get, Some, pos}
use Rattle.atomic_table.specs.Seated.{TableId}
use Rattle.fut_base.specs.declared.event.Event.{Event}
use Rattle.fut_base.specs.Dag.{Among, edges_of}
use Rattle.fut_base.specs.Sound.{next_strand}
use Rattle.fut_syntax.specs.Trees as tree
use Rattle.fut_check.specs.Items.{IsWellTyped}
use Rattle.task_code.specs.Flat.{Compiled, IsCodeOf}
use Rattle.access_shards.specs.declared.kept.Kept.{Kept}
use Rattle.access_shards.specs.Logged.{Logged, HasRoom, IsLogOf}
use Rattle.access_shards.specs.Touches.{IsLate}
use Rattle.access_shards.specs.Kept.{IsNew}
use Rattle.event_clock.specs.Views.{number_of, own_list}
use Rattle.event_clock.specs.Rule.{Rises}
use Rattle.event_clock.specs.Seated.{Ticking, Seated}
use Rattle.order_query.specs.Reading.{Reading}
use Rattle.merge_laws.specs.Parts.{IsAccessIn, ReadsAreRight, value_left}
use Rattle.merge_laws.specs.Laws.{touches_in}
use Rattle.run_place.specs.Placed.{AreAlike, book_of, events_in}
use Rattle.run_book.specs.Jobs.{FitsProgram}

-- the number of the shard that a cell is in
abbrev pub shard_of : ℕ → ℕ
shard_of c = c % 8

-- a cell of the program that is in shard i
abbrev pub IsCellOf : Compiled → ℕ → ℕ → Type 0
IsCellOf code i c = (shard_of c ≡ i) × (c < code.cells)

-- what contracts see of a shard: its holder, its reader, and of its cells, in their order, the values and what has to be remembered
pub record ShardNow : Type 0 where
  pub holder : Seated
  pub reader : Reading
  pub values : List ℤ
  pub logs : List Logged

-- the accesses that it made
abbrev pub made_by : ShardNow → List (ℕ × Event)
made_by s = own_list s.holder.view

-- the structural entries that it knows
abbrev pub known_by : ShardNow → List (ℕ × Event)
known_by s = book_of s.holder.view

-- of the accesses of a cell its value and what is kept tell
pub record IsCell (known own : List (ℕ × Event)) (c : ℕ) (value : ℤ) (log : Logged) : Type 0 where
  -- its value is that of the last write, or 0
  pub value_is : value ≡ value_left c (reverse (events_in own))
  -- what is kept is what has to be kept of its accesses, by the paths that are known
  pub kept : IsLogOf (events_in known) (touches_in c own) log
  -- no path that is known leads from an access to another strand of an earlier one
  pub late : IsLate (edges_of (events_in known)) (touches_in c own)

-- the shard with the number i of a run
pub record IsShard (clock : Ticking) (orders : TableId) (code : Compiled) (i : ℕ) (s : ShardNow) : Type 0 where
  -- its holder is holder i + 1, so another one than holder 0, and carries no task
  pub home : (s.holder.clock ≡ clock.id) × (s.reader.home ≡ orders)
  pub number : number_of s.holder.view ≡ i + 1
  pub none : s.holder.view.tasks ≡ []
  -- what it knows is sound and fits the program, and its reader's log is that of these entries
  pub alike : AreAlike (known_by s) s.reader.log
  pub fits : (P : tree.Program) → IsWellTyped P → IsCodeOf P code → FitsProgram P (events_in (known_by s))
  -- its entries are accesses of its cells, their tickets rise, and each read has the value that the accesses before it left
  pub accesses : (x : ℕ × Event) → Among x (made_by s) → IsAccessIn shard_of i x.1.action
  pub rises : Rises (made_by s)
  pub reads : ReadsAreRight (reverse (events_in (made_by s)))
  -- their strands are among those that are known
  pub strands : (x : ℕ × Event) → Among x (made_by s) → x.1.strand < next_strand (reverse (events_in (known_by s)))
  -- of each of its cells it has the value and what is kept
  pub size : (length s.logs ≡ length s.values) × (code.cells ≤ 8 * length s.values + i) × (8 * length s.values + i < code.cells + 8)
  pub cells : (k : ℕ) (value : ℤ) (log : Logged) → slice_get s.values k ≡ Some value → slice_get s.logs k ≡ Some log
      → IsCell (known_by s) (made_by s) (8 * k + i) value log
  -- a cell has a number of 32 bits
  pub few : (code.cells < 2 ^ 32) × (i < 8)

-- holder i + 1, which made no event and carries no task
pub record IsNewHolder (clock : Ticking) (i : ℕ) (h : Seated) : Type 0 where
  pub clock_is : h.clock ≡ clock.id
  pub number : number_of h.view ≡ i + 1
  pub none : (own_list h.view ≡ []) × (h.view.tasks ≡ [])

-- what a holder knows is sound and fits the program, and a reader's log is that of these entries
pub record FitsKnown (orders : TableId) (code : Compiled) (h : Seated) (r : Reading) : Type 0 where
  pub home : r.home ≡ orders
  pub alike : AreAlike (book_of h.view) r.log
  pub fits : (P : tree.Program) → IsWellTyped P → IsCodeOf P code → FitsProgram P (events_in (book_of h.view))

-- a shard without an access
pub record IsNewShard (s : ShardNow) : Type 0 where
  pub made : made_by s ≡ []
  pub values : (k : ℕ) (value : ℤ) → slice_get s.values k ≡ Some value → value ≡ pos 0
  pub logs : (k : ℕ) (log : Logged) → slice_get s.logs k ≡ Some log → IsNew log.kept

-- there is room for one more access of a cell, and of all cells the same is kept
pub record HasRoomFor (c : ℕ) (old new : ShardNow) : Type 0 where
  pub room : (log : Logged) → slice_get new.logs (c / 8) ≡ Some log → HasRoom log
  pub kept : (k : ℕ) (a b : Logged) → slice_get old.logs k ≡ Some a → slice_get new.logs k ≡ Some b → a.kept ≡ b.kept

-- what is kept of the accesses of a cell
abbrev pub IsKeptOf : ShardNow → ℕ → Kept → Type 0
IsKeptOf s c kept = (log : Logged) × (slice_get s.logs (c / 8) ≡ Some log) × (kept ≡ log.kept)

-- Laws of sound lists of events, the newest event first.
use Rattle.std.specs.Prelude.{◌≡◌, ◌≢◌, ℕ, ◌<◌, true, ◌↔◌, List, length, ◌∷◌, ◌++◌, ◌⊎◌, Some, None}
use Rattle.fut_base.specs.declared.event.Event.{Event}
use Rattle.fut_base.specs.Events.{structure_of}
use Rattle.fut_base.specs.Dag.{edges_of, edges_past, Among, ReachesBy, block_of, last_of}
use Rattle.fut_base.specs.Orders.{precedes_past, stands_before, english_past, hebrew_past}
use Rattle.fut_base.specs.Sound.{IsSoundPast, InnerReaches, next_strand, home_of, future_of, current, holds_handle}
use Rattle.fut_base.specs.Tables.{table_past}

-- two strands of a list of events
pub record AreStrands (past : List Event) (u v : ℕ) : Type 0 where
  pub one : u < next_strand past
  pub other : v < next_strand past

-- for different strands of one future, standing before in both orders means an inner path
abbrev pub PrecedesMeansPath : Type 0
PrecedesMeansPath =
    (past : List Event) → IsSoundPast past → (u v : ℕ) → AreStrands past u v → home_of past u ≡ home_of past v → u ≢ v
    → (precedes_past past u v ≡ true) ↔ InnerReaches past u v

-- a path between two strands of one future implies an inner one
abbrev pub PathsStayInside : Type 0
PathsStayInside =
    (past : List Event) → IsSoundPast past → (u v : ℕ) → AreStrands past u v → home_of past u ≡ home_of past v
    → ReachesBy (edges_past past) u v → InnerReaches past u v

-- a strand of the table, of u's future, that is u or that u precedes
abbrev pub Covers : List Event → List ℕ → ℕ → Type 0
Covers past ws u = (w : ℕ) × Among w ws × (home_of past w ≡ home_of past u) × ((u ≡ w) ⊎ (precedes_past past u w ≡ true))

-- from a strand of another future a path leads exactly where the table has such a strand
abbrev pub TableMeansPath : Type 0
TableMeansPath =
    (past : List Event) → IsSoundPast past → (u v : ℕ) → AreStrands past u v → home_of past u ≢ home_of past v
    → ReachesBy (edges_past past) u v ↔ Covers past (table_past past v) u

-- a table has at most one strand of each future
abbrev pub TableHasOne : Type 0
TableHasOne =
    (past : List Event) → IsSoundPast past → (v w x : ℕ) → v < next_strand past → Among w (table_past past v) → Among x (table_past past v)
    → home_of past w ≡ home_of past x → w ≡ x

-- the strand of a task that another one waits for stands before the other's strand in English order: of a child of
-- the block, and of a future whose handle is held
abbrev pub WaitedStandsBefore : Type 0
WaitedStandsBefore =
    (past : List Event) → IsSoundPast past → (t q a b : ℕ) → current past t ≡ Some b → current past q ≡ Some a
    → (holds_handle past t q ≡ true) ⊎ Among q (block_of past t)
    → stands_before a b (english_past past) ≡ true

-- from the strand of a task that has not ended no path leads to another strand
abbrev pub CurrentEndsPaths : Type 0
CurrentEndsPaths =
    (past : List Event) → IsSoundPast past → (t s v : ℕ) → current past t ≡ Some s → last_of past t ≡ None
    → ReachesBy (edges_past past) s v → v ≡ s

-- further events add no path between strands that were there
abbrev pub PathsAreKept : Type 0
PathsAreKept =
    (later past : List Event) → IsSoundPast (later ++ past) → (u v : ℕ) → v < next_strand past
    → ReachesBy (edges_past (later ++ past)) u v ↔ ReachesBy (edges_past past) u v

-- a task is the first, in English order, of those that have not ended
pub record IsLeast (past : List Event) (t b : ℕ) : Type 0 where
  pub stands : current past t ≡ Some b
  pub runs : last_of past t ≡ None
  pub least : (q a : ℕ) → current past q ≡ Some a → last_of past q ≡ None → (q ≡ t) ⊎ (stands_before b a (english_past past) ≡ true)

-- what the first such task may wait for has ended: the children of its block, and each future whose handle it holds
abbrev pub LeastWaitsForNone : Type 0
LeastWaitsForNone =
    (past : List Event) → IsSoundPast past → (t b : ℕ) → IsLeast past t b → (q : ℕ)
    → (holds_handle past t q ≡ true) ⊎ Among q (block_of past t) → (last : ℕ) × (last_of past q ≡ Some last)

-- how a path is found: inside one future by the orders, and else by the table
abbrev pub TryMeansPath : Type 0
TryMeansPath =
    (past : List Event) → IsSoundPast past → (u v : ℕ) → AreStrands past u v
    → ReachesBy (edges_past past) u v ↔ (((home_of past u ≡ home_of past v) × ((u ≡ v) ⊎ (precedes_past past u v ≡ true)))
    ⊎ ((home_of past u ≢ home_of past v) × Covers past (table_past past v) u))

-- the edges of a history are those of its structure
abbrev pub StructureHasEdges : Type 0
StructureHasEdges = (h : List Event) → edges_of (structure_of h) ≡ edges_of h

-- the strand on which a task stands belongs to the task's future
abbrev pub CurrentBelongs : Type 0
CurrentBelongs = (past : List Event) → IsSoundPast past → (t s : ℕ) → current past t ≡ Some s → home_of past s ≡ future_of past t

-- a further event changes the future of no strand that was there
abbrev pub HomesStay : Type 0
HomesStay = (past : List Event) (e : Event) → IsSoundPast (e ∷ past) → (v : ℕ) → v < next_strand past → home_of (e ∷ past) v ≡ home_of past v

-- both orders have as many items as there are strands
abbrev pub OrdersHaveStrands : Type 0
OrdersHaveStrands =
    (past : List Event) → IsSoundPast past → (length (english_past past) ≡ next_strand past) × (length (hebrew_past past) ≡ next_strand past)

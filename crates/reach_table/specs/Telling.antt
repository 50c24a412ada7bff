-- What a table is, and what an answer tells of paths.
use Rattle.std.specs.Prelude.{◌≡◌, ◌≢◌, ℕ, ◌+◌, ◌%◌, ◌<◌, ◌≤◌, Bool, true, ◌↔◌, ◌⊎◌, List, [], ◌∷◌, ◌++◌, map, reverse}
use Rattle.order_list.specs.declared.judge.Moved.{Moved}
use Rattle.fut_base.specs.declared.event.Event.{Event}
use Rattle.fut_base.specs.Dag.{Among, ReachesBy, edges_past}
use Rattle.fut_base.specs.Orders.{stands_before, english_of, hebrew_of}
use Rattle.fut_base.specs.Sound.{IsSound, next_strand}
use Rattle.fut_base.specs.Tables.{table_of}
use Rattle.strand_tree.specs.declared.strand.Strand.{Strand}
use Rattle.strand_tree.specs.Placing.{IsStrandOf}

abbrev pub number_of : Strand → ℕ
number_of v = v.number

-- the strands of the list are, as a set, the table of strand v of some structural events, each with its future
pub record HasTable (s : List Event) (v : ℕ) (table : List Strand) : Type 0 where
  pub same : (x : ℕ) → Among x (map number_of table) ↔ Among x (table_of s v)
  pub homes : (w : Strand) → Among w table → IsStrandOf s w

-- a strand of some structural events that is among those that are known, with the lesser numbers
pub record IsKnownOf (s : List Event) (known x : ℕ) : Type 0 where
  pub less : x < known
  pub there : x < next_strand (reverse s)

-- two lists have any two known strands of some structural events in the order that these events give them
pub record OrdersAgree (s : List Event) (known : ℕ) (english hebrew : List ℕ) : Type 0 where
  pub first : (x y : ℕ) → IsKnownOf s known x → IsKnownOf s known y → x ≢ y → stands_before x y english ≡ stands_before x y (english_of s)
  pub second : (x y : ℕ) → IsKnownOf s known x → IsKnownOf s known y → x ≢ y → stands_before x y hebrew ≡ stands_before x y (hebrew_of s)

-- each strand of the list is among those that are known
abbrev pub AllKnown : ℕ → List Strand → Type 0
AllKnown known ws = (w : Strand) → Among w ws → w.number < known

-- for any sound structural events with these two strands, of which the second has this table, and whose orders the
-- lists have, the answer tells whether the first strand is the second or a path leads from it to the second
abbrev pub TellsReach : List Strand → Strand → Strand → ℕ → List ℕ → List ℕ → Bool → Type 0
TellsReach table u v known english hebrew answer =
    (s : List Event) → IsSound s → IsStrandOf s u → IsStrandOf s v → HasTable s v.number table → OrdersAgree s known english hebrew
    → (answer ≡ true) ↔ ReachesBy (edges_past (reverse s)) u.number v.number

-- labels may move, and these two versions were loaded last, of which the first is odd or the second another
pub record HasMovedLast (moved : Moved) (may_move : Bool) (before after : List ℕ) : Type 0 where
  pub may : may_move ≡ true
  pub loads : (more : List ℕ) × (after ≡ before ++ (more ++ moved.first ∷ moved.second ∷ []))
  pub differ : (moved.first % 2 ≡ 1) ⊎ (moved.first ≢ moved.second)

-- x is y, or stands before it in both lists
abbrev pub IsOrPrecedes : List ℕ → List ℕ → ℕ → ℕ → Type 0
IsOrPrecedes english hebrew x y = (x ≡ y) ⊎ ((stands_before x y english ≡ true) × (stands_before x y hebrew ≡ true))

-- x is one of these strands, or stands before one of them in both lists
abbrev pub ReachesOne : List ℕ → List ℕ → ℕ → List Strand → Type 0
ReachesOne english hebrew x ws = (w : Strand) × Among w ws × IsOrPrecedes english hebrew x w.number

-- the list has at most one strand of each future
abbrev pub HasOneOfEach : List Strand → Type 0
HasOneOfEach ws = (w x : Strand) → Among w ws → Among x ws → w.future ≡ x.future → w ≡ x

-- by a table with at most one strand of each future, a judge that was asked so often before was asked n times more at most
abbrev pub AsksAtMost : List Strand → ℕ → ℕ → ℕ → Type 0
AsksAtMost table n before after = HasOneOfEach table → after ≤ before + n

-- What is left where tables are put together.
use Rattle.std.specs.Prelude.{◌≡◌, ◌≢◌, ℕ, ◌<◌, Bool, true, false, ◌&&◌, ◌↔◌, List, [], ◌∷◌, ◌++◌, map, reverse, flat_map, get_or, Option, Some, None}
use Rattle.order_list.specs.Ordered.{stands_before}
use Rattle.order_list.specs.Sides.{Lists}
use Rattle.fut_base.specs.declared.event.Event.{Event}
use Rattle.fut_base.specs.Dag.{Among}
use Rattle.fut_base.specs.Sound.{next_strand}
use Rattle.fut_base.specs.Tables.{maximal, table_past}
use Rattle.strand_tree.specs.declared.strand.Strand.{Strand}
use Rattle.strand_tree.specs.Placing.{IsStrandOf}
use Rattle.reach_table.specs.Telling.{number_of}

-- x stands before y in both lists
abbrev pub precedes_in : Lists → ℕ → ℕ → Bool
precedes_in lists x y = stands_before x y lists.english.order && stands_before x y lists.hebrew.order

abbrev pub listed : Option Strand → List Strand
listed None = []
listed (Some v) = v ∷ []

-- the strands of two tables, and one more
abbrev pub together : List Strand → List Strand → Option Strand → List Strand
together one other last = one ++ other ++ listed last

-- the strand at a place
abbrev pub strand_at : List Strand → ℕ → Strand
strand_at ws place = get_or ws place (record { number = 0; future = 0 })

-- one of these strands, which is not of future `own` and does not precede another of these of its own future
pub record IsGreatest (lists : Lists) (own : ℕ) (ws : List Strand) (w : Strand) : Type 0 where
  pub among : Among w ws
  pub foreign : w.future ≢ own
  pub greatest : (x : Strand) → Among x ws → x.future ≡ w.future → x.number ≢ w.number → precedes_in lists w.number x.number ≡ false

-- the strands of the list are, as a set, what the tables of some strands leave for a strand of future `own`
pub record IsMergedOf (s : List Event) (own : ℕ) (strands : List ℕ) (table : List Strand) : Type 0 where
  pub same : (x : ℕ) → Among x (map number_of table) ↔ Among x (maximal (reverse s) own (flat_map (table_past (reverse s)) strands))
  pub homes : (w : Strand) → Among w table → IsStrandOf s w
  pub there : (v : ℕ) → Among v strands → v < next_strand (reverse s)

-- a strand precedes another one of these
abbrev pub PrecedesOne : Lists → Strand → List Strand → Type 0
PrecedesOne lists w ws = (x : Strand) × Among x ws × (x.number ≢ w.number) × (precedes_in lists w.number x.number ≡ true)

-- Of accesses in the English order of one future, those from which a strand is reached.
use Rattle.std.specs.Prelude.{◌≡◌, ℕ, ◌+◌, ◌-◌, ◌<◌, ◌≤◌, Bool, true, List, ◌⊎◌, length, get_or}
use Rattle.fut_base.specs.Dag.{Among}
use Rattle.fut_base.specs.Orders.{stands_before}
use Rattle.reach_table.specs.Telling.{IsOrPrecedes}
use Rattle.strand_tree.specs.declared.strand.Strand.{Strand}
use Rattle.access_shards.specs.declared.kept.Access.{Access}
use Rattle.access_shards.specs.declared.run.Stand.{Stand}
use Rattle.access_shards.specs.declared.run.Stand.TheVariants.{Reaching, Before, After}
use Rattle.access_shards.specs.declared.run.Span.{Span}
use Rattle.access_shards.specs.declared.run.Run.{Run}
use Rattle.access_shards.specs.Kept.{IsInOrder}

-- the access at a place of a list
abbrev pub access_at : List Access → ℕ → Access
access_at all i = get_or all i (record { place = 0; strand = record { number = 0; future = 0 } })

-- in a list in the order of places, the first n accesses alone are before a place
pub record IsParted (place : ℕ) (all : List Access) (n : ℕ) : Type 0 where
  pub before : (i : ℕ) → i < n → (access_at all i).place < place
  pub after : (i : ℕ) → n ≤ i → i < length all → place ≤ (access_at all i).place

-- reads in the order of places, and a list of some of them
pub record IsRow (readers row : List Access) : Type 0 where
  pub order : IsInOrder readers
  pub each : (a : Access) → Among a row → Among a readers

-- a list of reads is their own one, or, where it is said to be another one, is one of some of them
abbrev pub MayBeRow : Bool → List Access → List Access → Type 0
MayBeRow listed readers row = listed ≡ true → IsRow readers row

-- an access is on the strand `at`, or stands before it in a list
abbrev pub IsUpTo : List ℕ → Strand → Access → Type 0
IsUpTo english at a = (a.strand.number ≡ at.number) ⊎ (stands_before a.strand.number at.number english ≡ true)

-- an access is on the strand `at`, or stands before it in both lists
abbrev pub IsReaching : List ℕ → List ℕ → Strand → Access → Type 0
IsReaching english hebrew at a = IsOrPrecedes english hebrew a.strand.number at.number

-- how an access stands to a strand
abbrev pub TellsStand : List ℕ → List ℕ → Strand → Access → Stand → Type 0
TellsStand english hebrew at a Reaching = IsReaching english hebrew at a
TellsStand english hebrew at a Before = IsUpTo english at a × (IsReaching english hebrew at a → ⊥)
TellsStand english hebrew at a After = IsUpTo english at a → ⊥

-- the places of a span are in order, and within a list of so many
pub record AreBounds (count : ℕ) (span : Span) : Type 0 where
  pub floor_is : span.floor ≤ span.start
  pub start_is : span.start ≤ span.low
  pub low_is : span.low ≤ span.high
  pub high_is : span.high ≤ count

-- the access before the floor is not reaching, that at the start is, where it is before the low place; that before the low
-- place is up to the strand, and that at the high place is not
pub record IsSpan (english hebrew : List ℕ) (at : Strand) (row : List Access) (span : Span) : Type 0 where
  pub left : 0 < span.floor → IsReaching english hebrew at (access_at row (span.floor - 1)) → ⊥
  pub first : span.start < span.low → IsReaching english hebrew at (access_at row span.start)
  pub last : 0 < span.low → IsUpTo english at (access_at row (span.low - 1))
  pub right : span.high < length row → IsUpTo english at (access_at row span.high) → ⊥

pub record Spans (english hebrew : List ℕ) (at : Strand) (listed : Bool) (readers row : List Access) (span : Span) : Type 0 where
  pub bounds : AreBounds (length row) span
  pub is : MayBeRow listed readers row → IsSpan english hebrew at row span

-- a span is narrowed at a place: the place is its new high place, or before its new low one; and it has one access less
-- that was not looked at
pub record IsNarrower (count : ℕ) (span : Span) (middle : ℕ) (next : Span) : Type 0 where
  pub bounds : AreBounds count next
  pub sides : ((next.low ≡ span.low) × (next.high ≡ middle)) ⊎ ((next.low ≡ middle + 1) × (next.high ≡ span.high))
  pub counts : next.start + next.high + span.floor + span.low + 1 ≤ span.start + span.high + next.floor + next.low

-- what was known of a span, and how the access at a place of it stands, is what is known of the next one
pub record Narrows (span : Span) (middle : ℕ) (stand : Stand) (next : Span) : Type 0 where
  pub narrower : (count : ℕ) → AreBounds count span → span.low ≤ middle → middle < span.high → IsNarrower count span middle next
  pub is : (english hebrew : List ℕ) (at : Strand) (row : List Access) → AreBounds (length row) span → span.low ≤ middle → middle < span.high
      → IsSpan english hebrew at row span → TellsStand english hebrew at (access_at row middle) stand → IsSpan english hebrew at row next

pub record LooksAt (english hebrew : List ℕ) (at : Strand) (listed : Bool) (readers row : List Access) (span : Span) (middle : ℕ) (next : Span) : Type 0 where
  pub narrower : IsNarrower (length row) span middle next
  pub is : MayBeRow listed readers row → IsSpan english hebrew at row span → IsSpan english hebrew at row next

-- the accesses of a run, and no others, are reaching, and its end is the place of the strand: by the accesses beside its
-- start and its end
pub record IsRun (english hebrew : List ℕ) (at : Strand) (row : List Access) (run : Run) : Type 0 where
  pub left : 0 < run.start → IsReaching english hebrew at (access_at row (run.start - 1)) → ⊥
  pub first : run.start < run.end → IsReaching english hebrew at (access_at row run.start)
  pub last : 0 < run.end → IsUpTo english at (access_at row (run.end - 1))
  pub right : run.end < length row → IsUpTo english at (access_at row run.end) → ⊥

pub record AreRun (english hebrew : List ℕ) (at : Strand) (listed : Bool) (readers row : List Access) (run : Run) : Type 0 where
  pub start_is : run.start ≤ run.end
  pub end_is : run.end ≤ length row
  pub is : MayBeRow listed readers row → IsRun english hebrew at row run

-- the last access, where there is one, is on a strand of a future
abbrev pub EndsIn : ℕ → List Access → Type 0
EndsIn future all = 0 < length all → (access_at all (length all - 1)).strand.future ≡ future

-- The tables of the strands on which tasks go on after a sync and after a get. Lists of events called `past` have the newest event first.
use Rattle.std.specs.Prelude.{◌≡◌, ℕ, List, [], ◌∷◌, ◌++◌, length, slice_get, Option, Some, None}
use Rattle.order_list.specs.Sides.{Lists}
use Rattle.fut_base.specs.declared.record.Value.{Value}
use Rattle.fut_base.specs.declared.event.Event.{Event}
use Rattle.fut_base.specs.declared.event.Action.TheVariants.{Gets}
use Rattle.fut_base.specs.Dag.{Among}
use Rattle.fut_base.specs.Sound.{IsSound, AllEnded, next_task}
use Rattle.fut_base.specs.Tables.{lasts_of}
use Rattle.task_code.specs.Flat.{Compiled}
use Rattle.strand_tree.specs.declared.strand.Strand.{Strand}
use Rattle.strand_tree.specs.Placing.{AreOrders, IsStrandOf}
use Rattle.reach_table.specs.Telling.{HasTable, AllKnown}
use Rattle.reach_table.specs.Merging.{IsMergedOf}
use Rattle.run_place.specs.Placed.{events_in}
use Rattle.run_book.specs.Drawn.{past_in}
use Rattle.run_book.specs.Lines.{LineNow, Ended, IsLineOf}

-- the lines are those of all tasks of some structural entries
pub record AreLines (code : Compiled) (book : List (ℕ × Event)) (lines : List LineNow) : Type 0 where
  pub all : length lines ≡ next_task (past_in book)
  pub each : (t : ℕ) (l : LineNow) → slice_get lines t ≡ Some l → IsLineOf code book t l

-- where the task of a line ended
abbrev pub end_by : Option LineNow → Option Ended
end_by None = None
end_by (Some l) = l.last

-- where a task ended
abbrev pub end_in : List LineNow → ℕ → Option Ended
end_in lines t = end_by (slice_get lines t)

-- the last strand of the first of these tasks
abbrev pub first_end : List LineNow → List ℕ → Option Ended
first_end lines [] = None
first_end lines (t ∷ _) = end_in lines t

-- a strand with its table is among those that are known
abbrev pub IsKnownEnd : ℕ → Option Ended → Type 0
IsKnownEnd known None = Unit {0}
IsKnownEnd known (Some e) = AllKnown known (e.at ∷ e.table)

-- so are those where these tasks ended
abbrev pub AreKnownEnds : ℕ → List LineNow → List ℕ → Type 0
AreKnownEnds known lines tasks = (t : ℕ) → Among t tasks → IsKnownEnd known (end_in lines t)

-- the lists are the orders of some structural entries, of which the lines tell, and to which a strand of future `own` belongs, with its table
pub record StandsBy (code : Compiled) (book : List (ℕ × Event)) (lines : List LineNow) (lists : Lists) (at : Strand) (own : ℕ) (table : List Strand) : Type
    0 where
  pub sound : IsSound (events_in book)
  pub lines_are : AreLines code book lines
  pub orders : AreOrders (events_in book) lists.english.order lists.hebrew.order
  pub strand : IsStrandOf (events_in book) at
  pub own_is : own ≡ at.future
  pub has : HasTable (events_in book) at.number table

-- the table is what the tables of a strand and of the last strands of these tasks, which have ended, leave
abbrev pub MergesEnds : List LineNow → Lists → List Strand → ℕ → List ℕ → List Strand → Type 0
MergesEnds lines lists old own tasks new =
    (code : Compiled) (book : List (ℕ × Event)) (at : Strand) → StandsBy code book lines lists at own old → AllEnded (past_in book) tasks
    → IsMergedOf (events_in book) own (at.number ∷ lasts_of (past_in book) tasks) new

-- the table is that of the strand on which a task goes on after a get of this future
abbrev pub TablesGet : List LineNow → Lists → List Strand → ℕ → ℕ → List Strand → Type 0
TablesGet lines lists old own future new =
    (code : Compiled) (book : List (ℕ × Event)) (at : Strand) (ticket task strand : ℕ) (value : Value) → StandsBy code book lines lists at own old
    → IsSound (events_in (book ++ (ticket, record { task = task; strand = at.number; action = Gets future value strand }) ∷ []))
    → HasTable (events_in (book ++ (ticket, record { task = task; strand = at.number; action = Gets future value strand }) ∷ [])) strand new

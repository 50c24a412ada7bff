-- A run worked out by hand, and what the words of the laws say of it.
use Rattle.std.specs.Prelude.{◌≡◌, pos, List, [], ◌∷◌, codes, count_by, slice_get, Some}
use Rattle.fut_base.specs.declared.record.Value.TheVariants.{Int}
use Rattle.fut_base.specs.declared.event.Event.{Event}
use Rattle.fut_base.specs.declared.event.Action.TheVariants.{Creates, Gets, Ends}
use Rattle.fut_base.specs.Events.{structure_of}
use Rattle.fut_base.specs.Sound.{IsSound}
use Rattle.fut_base.specs.Rows.{ev}
use Rattle.fut_syntax.specs.Trees as tree
use Rattle.task_machine.specs.Machine.{Machine, Running, opening, IsAllowed, IsWhole, Leads}
use Rattle.task_machine.specs.Rows.{literal}
use Rattle.run_laws.specs.Laws.{Mirrors, past_of, begins_strand, leaves_strand, EndedBefore, Knows, IsFutureBefore, IsFirst, HasCells}

-- cells a[1]; task kid() int { return 7; } task main() int { var x: fut int = create kid(); var y: int = get x; return y; }
abbrev pub future_program : tree.Program
future_program =
    record {
      first = tree.CellsOf (codes "a") 1;
      others =
          tree.TaskOf (codes "kid") [] 0 (tree.Then (tree.Return' (literal 7)) tree.Done)
          ∷ tree.TaskOf (codes "main") [] 0
          (tree.Then (tree.Define (codes "x") (tree.Plain 1) (tree.CreateOf (codes "kid") []))
          (tree.Then (tree.Define (codes "y") (tree.Plain 0) (tree.GetOf (codes "x")))
          (tree.Then (tree.Return' (tree.Alone (tree.Signed tree.NoSign (tree.Name (codes "y"))))) tree.Done)))
          ∷ [];
    }

-- `main` makes the future
abbrev pub made : List Event
made = ev 0 0 (Creates 0 1 1 2 []) ∷ []

-- its task ends with 7
abbrev pub ended : List Event
ended = ev 0 0 (Creates 0 1 1 2 []) ∷ ev 1 1 (Ends (Int (pos 7))) ∷ []

-- `main` gets it
abbrev pub future_history : List Event
future_history = ev 0 0 (Creates 0 1 1 2 []) ∷ ev 1 1 (Ends (Int (pos 7))) ∷ ev 0 2 (Gets 1 (Int (pos 7)) 3) ∷ ev 0 3 (Ends (Int (pos 7))) ∷ []

-- the machine after `main` made the future: `main` knows it, its task stands before `main` and is the first, and may go on
pub record MadeRow (m : Machine) (main kid : Running) : Type 0 where
  pub leads : Leads future_program (opening future_program) made m
  pub main_is : slice_get m.tasks 0 ≡ Some main
  pub kid_is : slice_get m.tasks 1 ≡ Some kid
  pub mirrors : Mirrors (past_of made) m
  pub knows : Knows main 1
  pub before : IsFutureBefore made m 1 main.strand
  pub first : IsFirst made m 1 kid
  pub goes : IsAllowed future_program m 1

-- what holds of the run
pub record FutureRow : Type 0 where
  pub cells : HasCells future_program
  pub whole : IsWhole future_program future_history
  pub sound : IsSound (structure_of future_history)
  pub begun : (count_by (begins_strand 0) future_history ≡ 0) × (count_by (begins_strand 1) future_history ≡ 1)
      × (count_by (begins_strand 3) future_history ≡ 1) × (count_by (begins_strand 4) future_history ≡ 0)
  pub left : (count_by (leaves_strand 0) future_history ≡ 1) × (count_by (leaves_strand 1) future_history ≡ 1) × (count_by (leaves_strand 3) future_history ≡ 1)
  pub got : EndedBefore ended future_history 1 (Int (pos 7))
  pub early : (m : Machine) × (main : Running) × (kid : Running) × MadeRow m main kid

-- Programs with two different whole runs, worked out by hand.
use Rattle.std.specs.Prelude.{◌≡◌, pos, List, [], ◌∷◌, codes, ℤ}
use Rattle.fut_base.specs.declared.record.Value.TheVariants.{Int}
use Rattle.fut_base.specs.declared.event.Event.{Event}
use Rattle.fut_base.specs.declared.event.Action.TheVariants.{Writes, Spawns, Syncs, Ends}
use Rattle.fut_base.specs.Racing.{IsReport}
use Rattle.fut_base.specs.Rows.{ev}
use Rattle.fut_syntax.specs.Trees as tree
use Rattle.task_machine.specs.Machine.{Machine, opening, Leads, EachEnded}
use Rattle.task_machine.specs.Rows.{literal, spawn_program, spawn_history}

-- a whole history of a program, which leaves these values in the cells
pub record IsWholeWith (P : tree.Program) (h : List Event) (cells : List ℤ) : Type 0 where
  pub machine : Machine
  pub leads : Leads P (opening P) h machine
  pub ended : EachEnded machine.tasks
  pub cells_are : machine.cells ≡ cells

-- cells a[2]; task kid() int { a[1] = 1; return 0; } task main() int { spawn kid(); a[0] = 2; sync; return 0; }
abbrev pub apart_program : tree.Program
apart_program =
    record {
      first = tree.CellsOf (codes "a") 2;
      others =
          tree.TaskOf (codes "kid") [] 0 (tree.Then (tree.Store (codes "a") (literal 1) (literal 1)) (tree.Then (tree.Return' (literal 0)) tree.Done))
          ∷ tree.TaskOf (codes "main") [] 0
          (tree.Then (tree.SpawnOf (codes "kid") [])
          (tree.Then (tree.Store (codes "a") (literal 0) (literal 2))
          (tree.Then tree.SyncAll (tree.Then (tree.Return' (literal 0)) tree.Done))))
          ∷ [];
    }

-- its child writes first
abbrev pub child_first : List Event
child_first =
    ev 0 0 (Spawns 0 1 1 2 []) ∷ ev 1 1 (Writes 1 (pos 1)) ∷ ev 1 1 (Ends (Int (pos 0)))
    ∷ ev 0 2 (Writes 0 (pos 2)) ∷ ev 0 2 (Syncs 3) ∷ ev 0 3 (Ends (Int (pos 0))) ∷ []

-- its main task writes first
abbrev pub main_first : List Event
main_first =
    ev 0 0 (Spawns 0 1 1 2 []) ∷ ev 0 2 (Writes 0 (pos 2)) ∷ ev 1 1 (Writes 1 (pos 1))
    ∷ ev 1 1 (Ends (Int (pos 0))) ∷ ev 0 2 (Syncs 3) ∷ ev 0 3 (Ends (Int (pos 0))) ∷ []

-- the same where both write one cell
abbrev pub main_first_to_one_cell : List Event
main_first_to_one_cell =
    ev 0 0 (Spawns 0 1 1 2 []) ∷ ev 0 2 (Writes 0 (pos 2)) ∷ ev 1 1 (Writes 0 (pos 1))
    ∷ ev 1 1 (Ends (Int (pos 0))) ∷ ev 0 2 (Syncs 3) ∷ ev 0 3 (Ends (Int (pos 0))) ∷ []

-- each of two tasks writes a cell of its own: two whole runs, one of them seen to have no race, with the same cells
pub record ApartRow : Type 0 where
  pub first : IsWholeWith apart_program child_first (pos 2 ∷ pos 1 ∷ [])
  pub report : IsReport child_first []
  pub other : IsWholeWith apart_program main_first (pos 2 ∷ pos 1 ∷ [])

-- both write one cell: two whole runs with other cells
pub record RacyRow : Type 0 where
  pub first : IsWholeWith spawn_program spawn_history (pos 2 ∷ [])
  pub other : IsWholeWith spawn_program main_first_to_one_cell (pos 1 ∷ [])

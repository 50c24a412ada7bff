-- A run worked out by hand, and what the words of the laws say of it.
use Rattle.std.specs.Prelude.{◌≡◌, ℕ, ◌%◌, pos, List, [], ◌∷◌, Some, codes}
use Rattle.fut_base.specs.declared.record.Value.TheVariants.{Int}
use Rattle.fut_base.specs.declared.event.Event.{Event}
use Rattle.fut_base.specs.declared.event.Action.TheVariants.{Reads, Writes, Spawns, Syncs, Ends}
use Rattle.fut_base.specs.Sound.{current}
use Rattle.fut_base.specs.Rows.{ev}
use Rattle.fut_syntax.specs.Trees as tree
use Rattle.task_machine.specs.State.{TaskState}
use Rattle.task_machine.specs.Runs.{IsStateAfter}
use Rattle.task_machine.specs.Machine.{IsLegal}
use Rattle.task_machine.specs.Rows.{literal}
use Rattle.run_laws.specs.Laws.{HasCells}
use Rattle.merge_laws.specs.Parts.{Drawn, IsMerge, past_below, IsSharedRun}
use Rattle.event_clock.specs.Rule.{own_of, trace_of}
use Rattle.merge_laws.specs.Logs.{history_of}

-- cells a[1]; task kid() int { a[0] = 1; return 0; } task main() int { spawn kid(); sync; var x: int = a[0]; return x; }
abbrev pub read_program : tree.Program
read_program =
    record {
      first = tree.CellsOf (codes "a") 1;
      others =
          tree.TaskOf (codes "kid") [] 0 (tree.Then (tree.Store (codes "a") (literal 0) (literal 1)) (tree.Then (tree.Return' (literal 0)) tree.Done))
          ∷ tree.TaskOf (codes "main") [] 0
          (tree.Then (tree.SpawnOf (codes "kid") [])
          (tree.Then tree.SyncAll
          (tree.Then (tree.Define (codes "x") (tree.Plain 0) (tree.Index (codes "a") (literal 0)))
          (tree.Then (tree.Return' (tree.Alone (tree.Signed tree.NoSign (tree.Name (codes "x"))))) tree.Done))))
          ∷ [];
    }

-- three holders draw, the newest draw first: the first has the structural entries, and the accesses of each cell are in one of the others
abbrev pub read_log : List (ℕ × Event)
read_log =
    (0, ev 0 3 (Ends (Int (pos 1)))) ∷ (1, ev 0 3 (Reads 0 (pos 1))) ∷ (0, ev 0 2 (Syncs 3))
    ∷ (0, ev 1 1 (Ends (Int (pos 0)))) ∷ (1, ev 1 1 (Writes 0 (pos 1))) ∷ (0, ev 0 0 (Spawns 0 1 1 2 [])) ∷ []

abbrev pub book : List Drawn
book = own_of 0 read_log

abbrev pub shards : List (List Drawn)
shards = own_of 1 read_log ∷ own_of 2 read_log ∷ []

abbrev pub traces : List (ℕ × List Drawn)
traces = (0, trace_of 0 read_log) ∷ (1, trace_of 1 read_log) ∷ []

pub record MergeRow : Type 0 where
  pub book_is : book ≡ (0, ev 0 0 (Spawns 0 1 1 2 [])) ∷ (2, ev 1 1 (Ends (Int (pos 0)))) ∷ (3, ev 0 2 (Syncs 3)) ∷ (5, ev 0 3 (Ends (Int (pos 1)))) ∷ []
  pub cells : HasCells read_program
  pub run : IsSharedRun read_program 6 (λ c. c % 2) book shards traces
  pub merge : IsMerge (book ∷ shards) (history_of read_log)
  pub legal : IsLegal read_program (history_of read_log)

-- cells a[1]; task main() int { return 0; a[0] = 1; }
abbrev pub ended_program : tree.Program
ended_program =
    record {
      first = tree.CellsOf (codes "a") 1;
      others = tree.TaskOf (codes "main") [] 0
          (tree.Then (tree.Return' (literal 0)) (tree.Then (tree.Store (codes "a") (literal 0) (literal 1)) tree.Done)) ∷ [];
    }

abbrev pub ended_book : List Drawn
ended_book = (0, ev 0 0 (Ends (Int (pos 0)))) ∷ []

abbrev pub ended_trace : List Event
ended_trace = ev 0 0 (Ends (Int (pos 0))) ∷ ev 0 0 (Writes 0 (pos 1)) ∷ []

-- a state and a current strand alone do not say that a task has not ended: this trace leads to a state, and its second
-- entry is on the task's current strand, yet it is not legal
pub record EndedRow : Type 0 where
  pub state : (s : TaskState) × IsStateAfter ended_program 0 [] ended_trace s
  pub stands : current (past_below 1 ended_book) 0 ≡ Some 0
  pub not_legal : IsLegal ended_program ended_trace → ⊥

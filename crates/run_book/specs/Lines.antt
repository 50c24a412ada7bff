-- What the book has of a task. Lists of events called `past` have the newest event first.
use Rattle.std.specs.Prelude.{◌≡◌, ℕ, ◌+◌, ◌<◌, List, [], ◌∷◌, Option, Some, None, ◌↔◌}
use Rattle.fut_base.specs.declared.record.Value.{Value}
use Rattle.fut_base.specs.declared.event.Event.{Event}
use Rattle.fut_base.specs.declared.event.Action.{Action}
use Rattle.fut_base.specs.declared.event.Action.TheVariants.{Spawns}
use Rattle.fut_base.specs.Dag.{Among, last_of, block_of}
use Rattle.fut_base.specs.Sound.{value_of}
use Rattle.task_machine.specs.State.{ToSync, ToGet}
use Rattle.task_code.specs.Flat.{Compiled}
use Rattle.strand_tree.specs.declared.strand.Strand.{Strand}
use Rattle.strand_tree.specs.Placing.{IsStrandOf}
use Rattle.reach_table.specs.Telling.{HasTable}
use Rattle.run_place.specs.Placed.{events_in}
use Rattle.run_book.specs.Drawn.{past_in}
use Rattle.run_book.specs.Jobs.{JobNow, Stands}

-- a strand with its table
pub record Ended : Type 0 where
  pub at : Strand
  pub table : List Strand

-- of a task: the task that spawned it; the children of its block, with room for more, how many of them have not ended, and its own job
-- while it waits for them; its value, and the jobs that wait for it; and where it ended
pub record LineNow : Type 0 where
  pub parent : Option ℕ
  pub block : List ℕ
  pub room : ℕ
  pub count : ℕ
  pub waiter : Option JobNow
  pub value : Option Value
  pub waiters : List JobNow
  pub last : Option Ended

-- the line of a task that begins
abbrev pub new_line : Option ℕ → LineNow
new_line parent = record { parent = parent; block = []; room = 0; count = 0; waiter = None; value = None; waiters = []; last = None }

-- an action spawns this task
abbrev pub spawns_task : ℕ → Action → Type 0
spawns_task t (Spawns _ child _ _ _) = child ≡ t
spawns_task t _ = ⊥

-- one task spawned another
abbrev pub Spawned : List Event → ℕ → ℕ → Type 0
Spawned events parent t = (e : Event) × Among e events × (e.task ≡ parent) × spawns_task t e.action

-- 1 where a task has not ended
abbrev pub still : Option ℕ → ℕ
still None = 1
still (Some _) = 0

-- how many of these tasks have not ended
abbrev pub unended : List Event → List ℕ → ℕ
unended past [] = 0
unended past (t ∷ ts) = still (last_of past t) + unended past ts

-- where a task ended, with the table of that strand
abbrev pub IsEndOf : List (ℕ × Event) → ℕ → Option Ended → Type 0
IsEndOf book t None = last_of (past_in book) t ≡ None
IsEndOf book t (Some e) =
    (last_of (past_in book) t ≡ Some e.at.number) × IsStrandOf (events_in book) e.at × HasTable (events_in book) e.at.number e.table

-- the line of a task is what a list of structural entries makes of it; the jobs that wait there stand at a wish that these entries do
-- not allow, and only a task that was not spawned has jobs that wait for its value
pub record IsLineOf (code : Compiled) (book : List (ℕ × Event)) (t : ℕ) (l : LineNow) : Type 0 where
  pub parent : (p : ℕ) → (l.parent ≡ Some p) ↔ Spawned (events_in book) p t
  pub block : l.block ≡ block_of (past_in book) t
  pub count : l.count ≡ unended (past_in book) l.block
  pub value : l.value ≡ value_of (past_in book) t
  pub last : IsEndOf book t l.last
  pub waiter : (j : JobNow) → l.waiter ≡ Some j → (j.task.number ≡ t) × (j.pace ≡ 1) × (0 < l.count) × Stands code j.task (λ P w. w ≡ ToSync)
  pub waiters : (j : JobNow) → Among j l.waiters → (l.value ≡ None) × (l.parent ≡ None) × (j.pace ≡ 1) × Stands code j.task (λ P w. w ≡ ToGet t)

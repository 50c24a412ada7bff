-- The machine that makes the entries of a run one after the other.
use Rattle.std.specs.Prelude.{◌≡◌, ℕ, ◌+◌, Bool, true, false, List, [], ◌∷◌, ◌++◌, length, replicate, slice_get}
use Rattle.std.specs.Prelude.{slice_set, count_by, ℤ, pos, Option, Some, None, IsSome, option_and_then}
use Rattle.fut_base.specs.declared.limits.TheConstants.{MOST_CREATES}
use Rattle.fut_base.specs.declared.record.Value.{Value}
use Rattle.fut_base.specs.declared.record.Finish.{Finish}
use Rattle.fut_base.specs.declared.record.Finish.TheVariants as finish
use Rattle.fut_base.specs.declared.event.Event.{Event}
use Rattle.fut_base.specs.declared.event.Action.{Action}
use Rattle.fut_base.specs.declared.event.Action.TheVariants.{Reads, Writes, Spawns, Creates, Syncs, Gets, Ends}
use Rattle.fut_base.specs.Dag.{block_after}
use Rattle.fut_base.specs.Sound.{value_by, strands_by}
use Rattle.fut_syntax.specs.Trees as tree
use Rattle.task_machine.specs.Texts.{cell_count, main_of}
use Rattle.task_machine.specs.State.{TaskState, ToCreate, wish_of, effect_of, start_state, Answers}
use Rattle.task_machine.specs.Runs.{StandsAt, IsOutOfSteps}

-- a task of the run: which task of the text it runs, its state after its last entry, its current strand, its future, the
-- children that it has spawned since its last sync, and the value with which it has ended
pub record Running : Type 0 where
  pub which : ℕ
  pub state : TaskState
  pub strand : ℕ
  pub future : ℕ
  pub block : List ℕ
  pub value : Option Value

-- the tasks by number, the cells by number, and the next strand number; the next task number is the number of tasks
pub record Machine : Type 0 where
  pub tasks : List Running
  pub cells : List ℤ
  pub strands : ℕ

-- a task that begins
abbrev pub begins : tree.Program → ℕ → List Value → ℕ → ℕ → Running
begins P which args strand future = record { which = which; state = start_state P which args; strand = strand; future = future; block = []; value = None }

-- `main` alone, on strand 0 and in future 0
abbrev pub opening : tree.Program → Machine
opening P = record { tasks = begins P (main_of P) [] 0 0 ∷ []; cells = replicate (cell_count P) (pos 0); strands = 1 }

-- the value with which a task has ended
abbrev pub ended_with : Machine → ℕ → Option Value
ended_with m t = option_and_then (λ (r : Running). r.value) (slice_get m.tasks t)

-- each of these tasks has ended
abbrev pub AllHaveEnded : Machine → List ℕ → Type 0
AllHaveEnded m [] = Unit {0}
AllHaveEnded m (t ∷ ts) = IsSome (ended_with m t) × AllHaveEnded m ts

-- a child has the next task number, its strand the next strand number, and the strand of its parent the one after
abbrev pub IsNext : Machine → ℕ → ℕ → ℕ → Type 0
IsNext m child kid cont = (child ≡ length m.tasks) × (kid ≡ m.strands) × (cont ≡ m.strands + 1)

-- the machine lets a task do this
abbrev pub Permits : Machine → Running → Action → Type 0
Permits m r (Reads cell value) = slice_get m.cells cell ≡ Some value
Permits m r (Writes _ _) = Unit {0}
Permits m r (Spawns _ child kid cont _) = IsNext m child kid cont
Permits m r (Creates _ child kid cont _) = IsNext m child kid cont
Permits m r (Syncs strand) = (strand ≡ m.strands) × AllHaveEnded m r.block
Permits m r (Gets future value strand) = (strand ≡ m.strands) × (ended_with m future ≡ Some value)
Permits m r (Ends _) = Unit {0}

-- the strand of a task after it has acted
abbrev pub strand_after : Action → ℕ → ℕ
strand_after (Spawns _ _ _ cont _) old = cont
strand_after (Creates _ _ _ cont _) old = cont
strand_after (Syncs strand) old = strand
strand_after (Gets _ _ strand) old = strand
strand_after _ old = old

-- a task that stood at this state, after it has acted
abbrev pub acted : Running → TaskState → Action → Running
acted r at a =
    record {
      which = r.which;
      state = effect_of at a;
      strand = strand_after a r.strand;
      future = r.future;
      block = block_after a r.block;
      value = value_by a r.value;
    }

-- the task that an action makes: a spawned one is in its parent's future, a created one in its own
abbrev pub child_of : tree.Program → Running → Action → List Running
child_of P r (Spawns code _ kid _ args) = begins P code args kid r.future ∷ []
child_of P r (Creates code child kid _ args) = begins P code args kid child ∷ []
child_of P r _ = []

-- the cells after an action
abbrev pub cells_after : Action → List ℤ → List ℤ
cells_after (Writes cell value) cells = slice_set cells cell value
cells_after _ cells = cells

-- the machine after an event of a task that stood at this state
abbrev pub after : tree.Program → Machine → Event → Running → TaskState → Machine
after P m e r at =
    record {
      tasks = slice_set m.tasks e.task (acted r at e.action) ++ child_of P r e.action;
      cells = cells_after e.action m.cells;
      strands = m.strands + strands_by e.action;
    }

-- an event is a step: its task exists and has not ended, stands on this strand at a wish that the action answers, and may do it
pub record IsStep (P : tree.Program) (m : Machine) (e : Event) (next : Machine) : Type 0 where
  pub task : Running
  pub stop : TaskState
  pub present : slice_get m.tasks e.task ≡ Some task
  pub running : task.value ≡ None
  pub strand : task.strand ≡ e.strand
  pub stands : StandsAt task.state stop
  pub answers : Answers (wish_of P stop) e.action
  pub permits : Permits m task e.action
  pub gives : next ≡ after P m e task stop

-- events, in order, are steps from one machine to another
abbrev pub Leads : tree.Program → Machine → List Event → Machine → Type 0
Leads P m [] n = m ≡ n
Leads P m (e ∷ h) n = (next : Machine) × IsStep P m e next × Leads P next h n

-- the events are steps one after the other from the opening state
abbrev pub IsLegal : tree.Program → List Event → Type 0
IsLegal P h = (m : Machine) × Leads P (opening P) h m

-- each task has ended
abbrev pub EachEnded : List Running → Type 0
EachEnded [] = Unit {0}
EachEnded (r ∷ rs) = IsSome r.value × EachEnded rs

-- the history is legal, and every task has ended
abbrev pub IsWhole : tree.Program → List Event → Type 0
IsWhole P h = (m : Machine) × Leads P (opening P) h m × EachEnded m.tasks

-- some event of the task is a step
abbrev pub IsAllowed : tree.Program → Machine → ℕ → Type 0
IsAllowed P m t = (e : Event) × (e.task ≡ t) × (next : Machine) × IsStep P m e next

-- a task exists, and has not ended
abbrev pub IsRunning : Machine → ℕ → Running → Type 0
IsRunning m t r = (slice_get m.tasks t ≡ Some r) × (r.value ≡ None)

-- a task is blocked: it has not ended and is not out of steps, and its wish is not allowed
pub record IsBlocked (P : tree.Program) (m : Machine) (t : ℕ) : Type 0 where
  pub task : Running
  pub running : IsRunning m t task
  pub has_steps : IsOutOfSteps task.state → ⊥
  pub waits : IsAllowed P m t → ⊥

-- an action that creates a future
abbrev pub creates : Action → Bool
creates (Creates _ _ _ _ _) = true
creates _ = false

-- how many futures a history creates
abbrev pub create_count : List Event → ℕ
create_count h = count_by (λ e. creates e.action) h

-- the wish of a task is a create
abbrev pub WishesCreate : tree.Program → Running → Type 0
WishesCreate P r = (stop : TaskState) × (code : ℕ) × (args : List Value) × StandsAt r.state stop × (wish_of P stop ≡ ToCreate code args)

-- a history ended in this way
abbrev pub FinishHolds : tree.Program → List Event → Finish → Type 0
FinishHolds P h finish.Whole = IsWhole P h
FinishHolds P h (finish.Events b) = (length h ≡ b) × (IsWhole P h → ⊥)
FinishHolds P h (finish.Local t) = (m : Machine) × (r : Running) × Leads P (opening P) h m × IsRunning m t r × IsOutOfSteps r.state
FinishHolds P h (finish.Futures t) = (m : Machine) × (r : Running) × Leads P (opening P) h m × IsRunning m t r
    × (create_count h ≡ MOST_CREATES) × WishesCreate P r

-- A run beside the machine of the definitions.
use Rattle.std.specs.Prelude.{◌≡◌, ℕ, ◌+◌, ◌*◌, ◌<◌, ◌≤◌, Bool, true, false, not, List, [], ◌∷◌, ◌++◌, length}
use Rattle.std.specs.Prelude.{slice_get, slice_set, Option, Some, None, is_some, IsSome, ℤ, vec_len, vec_capacity}
use Rattle.fut_base.specs.declared.limits.TheConstants.{MOST_LOCAL_STEPS}
use Rattle.fut_base.specs.declared.record.Value.{Value}
use Rattle.fut_base.specs.declared.event.Event.{Event}
use Rattle.fut_base.specs.declared.event.Action.{Action}
use Rattle.fut_base.specs.declared.event.Action.TheVariants.{Spawns, Creates}
use Rattle.fut_base.specs.Dag.{block_after}
use Rattle.fut_base.specs.Sound.{value_by, strands_by}
use Rattle.fut_syntax.specs.Trees as tree
use Rattle.fut_check.specs.Items.{IsWellTyped}
use Rattle.task_machine.specs.State.{TaskState, wish_of, effect_of, start_state, Answers}
use Rattle.task_machine.specs.Runs.{StandsAt}
use Rattle.task_machine.specs.Machine.{Machine, Running, opening, ended_with, AllHaveEnded, IsRunning}
use Rattle.task_machine.specs.Machine.{Permits, strand_after, cells_after, Leads, creates, create_count}
use Rattle.task_types.specs.Typed.{ArgsFit, ActionFits, any_future}
use Rattle.task_code.specs.Flat.{Compiled, IsCodeOf}
use Rattle.task_code.specs.Tasks.{TaskNow, IsTaskOf, IsStill, Wishes}
use Rattle.task_code.specs.declared.task.Wish as asked
use Rattle.task_code.specs.declared.task.Wish.TheVariants as wish
use Rattle.access_shards.specs.Histories.{IsInStep}
use Rattle.race_finder.specs.declared.finder.Finder.{Finder}
use Rattle.race_finder.specs.Finding.{IsFinderOf}
use Rattle.run_laws.specs.Ready.{ready_of}
use Rattle.run_replay.specs.declared.line.TaskLine.{TaskLine}
use Rattle.run_replay.specs.Ready.{Links, IsRing, Reorders}

-- what a run shows: its tasks by number, the cells, the ring of the tasks that have not ended, how many entries, creates and strands
-- were made, and the finder of its races
pub record ReplayNow : Type 0 where
  pub lines : List TaskLine
  pub cells : List ℤ
  pub ready : Links
  pub entries : ℕ
  pub creates : ℕ
  pub strands : ℕ
  pub finder : Finder

-- a line of the run is a task of the machine
pub record IsLineOf (P : tree.Program) (code : Compiled) (line : TaskLine) (r : Running) : Type 0 where
  pub args : List Value
  pub task : IsTaskOf P code args line.task r.state
  pub which : line.task.which ≡ r.which
  pub ended : line.task.spot.ended ≡ is_some r.value
  pub strand : line.strand ≡ r.strand
  pub future : line.future ≡ r.future
  pub block : line.block.items ≡ r.block
  pub value : line.value ≡ r.value

-- the lines are the machine's tasks, one by one
abbrev pub AreLinesOf : tree.Program → Compiled → List TaskLine → List Running → Type 0
AreLinesOf P code [] [] = Unit {0}
AreLinesOf P code [] (_ ∷ _) = ⊥
AreLinesOf P code (_ ∷ _) [] = ⊥
AreLinesOf P code (x ∷ xs) (r ∷ rs) = IsLineOf P code x r × AreLinesOf P code xs rs

-- a history leads to a machine, the run is that machine, and its finder knows the history
pub record IsReplayOf (P : tree.Program) (code : Compiled) (h : List Event) (now : ReplayNow) (m : Machine) : Type 0 where
  pub typed : IsWellTyped P
  pub code_is : IsCodeOf P code
  pub leads : Leads P (opening P) h m
  pub lines : AreLinesOf P code now.lines m.tasks
  pub cells : now.cells ≡ m.cells
  pub strands : now.strands ≡ m.strands
  pub entries : now.entries ≡ length h
  pub creates : now.creates ≡ create_count h
  pub ready : IsRing (length now.lines) (ready_of h) now.ready
  pub few : length now.lines ≤ now.entries + 1
  pub made : now.strands ≤ 2 * now.entries + 1
  pub found : IsFinderOf h now.finder

-- a run is one of some program
abbrev pub IsSomeReplay : Compiled → ReplayNow → Type 0
IsSomeReplay code now = (P : tree.Program) × (h : List Event) × (m : Machine) × IsReplayOf P code h now m

-- the run may differ, but stands where it stood
abbrev pub StandsStill : Compiled → ReplayNow → ReplayNow → Type 0
StandsStill code old new = (P : tree.Program) (h : List Event) (m : Machine) → IsReplayOf P code h old m → IsReplayOf P code h new m

-- ---- one line

-- a task may have room or local steps more, and is in the same state
pub record KeepsTask (code : Compiled) (old new : TaskNow) : Type 0 where
  pub which : new.which ≡ old.which
  pub ended : new.spot.ended ≡ old.spot.ended
  pub state : (P : tree.Program) → IsWellTyped P → IsCodeOf P code → (args : List Value) (s : TaskState)
      → IsTaskOf P code args old s → IsTaskOf P code args new s

-- a line whose task may have made local steps, and which is else the same
pub record KeepsLine (code : Compiled) (old new : TaskLine) : Type 0 where
  pub task : KeepsTask code old.task new.task
  pub strand : new.strand ≡ old.strand
  pub future : new.future ≡ old.future
  pub block : new.block.items ≡ old.block.items
  pub value : new.value ≡ old.value

-- a line can take an entry without memory
pub record HasRoom (line : TaskLine) : Type 0 where
  pub trace : 1 ≤ line.task.trace.spare
  pub block : vec_len line.block < vec_capacity line.block

-- a task has taken an entry with this action: whatever event it stood at, it is in the state after the action
pub record Fed (code : Compiled) (old new : TaskNow) (a : Action) : Type 0 where
  pub which : new.which ≡ old.which
  pub ended : new.spot.ended ≡ is_some (value_by a None)
  pub state : (P : tree.Program) → IsWellTyped P → IsCodeOf P code → (args : List Value) (s t : TaskState)
      → IsTaskOf P code args old s → StandsAt s t → Answers (wish_of P t) a → ActionFits any_future P old.which t a
      → IsTaskOf P code args new (effect_of t a)

-- a line after an action of its task
pub record ActsAs (code : Compiled) (old new : TaskLine) (a : Action) : Type 0 where
  pub fed : old.task.spot.ended ≡ false → IsStill code old.task → Fed code old.task new.task a
  pub strand : new.strand ≡ strand_after a old.strand
  pub future : new.future ≡ old.future
  pub block : new.block.items ≡ block_after a old.block.items
  pub value : new.value ≡ value_by a old.value

-- a line of a list keeps its task, and the others are as they were
pub record KeepsLineAt (code : Compiled) (old new : List TaskLine) (t : ℕ) : Type 0 where
  pub before : TaskLine
  pub after : TaskLine
  pub present : slice_get old t ≡ Some before
  pub is : new ≡ slice_set old t after
  pub keeps : KeepsLine code before after

-- the line of a task has room for one more
abbrev pub HasRoomAt : List TaskLine → ℕ → Type 0
HasRoomAt lines t = (line : TaskLine) × (slice_get lines t ≡ Some line) × HasRoom line

-- a line has taken an action, and others were added behind
pub record ActsAt (code : Compiled) (old new : List TaskLine) (t : ℕ) (a : Action) (begun : List TaskLine) : Type 0 where
  pub before : TaskLine
  pub after : TaskLine
  pub present : slice_get old t ≡ Some before
  pub is : new ≡ slice_set old t after ++ begun
  pub acts : ActsAs code before after a

-- a task that exists and has not ended
abbrev pub RunsAt : List TaskLine → ℕ → Type 0
RunsAt lines t = (line : TaskLine) × (slice_get lines t ≡ Some line) × (line.task.spot.ended ≡ false)

-- such a task that stands at an event
abbrev pub StillAt : Compiled → List TaskLine → ℕ → Type 0
StillAt code lines t = (line : TaskLine) × (slice_get lines t ≡ Some line) × (line.task.spot.ended ≡ false) × IsStill code line.task

-- a task that exists, on this strand
abbrev pub IsOn : List TaskLine → ℕ → ℕ → Type 0
IsOn lines t strand = (line : TaskLine) × (slice_get lines t ≡ Some line) × (line.strand ≡ strand)

-- the task exists and has not ended
abbrev pub is_running : Option TaskLine → Bool
is_running None = false
is_running (Some line) = not (is_some line.value)

-- the value with which a task has ended
abbrev pub line_value : Option TaskLine → Option Value
line_value None = None
line_value (Some line) = line.value

-- the value with which a task has ended, where it has
abbrev pub value_at : List TaskLine → ℕ → Option Value
value_at lines t = line_value (slice_get lines t)

-- each of these tasks has ended
abbrev pub HaveEnded : List TaskLine → List ℕ → Type 0
HaveEnded lines tasks = (i t : ℕ) → slice_get tasks i ≡ Some t → is_some (value_at lines t) ≡ true

-- the one at this place has not
abbrev pub RunsStill : List TaskLine → List ℕ → ℕ → Type 0
RunsStill lines tasks i = (t : ℕ) × (slice_get tasks i ≡ Some t) × (value_at lines t ≡ None)

-- the line of a task that begins
pub record Begins (code : Compiled) (which : ℕ) (args : List Value) (strand future : ℕ) (line : TaskLine) : Type 0 where
  pub which_is : line.task.which ≡ which
  pub runs : line.task.spot.ended ≡ false
  pub strand_is : line.strand ≡ strand
  pub future_is : line.future ≡ future
  pub block : line.block.items ≡ []
  pub value : line.value ≡ None
  pub state : (P : tree.Program) → IsWellTyped P → IsCodeOf P code → ArgsFit any_future P which args → IsTaskOf P code args line.task (start_state P which args)

-- the lines of the tasks that an action begins: a spawned one is in its parent's future, a created one in its own
abbrev pub AreBegun : Compiled → ℕ → Action → List TaskLine → Type 0
AreBegun code future (Spawns which child kid _ args) lines = (line : TaskLine) × (lines ≡ line ∷ []) × Begins code which args kid future line
AreBegun code future (Creates which child kid _ args) lines = (line : TaskLine) × (lines ≡ line ∷ []) × Begins code which args kid child line
AreBegun code future _ lines = lines ≡ []

-- ---- one event

-- a finder has taken an event, after whatever history it may come
abbrev pub Finds : Finder → Finder → Event → Type 0
Finds old new e = (h : List Event) → IsFinderOf h old → IsInStep (h ++ e ∷ []) → IsFinderOf (h ++ e ∷ []) new

-- a finder still knows what it knew
abbrev pub FindsStill : Finder → Finder → Type 0
FindsStill old new = (h : List Event) → IsFinderOf h old → IsFinderOf h new

-- how many creates it is
abbrev pub creates_by : Bool → ℕ
creates_by true = 1
creates_by false = 0

-- the run has taken an event of this action of the task at a place
pub record Takes (code : Compiled) (old new : ReplayNow) (t : ℕ) (a : Action) (e : Event) : Type 0 where
  pub before : TaskLine
  pub after : TaskLine
  pub begun : List TaskLine
  pub present : slice_get old.lines t ≡ Some before
  pub event : e ≡ record { task = t; strand = before.strand; action = a }
  pub lines : new.lines ≡ slice_set old.lines t after ++ begun
  pub acts : ActsAs code before after a
  pub are_begun : AreBegun code before.future a begun
  pub cells : new.cells ≡ cells_after a old.cells
  pub strands : new.strands ≡ old.strands + strands_by a
  pub entries : new.entries ≡ old.entries + 1
  pub creates_are : new.creates ≡ old.creates + creates_by (creates a)
  pub ready : Reorders old.ready new.ready t a
  pub finds : Finds old.finder new.finder e

-- a task of the machine stands at a wish that an action answers, and may act so
pub record CanAct (P : tree.Program) (m : Machine) (r : Running) (a : Action) : Type 0 where
  pub stop : TaskState
  pub stands : StandsAt r.state stop
  pub answers : Answers (wish_of P stop) a
  pub permits : Permits m r a

-- a task of some run may act so
pub record IsLegalAct (code : Compiled) (now : ReplayNow) (t : ℕ) (a : Action) : Type 0 where
  pub program : tree.Program
  pub history : List Event
  pub machine : Machine
  pub task : Running
  pub replay : IsReplayOf program code history now machine
  pub running : IsRunning machine t task
  pub can : CanAct program machine task a

-- ---- the wish of a task

-- a wish that is not to go on with local steps
abbrev pub IsEvent : asked.Wish → Type 0
IsEvent wish.Long = ⊥
IsEvent _ = Unit {0}

-- what a wish waits for has ended
abbrev pub IsFree : Machine → Running → asked.Wish → Type 0
IsFree m r wish.Sync = AllHaveEnded m r.block
IsFree m r (wish.Get future) = IsSome (ended_with m future)
IsFree m r _ = Unit {0}

-- a wish waits for the children of its task's block, or for a future
abbrev pub IsBarred : Machine → Running → asked.Wish → Option ℕ → Type 0
IsBarred m r wish.Sync o = (o ≡ None) × (AllHaveEnded m r.block → ⊥)
IsBarred m r (wish.Get future) o = (o ≡ Some future) × (ended_with m future ≡ None)
IsBarred m r _ o = ⊥

-- a task of some run stands at a wish that waits for nothing
pub record IsFreeWish (code : Compiled) (now : ReplayNow) (t : ℕ) (w : asked.Wish) : Type 0 where
  pub program : tree.Program
  pub history : List Event
  pub machine : Machine
  pub task : Running
  pub replay : IsReplayOf program code history now machine
  pub running : IsRunning machine t task
  pub wishes : Wishes program MOST_LOCAL_STEPS task.state w
  pub free : IsFree machine task w

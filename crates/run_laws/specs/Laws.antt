-- Laws of legal histories. Lists of events called `past` have the newest event first.
use Rattle.std.specs.Prelude.{◌≡◌, ◌≢◌, ℕ, ◌<◌, ◌≤◌, Bool, true, ◌==◌, ◌&&◌, List, [], ◌∷◌, ◌++◌}
use Rattle.std.specs.Prelude.{length, count_by, reverse, slice_get, Some, None, option_map, ◌⊎◌, ◌↔◌}
use Rattle.fut_base.specs.declared.record.Value.{Value}
use Rattle.fut_base.specs.declared.record.Value.TheVariants.{Fut}
use Rattle.fut_base.specs.declared.event.Event.{Event}
use Rattle.fut_base.specs.declared.event.Action.{Action}
use Rattle.fut_base.specs.declared.event.Action.TheVariants.{Spawns, Creates, Syncs, Gets, Ends}
use Rattle.fut_base.specs.Events.{structural, structure_of}
use Rattle.fut_base.specs.Dag.{Among, Reaches, ends, last_of, block_of}
use Rattle.fut_base.specs.Orders.{is_in, stands_before, english_of}
use Rattle.fut_base.specs.Sound.{IsSound, current, holds_handle, next_task, next_strand, future_of, value_of}
use Rattle.fut_syntax.specs.Trees as tree
use Rattle.fut_check.specs.Items.{IsWellTyped}
use Rattle.task_machine.specs.Variables.{Slot, Variables, value_in, values_of}
use Rattle.task_machine.specs.Texts.{CellArray, cell_arrays}
use Rattle.task_machine.specs.State.{TaskState, ToSpawn, ToCreate, ToGet, ToEnd, NoWish, wish_of}
use Rattle.task_machine.specs.Runs.{Steps, StandsAt, IsOutOfSteps}
use Rattle.task_machine.specs.Machine.{Machine, Running, opening, Leads, IsLegal, EachEnded, IsAllowed, IsRunning}

-- the structure of a history, newest event first
abbrev pub past_of : List Event → List Event
past_of h = reverse (structure_of h)

-- a task is what the functions on a structure give for its number
pub record IsMirrored (past : List Event) (t : ℕ) (r : Running) : Type 0 where
  pub strand : current past t ≡ Some r.strand
  pub future : future_of past t ≡ r.future
  pub block : block_of past t ≡ r.block
  pub value : value_of past t ≡ r.value
  pub last : last_of past t ≡ option_map (λ (v : Value). r.strand) r.value

-- a number of no task so far
pub record IsUnborn (past : List Event) (t : ℕ) : Type 0 where
  pub strand : current past t ≡ None
  pub block : block_of past t ≡ []
  pub value : value_of past t ≡ None
  pub last : last_of past t ≡ None

-- a machine is what the functions on a structure give
pub record Mirrors (past : List Event) (m : Machine) : Type 0 where
  pub tasks : next_task past ≡ length m.tasks
  pub strands : next_strand past ≡ m.strands
  pub each : (t : ℕ) (r : Running) → slice_get m.tasks t ≡ Some r → IsMirrored past t r
  pub none : (t : ℕ) → length m.tasks ≤ t → IsUnborn past t

-- the machine to which a history leads is what the functions on its structure give
abbrev pub MirrorsStructure : Type 0
MirrorsStructure = (P : tree.Program) (h : List Event) (m : Machine) → Leads P (opening P) h m → Mirrors (past_of h) m

-- the structure of a legal history is sound
abbrev pub LegalIsSound : Type 0
LegalIsSound = (P : tree.Program) (h : List Event) → IsLegal P h → IsSound (structure_of h)

-- the strands that an action begins
abbrev pub begun_by : Action → List ℕ
begun_by (Spawns _ _ kid cont _) = kid ∷ cont ∷ []
begun_by (Creates _ _ kid cont _) = kid ∷ cont ∷ []
begun_by (Syncs strand) = strand ∷ []
begun_by (Gets _ _ strand) = strand ∷ []
begun_by _ = []

-- an event begins a strand
abbrev pub begins_strand : ℕ → Event → Bool
begins_strand v e = is_in v (begun_by e.action)

-- a structural event leaves the strand on which it stands
abbrev pub leaves_strand : ℕ → Event → Bool
leaves_strand v e = structural e.action && (e.strand == v)

-- how often a history begins a strand
pub record IsBegunOnce (h : List Event) (strands v : ℕ) : Type 0 where
  pub once : 0 < v → v < strands → count_by (begins_strand v) h ≡ 1
  pub first : v ≡ 0 → count_by (begins_strand v) h ≡ 0
  pub later : strands ≤ v → count_by (begins_strand v) h ≡ 0

-- a legal history begins each strand but 0 by one event
abbrev pub BegunOnce : Type 0
BegunOnce = (P : tree.Program) (h : List Event) (m : Machine) (v : ℕ) → Leads P (opening P) h m → IsBegunOnce h m.strands v

-- two tasks stand on two strands
abbrev pub StrandsAreOwn : Type 0
StrandsAreOwn =
    (P : tree.Program) (h : List Event) (m : Machine) (t u : ℕ) (r q : Running) → Leads P (opening P) h m
    → slice_get m.tasks t ≡ Some r → slice_get m.tasks u ≡ Some q
    → r.strand ≡ q.strand → t ≡ u

-- after an event that leaves its strand no event stands on that strand
abbrev pub LeftForGood : Type 0
LeftForGood =
    (P : tree.Program) (before : List Event) (e : Event) (later : List Event) → IsLegal P (before ++ e ∷ later) → structural e.action ≡ true
    → (d : Event) → Among d later → d.strand ≢ e.strand

-- at most one event leaves a strand
abbrev pub LeftOnce : Type 0
LeftOnce = (P : tree.Program) (h : List Event) (m : Machine) (v : ℕ) → Leads P (opening P) h m → count_by (leaves_strand v) h ≤ 1

-- where all tasks have ended one event leaves each strand
abbrev pub WholeLeavesEach : Type 0
WholeLeavesEach =
    (P : tree.Program) (h : List Event) (m : Machine) (v : ℕ) → Leads P (opening P) h m → EachEnded m.tasks → v < m.strands
    → count_by (leaves_strand v) h ≡ 1

-- an event is the end of a task
abbrev pub ends_task : ℕ → Event → Bool
ends_task t e = ends e.action && (e.task == t)

-- at most one event ends a task
abbrev pub EndedOnce : Type 0
EndedOnce = (P : tree.Program) (h : List Event) (m : Machine) (t : ℕ) → Leads P (opening P) h m → count_by (ends_task t) h ≤ 1

-- the end of a task with a value
abbrev pub end_at : ℕ → ℕ → Value → Event
end_at t strand value = record { task = t; strand = strand; action = Ends value }

-- the value of a task is that of its end
abbrev pub ValueWasEnded : Type 0
ValueWasEnded =
    (P : tree.Program) (h : List Event) (m : Machine) (t : ℕ) (r : Running) (value : Value) → Leads P (opening P) h m
    → slice_get m.tasks t ≡ Some r → r.value ≡ Some value
    → (strand : ℕ) × Among (end_at t strand value) h

-- a task ended with a value among the first events of a history, and ends nowhere else in it
pub record EndedBefore (before whole : List Event) (t : ℕ) (value : Value) : Type 0 where
  pub strand : ℕ
  pub earlier : Among (end_at t strand value) before
  pub once : count_by (ends_task t) whole ≡ 1

-- a get of a future stands after the one end of the future's task, and has its value
abbrev pub GetsFollowEnds : Type 0
GetsFollowEnds =
    (P : tree.Program) (before : List Event) (e : Event) (later : List Event) → IsLegal P (before ++ e ∷ later)
    → (future : ℕ) (value : Value) (strand : ℕ) → e.action ≡ Gets future value strand
    → EndedBefore before (before ++ e ∷ later) future value

-- a variable has the handle of a future, an array variable in one of its elements
abbrev pub HasHandle : Variables → ℕ → Type 0
HasHandle vars future = (v : List ℕ × Slot) × Among v vars × Among (Fut future) (values_of v.1)

-- evaluation makes no handle: one that an expression gives, or a wish hands out, is in a variable
pub record MakesNoHandle (P : tree.Program) (s : TaskState) : Type 0 where
  pub value : (e : tree.Expr) (future : ℕ) → value_in s.vars e ≡ Fut future → HasHandle s.vars future
  pub got : (future : ℕ) → wish_of P s ≡ ToGet future → HasHandle s.vars future
  pub spawned : (code : ℕ) (args : List Value) → wish_of P s ≡ ToSpawn code args → (future : ℕ) → Among (Fut future) args → HasHandle s.vars future
  pub created : (code : ℕ) (args : List Value) → wish_of P s ≡ ToCreate code args → (future : ℕ) → Among (Fut future) args → HasHandle s.vars future
  pub ended : (future : ℕ) → wish_of P s ≡ ToEnd (Fut future) → HasHandle s.vars future

-- so it is in each state of each program
abbrev pub EvaluationMakesNoHandle : Type 0
EvaluationMakesNoHandle = (P : tree.Program) (s : TaskState) → MakesNoHandle P s

-- a task knows a future: its handle is in a variable, now or after local steps, or the task ended with it
abbrev pub Knows : Running → ℕ → Type 0
Knows r future = ((n : ℕ) × (s : TaskState) × Steps n r.state s × HasHandle s.vars future) ⊎ (r.value ≡ Some (Fut future))

-- a task holds each future that it knows
abbrev pub HandlesAreHeld : Type 0
HandlesAreHeld =
    (P : tree.Program) (h : List Event) (m : Machine) (t : ℕ) (r : Running) → Leads P (opening P) h m → slice_get m.tasks t ≡ Some r
    → (future : ℕ) → Knows r future → holds_handle (past_of h) t future ≡ true

-- a task exists, and its strand stands before another one in English order
pub record StandsBefore (h : List Event) (m : Machine) (t strand : ℕ) : Type 0 where
  pub task : Running
  pub present : slice_get m.tasks t ≡ Some task
  pub before : stands_before task.strand strand (english_of (structure_of h)) ≡ true

-- the task of a future, which began that future, stands before
pub record IsFutureBefore (h : List Event) (m : Machine) (future strand : ℕ) : Type 0 where
  pub stands : StandsBefore h m future strand
  pub root : stands.task.future ≡ future

-- the task of each future that a task knows stands before it
abbrev pub HandlesStandBefore : Type 0
HandlesStandBefore =
    (P : tree.Program) (h : List Event) (m : Machine) (t : ℕ) (r : Running) → Leads P (opening P) h m → slice_get m.tasks t ≡ Some r
    → (future : ℕ) → Knows r future → IsFutureBefore h m future r.strand

-- each child of a task's block stands before it
abbrev pub ChildrenStandBefore : Type 0
ChildrenStandBefore =
    (P : tree.Program) (h : List Event) (m : Machine) (t : ℕ) (r : Running) → Leads P (opening P) h m → slice_get m.tasks t ≡ Some r
    → (child : ℕ) → Among child r.block → StandsBefore h m child r.strand

-- a task is the first, in English order, of those that have not ended
pub record IsFirst (h : List Event) (m : Machine) (t : ℕ) (r : Running) : Type 0 where
  pub running : IsRunning m t r
  pub least : (u : ℕ) (q : Running) → IsRunning m u q → (u ≡ t) ⊎ (stands_before r.strand q.strand (english_of (structure_of h)) ≡ true)

-- where not all tasks have ended there is such a task
abbrev pub FirstExists : Type 0
FirstExists =
    (P : tree.Program) (h : List Event) (m : Machine) → Leads P (opening P) h m → (EachEnded m.tasks → ⊥)
    → (t : ℕ) × (r : Running) × IsFirst h m t r

-- and only one
abbrev pub FirstIsOne : Type 0
FirstIsOne =
    (P : tree.Program) (h : List Event) (m : Machine) (t u : ℕ) (r q : Running) → Leads P (opening P) h m → IsFirst h m t r → IsFirst h m u q
    → t ≡ u

-- each array of cells of the text has a cell
abbrev pub HasCells : tree.Program → Type 0
HasCells P = (a : CellArray) → Among a (cell_arrays P) → 0 < a.length

-- so it is in a well-typed text
abbrev pub WellTypedHasCells : Type 0
WellTypedHasCells = (P : tree.Program) → IsWellTyped P → HasCells P

-- the first task is out of steps, or its wish is allowed, if it has one
abbrev pub NoneIsStuck : Type 0
NoneIsStuck =
    (P : tree.Program) (h : List Event) (m : Machine) (t : ℕ) (r : Running) → Leads P (opening P) h m → HasCells P → IsFirst h m t r
    → ((s : TaskState) → StandsAt r.state s → wish_of P s ≢ NoWish)
    → IsOutOfSteps r.state ⊎ IsAllowed P m t

-- from the strand of a later event no path leads to that of an earlier one, unless they are the same
abbrev pub LaterReachesNone : Type 0
LaterReachesNone =
    (P : tree.Program) (before : List Event) (e : Event) (later : List Event) → IsLegal P (before ++ e ∷ later)
    → (d : Event) → Among d before → Reaches (before ++ e ∷ later) e.strand d.strand → e.strand ≡ d.strand

-- to a strand that a legal history has, a path of it is one of each longer legal history, and back
abbrev pub PathsOutlast : Type 0
PathsOutlast =
    (P : tree.Program) (before later : List Event) (m : Machine) → Leads P (opening P) before m → IsLegal P (before ++ later)
    → (u v : ℕ) → v < m.strands → Reaches before u v ↔ Reaches (before ++ later) u v

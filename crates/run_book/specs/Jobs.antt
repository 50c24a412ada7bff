-- What holds of a job, by the structural entries that its pass knows. Lists of events called `past` have the newest event first.
use Rattle.std.specs.Prelude.{◌≡◌, ℕ, ◌≤◌, ◌==◌, Bool, false, ◌&&◌, ◌||◌, List, [], ◌∷◌, IsSome, Some, None, ◌⊎◌}
use Rattle.atomic_table.specs.Seated.{TableId}
use Rattle.fut_base.specs.declared.record.Value.{Value}
use Rattle.fut_base.specs.declared.event.Event.{Event}
use Rattle.fut_base.specs.declared.event.Action.{Action}
use Rattle.fut_base.specs.declared.event.Action.TheVariants.{Spawns, Creates, Gets, Ends}
use Rattle.fut_base.specs.Dag.{Among, ends, last_of, block_of}
use Rattle.fut_base.specs.Sound.{AllEnded, current, value_of}
use Rattle.fut_syntax.specs.Trees as tree
use Rattle.fut_check.specs.Items.{IsWellTyped}
use Rattle.task_machine.specs.Texts.{main_of}
use Rattle.task_machine.specs.State.{TaskState, Wish, ToSync, ToGet, wish_of}
use Rattle.task_machine.specs.Runs.{StandsAt}
use Rattle.task_types.specs.Typed.{Text, text_at, Fits, ArgsFit}
use Rattle.task_types.specs.Running.{has_depth, Passes}
use Rattle.task_code.specs.Flat.{Compiled, IsCodeOf}
use Rattle.task_code.specs.Tasks.{TaskNow, IsTaskOf}
use Rattle.strand_tree.specs.declared.strand.Strand.{Strand}
use Rattle.strand_tree.specs.Placing.{IsStrandOf}
use Rattle.reach_table.specs.Telling.{HasTable}
use Rattle.event_clock.specs.declared.view.View.{View}
use Rattle.event_clock.specs.Views.{noted}
use Rattle.event_clock.specs.Seated.{Ticking}
use Rattle.order_query.specs.Reading.{Reading}
use Rattle.run_place.specs.Placed.{Placed, IsPlace, book_of, events_in}
use Rattle.run_book.specs.Drawn.{drawn_of, of_task, structural_in, past_in, past_below}

-- ---- how tasks begin, and what fits

-- an action makes a task, which runs this task of the text with these arguments
abbrev pub Makes : Action → ℕ → ℕ → List Value → Type 0
Makes (Spawns code child _ _ given) task which args = (child ≡ task) × (code ≡ which) × (given ≡ args)
Makes (Creates code child _ _ given) task which args = (child ≡ task) × (code ≡ which) × (given ≡ args)
Makes _ task which args = ⊥

-- by these events a task runs this task of the text with these arguments
abbrev pub StartsAs : tree.Program → List Event → ℕ → ℕ → List Value → Type 0
StartsAs P events task which args = ((task ≡ 0) × (main_of P ≡ which) × (args ≡ [])) ⊎ ((e : Event) × Among e events × Makes e.action task which args)

-- an action creates the future f with a task of the text that gives a value of `int` behind d `fut`
abbrev pub gives_by : tree.Program → Action → ℕ → ℕ → Bool
gives_by P (Creates code child _ _ _) f d = (child == f) && has_depth d (text_at P code)
gives_by P _ f d = false

-- by these events future f gives a value of `int` behind d `fut`
abbrev pub gives_in : tree.Program → List Event → ℕ → ℕ → Bool
gives_in P [] f d = false
gives_in P (e ∷ events) f d = gives_by P e.action f d || gives_in P events f d

-- a value is one that a task may end with, by these events
abbrev pub IsResultOf : tree.Program → List Event → ℕ → Value → Type 0
IsResultOf P events task value =
    (which : ℕ) (args : List Value) (t : Text) → StartsAs P events task which args → text_at P which ≡ Some t → Fits (gives_in P events) t.depth value

-- the values in these events fit the program: what is passed to a child its parameters, what a task ends with its result, and what is
-- got of a future the result of its task
pub record FitsProgram (P : tree.Program) (events : List Event) : Type 0 where
  pub passed : (e : Event) (which : ℕ) (args : List Value) → Among e events → Passes e.action which args → ArgsFit (gives_in P events) P which args
  pub ended : (e : Event) (value : Value) → Among e events → e.action ≡ Ends value → IsResultOf P events e.task value
  pub got : (e : Event) (future : ℕ) (value : Value) (strand : ℕ) → Among e events → e.action ≡ Gets future value strand → IsResultOf P events future value

-- ---- what a task waits for

-- what a wish waits for has ended
abbrev pub IsFree : List Event → ℕ → Wish → Type 0
IsFree past task ToSync = AllEnded past (block_of past task)
IsFree past task (ToGet future) = IsSome (value_of past future)
IsFree past task _ = Unit {0}

-- a wish waits, and what it waits for has not ended
abbrev pub IsBarred : List Event → ℕ → Wish → Type 0
IsBarred past task ToSync = AllEnded past (block_of past task) → ⊥
IsBarred past task (ToGet future) = value_of past future ≡ None
IsBarred past task _ = ⊥

-- a wish is a sync or a get
abbrev pub MayWait : Wish → Type 0
MayWait ToSync = Unit {0}
MayWait (ToGet _) = Unit {0}
MayWait _ = ⊥

-- a task stands at a wish of which this holds, by each program that the code is of
abbrev pub Stands : Compiled → TaskNow → (tree.Program → Wish → Type 0) → Type 0
Stands code task holds =
    (P : tree.Program) (args : List Value) (s : TaskState) → IsWellTyped P → IsCodeOf P code → IsTaskOf P code args task s
    → (stop : TaskState) × StandsAt s stop × holds P (wish_of P stop)

-- ---- a task by a list of structural entries

-- an entry is of a task, which had not ended, and stands on the task's strand after these events
pub record IsEntryOf (past : List Event) (task : ℕ) (e : Event) : Type 0 where
  pub own : e.task ≡ task
  pub stands : current past task ≡ Some e.strand
  pub running : last_of past task ≡ None

-- a trace is that of a task, by a list of structural entries
pub record IsTraceBy (book : List (ℕ × Event)) (task : ℕ) (trace : List (ℕ × Event)) : Type 0 where
  -- the task's entries in the book are the structural entries of its trace
  pub structural : of_task task book ≡ structural_in trace
  -- each entry of the trace stands on the task's current strand after the entries of the book with lesser tickets
  pub entries : (x : ℕ × Event) → Among x trace → IsEntryOf (past_below x.0 book) task x.1

-- a task was started with the code and the arguments that the events give it, and is in the state to which its trace leads
abbrev pub IsStarted : Compiled → List (ℕ × Event) → TaskNow → Type 0
IsStarted code book task =
    (P : tree.Program) → IsWellTyped P → IsCodeOf P code
    → (args : List Value) × (s : TaskState) × StartsAs P (events_in book) task.number task.which args × IsTaskOf P code args task s

-- none of these entries is the end of a task
abbrev pub NoneEnds : List (ℕ × Event) → Type 0
NoneEnds trace = (x : ℕ × Event) → Among x trace → ends x.1.action ≡ false

-- what contracts see of a job
pub record JobNow : Type 0 where
  pub task : TaskNow
  pub place : Placed
  pub pace : ℕ

-- the structural entries that a job knows
abbrev pub known_to : JobNow → List (ℕ × Event)
known_to j = book_of j.place.pass.view

-- what a job is, by the name of its run
pub record IsJob (clock : Ticking) (orders : TableId) (code : Compiled) (j : JobNow) : Type 0 where
  -- the code is that of some program
  pub program : (P : tree.Program) × IsCodeOf P code
  -- its task has not ended, and no entry of its trace is an end
  pub running : j.task.spot.ended ≡ false
  pub unended : NoneEnds (drawn_of j.task.trace.items)
  -- its pass carries its task alone, with its trace
  pub carried : j.place.pass.view.tasks ≡ record { task = j.task.number; trace = drawn_of j.task.trace.items } ∷ []
  -- what it knows fits the program, and is sound (`place`)
  pub fits : (P : tree.Program) → IsWellTyped P → IsCodeOf P code → FitsProgram P (events_in (known_to j))
  -- its task was started as the entries that it knows say
  pub started : IsStarted code (known_to j) j.task
  -- its trace is the task's, by the entries that it knows
  pub trace : IsTraceBy (known_to j) j.task.number (drawn_of j.task.trace.items)
  -- its reader's log is that of these entries, and its table is that of its strand
  pub place : IsPlace clock orders j.place
  -- its strand is the current one of its task
  pub strand : current (past_in (known_to j)) j.task.number ≡ Some j.place.at.number
  -- its pace is 1 or 0; where it is 0, its task stands at a sync or a get that is allowed by these entries
  pub few : j.pace ≤ 1
  pub paced : j.pace ≡ 0 → Stands code j.task (λ P w. MayWait w × IsFree (past_in (known_to j)) j.task.number w)

-- with a note of the holder that has this view, and any reader that makes a place of it, the parts are a job
abbrev pub MayRelease : Ticking → TableId → Compiled → TaskNow → Strand → List Strand → ℕ → View → Type 0
MayRelease clock orders code task at table pace view =
    (reader : Reading)
    → IsPlace clock orders (record { at = at; table = table; pass = record { clock = clock.id; view = noted task.number view }; reader = reader })
    → IsJob clock orders code (record {
      task = task;
      place = record { at = at; table = table; pass = record { clock = clock.id; view = noted task.number view }; reader = reader };
      pace = pace;
    })

-- what holds of a task that has not ended, with its strand, its table and its pace, by a list of structural entries
pub record IsTaskIn (code : Compiled) (book : List (ℕ × Event)) (task : TaskNow) (at : Strand) (table : List Strand) (pace : ℕ) : Type 0 where
  pub program : (P : tree.Program) × IsCodeOf P code
  pub running : task.spot.ended ≡ false
  pub unended : NoneEnds (drawn_of task.trace.items)
  pub started : IsStarted code book task
  pub trace : IsTraceBy book task.number (drawn_of task.trace.items)
  pub strand : current (past_in book) task.number ≡ Some at.number
  pub placed : IsStrandOf (events_in book) at × HasTable (events_in book) at.number table
  pub few : pace ≤ 1
  pub paced : pace ≡ 0 → Stands code task (λ P w. MayWait w × IsFree (past_in book) task.number w)

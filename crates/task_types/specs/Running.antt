-- What the type rules say of the tasks of a run.
use Rattle.std.specs.Prelude.{◌≡◌, ℕ, Bool, true, false, nat_eq, List, slice_get, Option, Some, None}
use Rattle.fut_base.specs.declared.record.Value.{Value}
use Rattle.fut_base.specs.declared.event.Event.{Event}
use Rattle.fut_base.specs.declared.event.Action.{Action}
use Rattle.fut_base.specs.declared.event.Action.TheVariants.{Spawns, Creates}
use Rattle.fut_syntax.specs.Trees as tree
use Rattle.fut_check.specs.Items.{IsWellTyped}
use Rattle.task_machine.specs.State.{NoWish, wish_of}
use Rattle.task_machine.specs.State.{TaskState}
use Rattle.task_machine.specs.Runs.{StandsAt}
use Rattle.task_machine.specs.Machine.{Machine, Running, opening, IsStep, Leads}
use Rattle.task_types.specs.Typed.{Text, text_at, Fits, ArgsFit, ActionFits, IsTypedState, any_future}

-- a text whose value is of this depth
abbrev pub has_depth : ℕ → Option Text → Bool
has_depth d None = false
has_depth d (Some t) = nat_eq t.depth d

-- a task of the run whose text has this depth
abbrev pub runs_depth : tree.Program → ℕ → Option Running → Bool
runs_depth P d None = false
runs_depth P d (Some r) = has_depth d (text_at P r.which)

-- future f of a machine gives a value of `int` behind d `fut`: so many has the result of the task that it runs
abbrev pub gives_of : tree.Program → Machine → ℕ → ℕ → Bool
gives_of P m f d = runs_depth P d (slice_get m.tasks f)

-- a task of a machine runs a task of the text; while it runs its state keeps the type rules, and the value with which it has ended fits
-- the result
pub record IsTypedTask (P : tree.Program) (m : Machine) (r : Running) : Type 0 where
  pub text : Text
  pub is : text_at P r.which ≡ Some text
  pub runs : r.value ≡ None → IsTypedState (gives_of P m) P r.which r.state
  pub ended : (v : Value) → r.value ≡ Some v → Fits (gives_of P m) text.depth v

-- in every run of a well-typed program each task is so
abbrev pub RunsAreTyped : Type 0
RunsAreTyped =
    (P : tree.Program) (h : List Event) (m : Machine) (t : ℕ) (r : Running) → IsWellTyped P → Leads P (opening P) h m → slice_get m.tasks t ≡ Some r
    → IsTypedTask P m r

-- what was there fits after a further event as before it
abbrev pub Grows : (ℕ → ℕ → Bool) → (ℕ → ℕ → Bool) → Type 0
Grows old new = (f d : ℕ) → old f d ≡ true → new f d ≡ true

-- what an event gives its task fits
abbrev pub StepsFit : Type 0
StepsFit =
    (P : tree.Program) (h : List Event) (m : Machine) (e : Event) (n : Machine) → IsWellTyped P → Leads P (opening P) h m → (x : IsStep P m e n)
    → ActionFits any_future P x.task.which x.stop e.action

-- the arguments that an action passes to the task of the text at this place
abbrev pub Passes : Action → ℕ → List Value → Type 0
Passes (Spawns code _ _ _ args) which values = (code ≡ which) × (args ≡ values)
Passes (Creates code _ _ _ args) which values = (code ≡ which) × (args ≡ values)
Passes _ which values = ⊥

-- the arguments of a task that an event begins fit its parameters
abbrev pub ChildrenFit : Type 0
ChildrenFit =
    (P : tree.Program) (h : List Event) (m : Machine) (e : Event) (n : Machine) (which : ℕ) (args : List Value) → IsWellTyped P
    → Leads P (opening P) h m → IsStep P m e n → Passes e.action which args → ArgsFit any_future P which args

-- in every run of a well-typed program, a task that stands at an event has a wish
abbrev pub RunningHasWish : Type 0
RunningHasWish =
    (P : tree.Program) (h : List Event) (m : Machine) (t : ℕ) (r : Running) (stop : TaskState) → IsWellTyped P → Leads P (opening P) h m
    → slice_get m.tasks t ≡ Some r → r.value ≡ None → StandsAt r.state stop → wish_of P stop ≡ NoWish → ⊥

-- `main` begins without arguments, which fit
abbrev pub MainFits : Type 0
MainFits = (P : tree.Program) → IsWellTyped P → ArgsFit any_future P (Rattle.task_machine.specs.Texts.main_of P) Rattle.std.specs.Prelude.[]

-- Laws of tasks of a well-typed program.
use Rattle.std.specs.Prelude.{◌≡◌, ℕ, Bool, true, false, List, Some, None, ◌⊎◌}
use Rattle.fut_base.specs.declared.record.Value.{Value}
use Rattle.fut_base.specs.declared.event.Action.{Action}
use Rattle.fut_base.specs.Dag.{ends}
use Rattle.fut_syntax.specs.Trees as tree
use Rattle.fut_check.specs.Items.{IsWellTyped}
use Rattle.task_machine.specs.State.{TaskState, ToSpawn, ToCreate, ToGet, ToEnd, NoWish, local_step, wish_of, effect_of, start_state, Answers}
use Rattle.task_machine.specs.Runs.{Steps}
use Rattle.task_types.specs.Running.{Grows}
use Rattle.task_types.specs.Typed.{Text, text_at, Fits, ArgsFit, ActionFits, GetsDepth, IsTypedState}

-- a task begins with the types kept where its arguments fit
abbrev pub StartIsTyped : Type 0
StartIsTyped =
    (gives : ℕ → ℕ → Bool) (P : tree.Program) (which : ℕ) (args : List Value) → IsWellTyped P → ArgsFit gives P which args
    → IsTypedState gives P which (start_state P which args)

-- local steps keep them
abbrev pub StepsStayTyped : Type 0
StepsStayTyped =
    (gives : ℕ → ℕ → Bool) (P : tree.Program) (which n : ℕ) (s t : TaskState) → IsWellTyped P → IsTypedState gives P which s → Steps n s t
    → IsTypedState gives P which t

-- and so does each action but the end that answers a wish, where what it gives fits
abbrev pub EffectStaysTyped : Type 0
EffectStaysTyped =
    (gives : ℕ → ℕ → Bool) (P : tree.Program) (which : ℕ) (s : TaskState) (a : Action) → IsWellTyped P → IsTypedState gives P which s
    → local_step s ≡ None → Answers (wish_of P s) a → ends a ≡ false → ActionFits gives P which s a → IsTypedState gives P which (effect_of s a)

-- a task that stands at an event has a wish
abbrev pub TypedHasWish : Type 0
TypedHasWish =
    (gives : ℕ → ℕ → Bool) (P : tree.Program) (which : ℕ) (s : TaskState) → IsWellTyped P → IsTypedState gives P which s
    → local_step s ≡ None → wish_of P s ≡ NoWish → ⊥

-- the arguments of the task that it wishes to begin fit
abbrev pub WishedArgsFit : Type 0
WishedArgsFit =
    (gives : ℕ → ℕ → Bool) (P : tree.Program) (which : ℕ) (s : TaskState) (code : ℕ) (args : List Value) → IsWellTyped P → IsTypedState gives P which s
    → local_step s ≡ None → (wish_of P s ≡ ToSpawn code args) ⊎ (wish_of P s ≡ ToCreate code args) → ArgsFit gives P code args

-- the value with which it wishes to end fits its result
abbrev pub WishedEndFits : Type 0
WishedEndFits =
    (gives : ℕ → ℕ → Bool) (P : tree.Program) (which : ℕ) (s : TaskState) (value : Value) (t : Text) → IsWellTyped P → IsTypedState gives P which s
    → local_step s ≡ None → wish_of P s ≡ ToEnd value → text_at P which ≡ Some t → Fits gives t.depth value

-- the future that it wishes to get gives what the handle's type says
abbrev pub WishedGetFits : Type 0
WishedGetFits =
    (gives : ℕ → ℕ → Bool) (P : tree.Program) (which : ℕ) (s : TaskState) (future d : ℕ) → IsWellTyped P → IsTypedState gives P which s
    → local_step s ≡ None → wish_of P s ≡ ToGet future → GetsDepth P which s d → gives future d ≡ true

-- what fits goes on to fit where more futures are known
abbrev pub TypedGrows : Type 0
TypedGrows =
    (old new : ℕ → ℕ → Bool) (P : tree.Program) (which : ℕ) (s : TaskState) → Grows old new → IsTypedState old P which s → IsTypedState new P which s

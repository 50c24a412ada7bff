-- The way of one task: local steps up to an event, its entry, and on.
use Rattle.std.specs.Prelude.{◌≡◌, ℕ, zero, suc, ◌<◌, List, [], ◌∷◌, Some, None}
use Rattle.fut_base.specs.declared.limits.TheConstants.{MOST_LOCAL_STEPS}
use Rattle.fut_base.specs.declared.record.Value.{Value}
use Rattle.fut_base.specs.declared.event.Event.{Event}
use Rattle.fut_syntax.specs.Trees as tree
use Rattle.task_machine.specs.State.{TaskState, local_step, wish_of, effect_of, start_state, Answers}

-- n local steps lead from one state to another
abbrev pub Steps : ℕ → TaskState → TaskState → Type 0
Steps zero s t = s ≡ t
Steps (suc n) s t = (u : TaskState) × (local_step s ≡ Some u) × Steps n u t

-- fewer than `limit` local steps lead to a state that stands at an event
abbrev pub StandsWithin : ℕ → TaskState → TaskState → Type 0
StandsWithin limit s t = (n : ℕ) × (n < limit) × Steps n s t × (local_step t ≡ None)

-- the first `limit` statements are all local
abbrev pub GoesOn : ℕ → TaskState → Type 0
GoesOn limit s = (t : TaskState) × Steps limit s t

-- the greatest number of local steps in a row, from which on a task has no further event
abbrev pub IsMost : ℕ → Type 0
IsMost limit = limit ≡ MOST_LOCAL_STEPS

-- local steps lead from the state after an entry to the event at which the task stands
abbrev pub StandsAt : TaskState → TaskState → Type 0
StandsAt s t = (limit : ℕ) × IsMost limit × StandsWithin limit s t

-- a task is out of steps
abbrev pub IsOutOfSteps : TaskState → Type 0
IsOutOfSteps s = (limit : ℕ) × IsMost limit × GoesOn limit s

-- a state, and the one after these events of the task, each of which answers the wish
abbrev pub Follows : tree.Program → TaskState → List Event → TaskState → Type 0
Follows P s [] t = s ≡ t
Follows P s (e ∷ trace) t = (at : TaskState) × StandsAt s at × Answers (wish_of P at) e.action × Follows P (effect_of at e.action) trace t

-- the state of a task after the events of its trace
abbrev pub IsStateAfter : tree.Program → ℕ → List Value → List Event → TaskState → Type 0
IsStateAfter P which args trace s = Follows P (start_state P which args) trace s

-- Laws of the machine.
use Rattle.std.specs.Prelude.{◌≡◌, ◌↔◌, ℕ, ◌+◌, ◌<◌, List, [], ◌∷◌, ◌++◌, length, slice_get, Some}
use Rattle.fut_base.specs.declared.event.Event.{Event}
use Rattle.fut_base.specs.Dag.{Among}
use Rattle.fut_base.specs.Sound.{strands_by}
use Rattle.fut_syntax.specs.Trees as tree
use Rattle.task_machine.specs.State.{TaskState}
use Rattle.task_machine.specs.Runs.{StandsAt, IsOutOfSteps}
use Rattle.task_machine.specs.Machine.{Machine, Running, opening, acted, child_of, IsStep, Leads, IsLegal}

-- an event leads from a machine to one machine
abbrev pub StepIsOne : Type 0
StepIsOne = (P : tree.Program) (m : Machine) (e : Event) (a b : Machine) → IsStep P m e a → IsStep P m e b → a ≡ b

-- and so do the events of a history
abbrev pub LeadsToOne : Type 0
LeadsToOne = (P : tree.Program) (m : Machine) (h : List Event) (a b : Machine) → Leads P m h a → Leads P m h b → a ≡ b

-- events lead as their two parts do one after the other
abbrev pub LeadsByParts : Type 0
LeadsByParts = (P : tree.Program) (m : Machine) (h k : List Event) (n : Machine)
    → Leads P m (h ++ k) n ↔ ((middle : Machine) × Leads P m h middle × Leads P middle k n)

-- a further step
abbrev pub LeadsFurther : Type 0
LeadsFurther = (P : tree.Program) (m : Machine) (h : List Event) (e : Event) (n next : Machine) → Leads P m h n
    → IsStep P n e next → Leads P m (h ++ e ∷ []) next

-- what a legal history begins with is legal
abbrev pub PrefixIsLegal : Type 0
PrefixIsLegal = (P : tree.Program) (h k : List Event) → IsLegal P (h ++ k) → IsLegal P h

-- the next strand number rises by the number of strands that an action makes
abbrev pub StrandsRise : Type 0
StrandsRise = (P : tree.Program) (m : Machine) (e : Event) (n : Machine) → IsStep P m e n → n.strands ≡ m.strands + strands_by e.action

-- each child of a task's block has a greater number than the task, and exists
abbrev pub ChildrenComeLater : Type 0
ChildrenComeLater = (P : tree.Program) (h : List Event) (m : Machine) (t : ℕ) (r : Running) → Leads P (opening P) h m
    → slice_get m.tasks t ≡ Some r → (c : ℕ) → Among c r.block → (t < c) × (c < length m.tasks)

-- each task stands on a strand that was made
abbrev pub StrandsWereMade : Type 0
StrandsWereMade = (P : tree.Program) (h : List Event) (m : Machine) (t : ℕ) (r : Running) → Leads P (opening P) h m
    → slice_get m.tasks t ≡ Some r → r.strand < m.strands

-- a task stands at one event, and is not out of steps then
abbrev pub StandsAtOne : Type 0
StandsAtOne = (s t u : TaskState) → StandsAt s t → StandsAt s u → t ≡ u

-- a task that stands at an event is not out of steps
abbrev pub StandsOrGoesOn : Type 0
StandsOrGoesOn = (s t : TaskState) → StandsAt s t → IsOutOfSteps s → ⊥

-- after a step the acting task has acted, each other task is as it was, and the child that was made has the next number
abbrev pub ActingTaskActs : Type 0
ActingTaskActs = (P : tree.Program) (m : Machine) (e : Event) (n : Machine) → (x : IsStep P m e n)
    → slice_get n.tasks e.task ≡ Some (acted x.task x.stop e.action)

-- a step changes no task but the acting one
abbrev pub OthersStay : Type 0
OthersStay = (P : tree.Program) (m : Machine) (e : Event) (n : Machine) (t : ℕ) (r : Running) → IsStep P m e n → (t ≡ e.task → ⊥)
    → slice_get m.tasks t ≡ Some r → slice_get n.tasks t ≡ Some r

-- the child of an action has the next number
abbrev pub ChildComes : Type 0
ChildComes = (P : tree.Program) (m : Machine) (e : Event) (n : Machine) (r : Running) → (x : IsStep P m e n)
    → child_of P x.task e.action ≡ r ∷ [] → slice_get n.tasks (length m.tasks) ≡ Some r

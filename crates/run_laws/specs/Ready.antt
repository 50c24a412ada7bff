-- The tasks that have not ended, in English order, as events change them. No search is needed for the first of them.
use Rattle.std.specs.Prelude.{◌≡◌, ℕ, ◌==◌, if◌then◌else◌, List, [], ◌∷◌, reverse, ◌⊎◌, ◌↔◌}
use Rattle.fut_base.specs.declared.event.Event.{Event}
use Rattle.fut_base.specs.declared.event.Action.{Action}
use Rattle.fut_base.specs.declared.event.Action.TheVariants.{Spawns, Creates, Ends}
use Rattle.fut_base.specs.Dag.{Among}
use Rattle.fut_syntax.specs.Trees as tree
use Rattle.fut_check.specs.Items.{IsWellTyped}
use Rattle.task_machine.specs.Runs.{IsOutOfSteps}
use Rattle.task_machine.specs.Machine.{Machine, Running, opening, Leads, EachEnded, IsAllowed, IsRunning}
use Rattle.run_laws.specs.Laws.{IsFirst}

-- a child right before its maker
abbrev pub put_before : ℕ → ℕ → List ℕ → List ℕ
put_before maker child [] = []
put_before maker child (t ∷ ts) = if t == maker then child ∷ t ∷ ts else t ∷ put_before maker child ts

-- the list without a task
abbrev pub without : ℕ → List ℕ → List ℕ
without task [] = []
without task (t ∷ ts) = if t == task then ts else t ∷ without task ts

-- a child stands right before its maker, and a task that ends leaves the list
abbrev pub ready_by : ℕ → Action → List ℕ → List ℕ
ready_by task (Spawns _ child _ _ _) ts = put_before task child ts
ready_by task (Creates _ child _ _ _) ts = put_before task child ts
ready_by task (Ends _) ts = without task ts
ready_by task _ ts = ts

-- the newest event first
abbrev pub ready_past : List Event → List ℕ
ready_past [] = 0 ∷ []
ready_past (e ∷ past) = ready_by e.task e.action (ready_past past)

-- the tasks that have not ended after a history
abbrev pub ready_of : List Event → List ℕ
ready_of h = ready_past (reverse h)

-- they are those that the machine runs
abbrev pub ReadyRun : Type 0
ReadyRun =
    (P : tree.Program) (h : List Event) (m : Machine) (t : ℕ) → Leads P (opening P) h m
    → Among t (ready_of h) ↔ ((r : Running) × IsRunning m t r)

-- and the first of them is the first in English order
abbrev pub ReadyIsFirst : Type 0
ReadyIsFirst =
    (P : tree.Program) (h : List Event) (m : Machine) (t : ℕ) (ts : List ℕ) → Leads P (opening P) h m → ready_of h ≡ t ∷ ts
    → (r : Running) × IsFirst h m t r

-- where there is none, all tasks have ended
abbrev pub NoneIsReady : Type 0
NoneIsReady = (P : tree.Program) (h : List Event) (m : Machine) → Leads P (opening P) h m → (ready_of h ≡ []) ↔ EachEnded m.tasks

-- in a well-typed program the first task is out of steps, or its wish is allowed
abbrev pub FirstMayGoOn : Type 0
FirstMayGoOn =
    (P : tree.Program) (h : List Event) (m : Machine) (t : ℕ) (r : Running) → IsWellTyped P → Leads P (opening P) h m → IsFirst h m t r
    → IsOutOfSteps r.state ⊎ IsAllowed P m t

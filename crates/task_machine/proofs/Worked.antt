-- Runs that are worked out by hand, in which no task makes a local step.
use Rattle.std.proofs.Common.{◌≡◌, ℕ, List, [], ◌∷◌, refl}
use Rattle.std.specs.Prelude.{Some, None, slice_get, unwrap_or}
use Rattle.fut_base.specs.declared.event.Event.{Event}
use Rattle.fut_syntax.specs.Trees as tree
use Rattle.task_machine.specs.State.{local_step, wish_of, Answers}
use Rattle.task_machine.specs.Machine.{Machine, Running, Leads, begins, after, IsStep, Permits}
use Rattle.task_machine.proofs.Stepping.{stands_here}

-- the task of a number, which exists
abbrev pub task_of : tree.Program → Machine → ℕ → Running
task_of P m t = unwrap_or (slice_get m.tasks t) (begins P 0 [] 0 0)

-- the machine after an event of a task that makes no local step
abbrev pub next : tree.Program → Machine → Event → Machine
next P m e = after P m e (task_of P m e.task) (task_of P m e.task).state

-- what the event asks of the machine
abbrev pub Goes : tree.Program → Machine → Event → Type 0
Goes P m e =
    (slice_get m.tasks e.task ≡ Some (task_of P m e.task)) × ((task_of P m e.task).value ≡ None) × ((task_of P m e.task).strand ≡ e.strand)
    × (local_step (task_of P m e.task).state ≡ None) × Answers (wish_of P (task_of P m e.task).state) e.action × Permits m (task_of P m e.task) e.action

pub step : (P : tree.Program) (m : Machine) (e : Event) → Goes P m e → IsStep P m e (next P m e)
step P m e (present, running, strand, stands, answers, permits) =
    record {
      task = task_of P m e.task;
      stop = (task_of P m e.task).state;
      present = present;
      running = running;
      strand = strand;
      stands = stands_here (task_of P m e.task).state stands;
      answers = answers;
      permits = permits;
      gives = refl;
    }

-- the machine after events one after the other, and what they ask
abbrev pub machine_after : tree.Program → Machine → List Event → Machine
machine_after P m [] = m
machine_after P m (e ∷ es) = machine_after P (next P m e) es

abbrev pub GoAll : tree.Program → Machine → List Event → Type 0
GoAll P m [] = Unit {0}
GoAll P m (e ∷ es) = Goes P m e × GoAll P (next P m e) es

pub leads_all : (P : tree.Program) (m : Machine) (es : List Event) → GoAll P m es → Leads P m es (machine_after P m es)
leads_all P m [] h = refl
leads_all P m (e ∷ es) h = (next P m e, step P m e h.0, leads_all P (next P m e) es h.1)

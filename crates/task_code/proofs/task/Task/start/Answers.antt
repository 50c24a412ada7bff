use Rattle.std.proofs.Common.{ℕ, List, ap, false, subst}
use Rattle.fut_base.specs.declared.record.Value.{Value}
use Rattle.task_machine.specs.Variables.{bound}
use Rattle.task_code.specs.declared.task.Spot.{Spot}
use Rattle.task_frame.specs.Names.{Holds}
use Rattle.task_code.specs.Flat.{code_of}
use Rattle.task_code.specs.Tasks.{TaskNow}
use Rattle.task_code.proofs.Tasking.{begins}
use Rattle.task_code.proofs.task.Task.start.Goals as goal

pub returns-clause-state : goal.returns-clause-state
returns-clause-state c = λ P is fit.
    let frame = c.in_ok-frame.frame in
    let spot : ℕ → Spot = λ n. record { place = n; is_open = false; ended = false; steps = 0 } in
    let now : TaskNow = record { number = c.args.number; which = c.args.which; spot = spot c.entry.result; held = frame; trace = c.make.result } in
    begins P c.args.code.now c.args.args.now.items now is fit (ap spot c.entry.ensures) (ap (λ t. t.items) c.make.ensures) c.in_ok-frame.ensures.rooms
    (λ ps given. subst (λ (xs : List Value). Holds (code_of c.args.code.now.tasks c.args.which).names (bound ps xs) frame.slots) c.as_slice.ensures
    (c.in_ok-frame.ensures.holds ps given))

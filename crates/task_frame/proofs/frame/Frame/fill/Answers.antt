use Rattle.std.proofs.Common.{ap, ◌∙◌}
use Rattle.std.specs.Prelude.{slice_set}
use Rattle.task_machine.specs.Variables.{refilled}
use Rattle.task_frame.specs.Frames.{slot_in_place}
use Rattle.task_frame.proofs.Laying.{filled_after}
use Rattle.task_frame.proofs.frame.Frame.fill.Goals as goal

pub returns-clause-slots : goal.returns-clause-slots
returns-clause-slots c =
    let o = c.open.ensures.slots in
    c.refill.ensures.slots ∙ ap (λ ss. slice_set ss c.args.variable (refilled (slot_in_place ss c.args.variable) c.args.value)) o.2
    ∙ filled_after c.args.self.now.slots c.args.variable _ o.0 c.args.value o.1

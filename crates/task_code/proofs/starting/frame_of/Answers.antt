use Rattle.std.proofs.Common.{◌∙◌, ◌-◌, List, length, replicate, arith, ap}
use Rattle.std.proofs.lemmas.List.{get_or_default}
use Rattle.task_frame.specs.declared.names.Name.{Name}
use Rattle.task_frame.specs.Frames.{zero_slot}
use Rattle.task_frame.specs.Names.{rooms_by}
use Rattle.task_code.proofs.Beginning.{begun, one_given}
use Rattle.task_code.proofs.starting.frame_of.Goals as goal

pub loop-index-init : goal.loop-index-init
loop-index-init c =
    record {
      rooms = c.in_ok-frame.ensures.rooms ∙ ap rooms_by c.as_slice.ensures;
      holds = λ ps given. begun c.args.task.now.names ps c.as_slice-params.result.now c.in_ok-frame.frame.slots _
          (c.in_ok-frame.ensures.slots ∙ ap (λ (ns : List Name). replicate (length ns) zero_slot) c.as_slice.ensures) given;
    }

pub loop-index-preserved : goal.loop-index-preserved
loop-index-preserved c =
    let h = c.loop-index.invariant in
    record {
      rooms = c.give.ensures.rooms ∙ h.rooms;
      holds =
          λ ps given. one_given c.args.task.now.names ps c.as_slice-params.result.now c.loop-index.index _ c.loop-index.frame.slots c.give.new.frame.slots
          c.loop-index.frame.rooms c.args.args.now (omega arith) (omega arith)
          (get_or_default c.as_slice-params.result.now (c.loop-index.index - 1) _ _ (omega arith)) h.rooms given c.give.ensures.slots (h.holds ps given);
    }

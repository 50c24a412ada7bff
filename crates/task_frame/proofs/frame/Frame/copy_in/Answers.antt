use Rattle.std.proofs.Common.{arith, length, ◌∙◌, refl}
use Rattle.task_frame.proofs.Laying.{any_default, same_shape, copy_step, copy_done}
use Rattle.task_frame.proofs.frame.Frame.copy_in.Goals as goal

pub loop-index-init : goal.loop-index-init
loop-index-init c =
    let s = same_shape c.args.self.now.slots c.args.variable (length c.args.values.now) c.requires in
    record { slots = (s.0, omega (arith, s.1), s.2); rooms = refl }

pub loop-index-preserved : goal.loop-index-preserved
loop-index-preserved c =
    let h = c.loop-index.invariant.slots in
    record {
      slots =
          copy_step c.args.self.now.slots c.loop-index.self.slots c.set_element.new.self.slots c.args.variable c.loop-index.index c.args.values.now h.0 _
          c.loop-index-test.true (any_default c.args.values.now c.loop-index.index _ _ c.loop-index-test.true) h.1 h.2 c.set_element.ensures.slots;
      rooms = c.set_element.ensures.rooms ∙ c.loop-index.invariant.rooms;
    }

pub returns-clause-slots : goal.returns-clause-slots
returns-clause-slots c =
    let h = c.loop-index.invariant.slots in
    copy_done c.args.self.now.slots c.loop-index.self.slots c.args.variable c.loop-index.index c.args.values.now h.0 c.loop-index-test.false h.1 h.2

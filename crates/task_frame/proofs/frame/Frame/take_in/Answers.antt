use Rattle.std.proofs.Common.{◌∙◌, sym}
use Rattle.std.specs.Prelude.{slice_index}
use Rattle.task_frame.proofs.Laying.{taken_in, not_taken}
use Rattle.task_frame.proofs.frame.Frame.take_in.Goals as goal

pub returns-in-One-clause-slots : goal.returns-in-One-clause-slots
returns-in-One-clause-slots c =
    let o = c.open.ensures.slots in
    not_taken c.args.self.now.slots c.open.new.self.slots c.args.variable (slice_index c.args.self.now.rooms c.args.variable) c.args.values.now o.0 o.2
    (sym c.shape.ensures.is ∙ c.in-One.is)

pub returns-in-Many-clause-slots : goal.returns-in-Many-clause-slots
returns-in-Many-clause-slots c =
    let o = c.open.ensures.slots in
    c.copy_in.ensures.slots ∙ taken_in c.args.self.now.slots c.open.new.self.slots c.args.variable c.in-Many.count
    (slice_index c.args.self.now.rooms c.args.variable) c.args.values.now o.0 o.1 o.2 (sym c.shape.ensures.is ∙ c.in-Many.is)

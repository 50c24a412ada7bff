use Rattle.std.proofs.Common.{◌≡◌, ap, sym, ◌∙◌, subst, arith, rules, w64, to_z, of_z}
use Rattle.std.specs.Prelude.{Some}
use Rattle.task_machine.specs.Values.{index_of}
use Rattle.task_frame.specs.Frames.{shape_size, slot_for}
use Rattle.task_code.specs.Tasks.{store_slots}
use Rattle.task_code.proofs.Simulating.{many_is_stored}
use Rattle.task_code.proofs.steps.store.Goals as goal

pub returns-in-Many-clause-stored : goal.returns-in-Many-clause-stored
returns-in-Many-clause-stored c =
    let same : shape_size c.shape.result ≡ c.in-Many.count = ap shape_size c.in-Many.is in
    let back : to_z w64 (of_z w64 c.args.index) ≡ c.args.index = search rules in
    let h =
    many_is_stored c.args.frame.now.slots c.in-Some.variable c.args.index c.args.value c.in-Many.count c.place_or_first.result
    c.set_element.new.self.slots (sym c.shape.ensures.is ∙ c.in-Many.is) (omega (arith, c.shape.ensures.small, same))
    (λ some small. c.place_or_first.ensures some small ∙ ap (index_of c.in-Many.count) back) c.set_element.ensures.slots in
    subst (λ v. store_slots c.args.frame.now.slots v (slot_for c.args.frame.now.slots v) c.args.index c.args.value ≡ Some c.set_element.new.self.slots)
    (sym c.in-Some.is) h

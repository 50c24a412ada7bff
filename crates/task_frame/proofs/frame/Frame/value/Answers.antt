use Rattle.std.proofs.Common.{◌≡◌, length, take, drop, arith, ap, sym, ◌∙◌}
use Rattle.std.specs.Prelude.{slice_get, Some, None}
use Rattle.task_machine.specs.Variables.{One, Many, value_of}
use Rattle.task_frame.specs.Frames.{Held, slot_in_place, zero_slot}
use Rattle.task_frame.proofs.Laying.{lies_in, read_there, elements_there, slot_past}
use Rattle.task_frame.proofs.frame.Frame.value.Goals as goal

pub index-requires : goal.index-requires
index-requires c =
    let i = c.self.inside in
    let there : slice_get i.places.items c.args.variable ≡ Some c.in-Some.place =
    ap (λ ps. slice_get ps c.args.variable) (sym c.deref.ensures.value) ∙ sym c.place_of.ensures ∙ c.in-Some.is in
    let inside = lies_in i.places.items 0 (length i.values.items) c.args.variable c.in-Some.place c.self.invariant there in
    omega (arith, inside.to, inside.room)

pub returns-in-Many : goal.returns-in-Many
returns-in-Many c =
    let i = c.self.inside in
    let there : slice_get i.places.items c.args.variable ≡ Some c.in-Some.place =
    ap (λ ps. slice_get ps c.args.variable) (sym c.deref.ensures.value) ∙ sym c.place_of.ensures ∙ c.in-Some.is in
    let slot : slot_in_place c.args.self.now.slots c.args.variable ≡ Many (take c.in-Many.field-0 (drop c.in-Some.place.first i.values.items)) =
    ap (λ (h : Held). slot_in_place h.slots c.args.variable) (sym c.self.view_is)
    ∙ elements_there i.values.items i.places.items c.args.variable c.in-Some.place c.in-Many.field-0 there c.in-Many.is in
    sym (ap value_of slot)

pub returns-in-One : goal.returns-in-One
returns-in-One c =
    let i = c.self.inside in
    let there : slice_get i.places.items c.args.variable ≡ Some c.in-Some.place =
    ap (λ ps. slice_get ps c.args.variable) (sym c.deref.ensures.value) ∙ sym c.place_of.ensures ∙ c.in-Some.is in
    let slot : slot_in_place c.args.self.now.slots c.args.variable ≡ One c.index.result.now =
    ap (λ (h : Held). slot_in_place h.slots c.args.variable) (sym c.self.view_is)
    ∙ read_there i.values.items i.places.items c.args.variable c.in-Some.place c.index.result.now c.self.invariant there c.in-One.is c.index.ensures in
    sym (ap value_of slot)

pub returns-in-None : goal.returns-in-None
returns-in-None c =
    let i = c.self.inside in
    let there : slice_get i.places.items c.args.variable ≡ None =
    ap (λ ps. slice_get ps c.args.variable) (sym c.deref.ensures.value) ∙ sym c.place_of.ensures ∙ c.in-None.is in
    let slot : slot_in_place c.args.self.now.slots c.args.variable ≡ zero_slot =
    ap (λ (h : Held). slot_in_place h.slots c.args.variable) (sym c.self.view_is) ∙ slot_past i.values.items i.places.items c.args.variable there in
    sym (ap value_of slot)

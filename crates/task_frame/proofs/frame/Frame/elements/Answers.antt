use Rattle.std.proofs.Common.{◌≡◌, length, take, drop, ap, sym, ◌∙◌, arith}
use Rattle.std.specs.Prelude.{slice_get, Some, None}
use Rattle.task_frame.specs.Frames.{Held, slot_in_place, elements_of, shape_size}
use Rattle.task_frame.proofs.Laying.{lies_in, one_there, elements_there, slot_past}
use Rattle.task_frame.proofs.frame.Frame.elements.Goals as goal

pub part-requires : goal.part-requires
part-requires c =
    let i = c.self.inside in
    let there : slice_get i.places.items c.args.variable ≡ Some c.in-Some.place =
    ap (λ ps. slice_get ps c.args.variable) (sym c.deref.ensures.value) ∙ sym c.place_of.ensures ∙ c.in-Some.is in
    let inside = lies_in i.places.items 0 (length i.values.items) c.args.variable c.in-Some.place c.self.invariant there in
    let size : shape_size c.in-Some.place.shape ≡ c.in-Many.length = ap shape_size c.in-Many.is in
    omega (arith, inside.to, inside.fits, size, ap length c.deref-in-Many.ensures.value)

pub returns-in-One : goal.returns-in-One
returns-in-One c =
    let i = c.self.inside in
    let there : slice_get i.places.items c.args.variable ≡ Some c.in-Some.place =
    ap (λ ps. slice_get ps c.args.variable) (sym c.deref.ensures.value) ∙ sym c.place_of.ensures ∙ c.in-Some.is in
    ap (λ (h : Held). elements_of (slot_in_place h.slots c.args.variable)) (sym c.self.view_is)
    ∙ ap elements_of (one_there i.values.items i.places.items c.args.variable c.in-Some.place there c.in-One.is)

pub returns-in-Many : goal.returns-in-Many
returns-in-Many c =
    let i = c.self.inside in
    let there : slice_get i.places.items c.args.variable ≡ Some c.in-Some.place =
    ap (λ ps. slice_get ps c.args.variable) (sym c.deref.ensures.value) ∙ sym c.place_of.ensures ∙ c.in-Some.is in
    ap (λ (h : Held). elements_of (slot_in_place h.slots c.args.variable)) (sym c.self.view_is)
    ∙ ap elements_of (elements_there i.values.items i.places.items c.args.variable c.in-Some.place c.in-Many.length there c.in-Many.is)
    ∙ ap (λ xs. Some (take c.in-Many.length (drop c.in-Some.place.first xs))) (sym c.deref-in-Many.ensures.value) ∙ ap Some (sym c.part.ensures)

pub returns-in-None : goal.returns-in-None
returns-in-None c =
    let i = c.self.inside in
    let there : slice_get i.places.items c.args.variable ≡ None =
    ap (λ ps. slice_get ps c.args.variable) (sym c.deref.ensures.value) ∙ sym c.place_of.ensures ∙ c.in-None.is in
    ap (λ (h : Held). elements_of (slot_in_place h.slots c.args.variable)) (sym c.self.view_is)
    ∙ ap elements_of (slot_past i.values.items i.places.items c.args.variable there)

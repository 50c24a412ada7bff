use Rattle.std.proofs.Common.{◌≡◌, length, ap, sym, subst, ◌∙◌, arith}
use Rattle.std.specs.Prelude.{slice_get, slice_set, Some, None}
use Rattle.task_frame.specs.Frames.{Held, slot_in_place, with_element, slots_of, shape_size}
use Rattle.task_frame.proofs.Laying.{lies_in, element_is_set, elements_there, many_is_kept, one_is_kept, set_nothing}
use Rattle.task_frame.proofs.frame.Frame.set_element.Goals as goal

pub overflow_add-at : goal.overflow_add-at
overflow_add-at c =
    let i = c.self.inside in
    let there : slice_get i.places.items c.args.variable ≡ Some c.in-Some.place =
    ap (λ ps. slice_get ps c.args.variable) (sym c.deref.ensures.value) ∙ sym c.place_of.ensures ∙ c.in-Some.is in
    let inside = lies_in i.places.items 0 (length i.values.items) c.args.variable c.in-Some.place c.self.invariant there in
    let size : shape_size c.in-Some.place.shape ≡ c.in-Many.length = ap shape_size c.in-Many.is in
    let small = i.values.small in
    omega (arith, inside.to, inside.fits, size, small, c.if-index-length.true)

pub index_mut-requires : goal.index_mut-requires
index_mut-requires c =
    let i = c.self.inside in
    let there : slice_get i.places.items c.args.variable ≡ Some c.in-Some.place =
    ap (λ ps. slice_get ps c.args.variable) (sym c.deref.ensures.value) ∙ sym c.place_of.ensures ∙ c.in-Some.is in
    let inside = lies_in i.places.items 0 (length i.values.items) c.args.variable c.in-Some.place c.self.invariant there in
    let size : shape_size c.in-Some.place.shape ≡ c.in-Many.length = ap shape_size c.in-Many.is in
    omega (arith, inside.to, inside.fits, size)

pub returns-then-index-length-clause-slots : goal.returns-then-index-length-clause-slots
returns-then-index-length-clause-slots c =
    let i = c.self.inside in
    let there : slice_get i.places.items c.args.variable ≡ Some c.in-Some.place =
    ap (λ ps. slice_get ps c.args.variable) (sym c.deref.ensures.value) ∙ sym c.place_of.ensures ∙ c.in-Some.is in
    element_is_set i.values.items i.places.items c.args.variable c.in-Some.place c.in-Many.length c.args.index c.args.value c.self.invariant there
    c.in-Many.is c.if-index-length.true
    ∙ ap (λ s. slice_set (slots_of i.values.items i.places.items) c.args.variable (with_element s c.args.index c.args.value))
    (sym (elements_there i.values.items i.places.items c.args.variable c.in-Some.place c.in-Many.length there c.in-Many.is))
    ∙ ap (λ (h : Held). slice_set h.slots c.args.variable (with_element (slot_in_place h.slots c.args.variable) c.args.index c.args.value)) c.self.view_is

pub returns-else-index-length-clause-slots : goal.returns-else-index-length-clause-slots
returns-else-index-length-clause-slots c =
    let i = c.self.inside in
    let there : slice_get i.places.items c.args.variable ≡ Some c.in-Some.place =
    ap (λ ps. slice_get ps c.args.variable) (sym c.deref.ensures.value) ∙ sym c.place_of.ensures ∙ c.in-Some.is in
    let e =
    many_is_kept i.values.items i.places.items c.args.variable c.in-Some.place c.in-Many.length c.args.index c.args.value there c.in-Many.is
    c.if-index-length.false in
    subst
    (λ (h : Held). h.slots ≡ slice_set h.slots c.args.variable
    (with_element (slot_in_place h.slots c.args.variable) c.args.index c.args.value)) c.self.view_is e

pub returns-in_default-shape-clause-slots : goal.returns-in_default-shape-clause-slots
returns-in_default-shape-clause-slots c =
    let i = c.self.inside in
    let there : slice_get i.places.items c.args.variable ≡ Some c.in-Some.place =
    ap (λ ps. slice_get ps c.args.variable) (sym c.deref.ensures.value) ∙ sym c.place_of.ensures ∙ c.in-Some.is in
    let e = one_is_kept i.values.items i.places.items c.args.variable c.in-Some.place c.args.index c.args.value there c.in_default-shape.is in
    subst
    (λ (h : Held). h.slots ≡ slice_set h.slots c.args.variable
    (with_element (slot_in_place h.slots c.args.variable) c.args.index c.args.value)) c.self.view_is e

pub returns-in_default-clause-slots : goal.returns-in_default-clause-slots
returns-in_default-clause-slots c =
    let i = c.self.inside in
    let there : slice_get i.places.items c.args.variable ≡ None =
    ap (λ ps. slice_get ps c.args.variable) (sym c.deref.ensures.value) ∙ sym c.place_of.ensures ∙ c.in_default.is in
    let e = set_nothing i.values.items i.places.items c.args.variable
    (with_element (slot_in_place (slots_of i.values.items i.places.items) c.args.variable) c.args.index c.args.value) there in
    subst
    (λ (h : Held). h.slots ≡ slice_set h.slots c.args.variable
    (with_element (slot_in_place h.slots c.args.variable) c.args.index c.args.value)) c.self.view_is e

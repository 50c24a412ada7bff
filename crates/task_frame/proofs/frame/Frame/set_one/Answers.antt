use Rattle.std.proofs.Common.{◌≡◌, length, refl, ap, sym, subst, ◌∙◌, arith}
use Rattle.std.specs.Prelude.{slice_get, slice_set, Some, None}
use Rattle.std.proofs.Math.ListN.{length-set}
use Rattle.task_machine.specs.Variables.{One}
use Rattle.task_frame.specs.declared.frame.Shape.TheVariants as shape
use Rattle.task_frame.specs.Frames.{Held, AreLaid}
use Rattle.task_frame.proofs.Laying.{lies_in, one_is_set, laid_reshaped, rooms_reshaped, set_nothing}
use Rattle.task_frame.proofs.frame.Frame.set_one.Goals as goal

pub index_mut-requires-in-Some : goal.index_mut-requires-in-Some
index_mut-requires-in-Some c =
    let i = c.self.inside in
    let there : slice_get i.places.items c.args.variable ≡ Some c.in-Some.place =
    ap (λ ps. slice_get ps c.args.variable) (sym c.deref.ensures.value) ∙ sym c.place_of.ensures ∙ c.in-Some.is in
    let inside = lies_in i.places.items 0 (length i.values.items) c.args.variable c.in-Some.place c.self.invariant there in
    omega (arith, inside.to, inside.room)

pub invariant_of-self : goal.invariant_of-self
invariant_of-self c =
    let i = c.self.inside in
    let there : slice_get i.places.items c.args.variable ≡ Some c.in-Some.place =
    ap (λ ps. slice_get ps c.args.variable) (sym c.deref.ensures.value) ∙ sym c.place_of.ensures ∙ c.in-Some.is in
    let inside = lies_in i.places.items 0 (length i.values.items) c.args.variable c.in-Some.place c.self.invariant there in
    subst
    (λ n. AreLaid 0
    (slice_set i.places.items c.args.variable (record { first = c.in-Some.place.first; room = c.in-Some.place.room; shape = shape.One })) n)
    (sym (length-set i.values.items c.in-Some.place.first c.args.value))
    (laid_reshaped i.places.items 0 (length i.values.items) c.args.variable c.in-Some.place _ c.self.invariant there refl refl inside.room)

pub returns-in-Some-clause-slots : goal.returns-in-Some-clause-slots
returns-in-Some-clause-slots c =
    let i = c.self.inside in
    let there : slice_get i.places.items c.args.variable ≡ Some c.in-Some.place =
    ap (λ ps. slice_get ps c.args.variable) (sym c.deref.ensures.value) ∙ sym c.place_of.ensures ∙ c.in-Some.is in
    one_is_set i.values.items i.places.items c.args.variable c.in-Some.place _ c.args.value c.self.invariant there refl refl
    ∙ ap (λ (h : Held). slice_set h.slots c.args.variable (One c.args.value)) c.self.view_is

pub returns-in-Some-clause-rooms : goal.returns-in-Some-clause-rooms
returns-in-Some-clause-rooms c =
    let i = c.self.inside in
    let there : slice_get i.places.items c.args.variable ≡ Some c.in-Some.place =
    ap (λ ps. slice_get ps c.args.variable) (sym c.deref.ensures.value) ∙ sym c.place_of.ensures ∙ c.in-Some.is in
    rooms_reshaped i.places.items c.args.variable c.in-Some.place _ there refl ∙ ap (λ (h : Held). h.rooms) c.self.view_is

pub returns-in_default-clause-slots : goal.returns-in_default-clause-slots
returns-in_default-clause-slots c =
    let i = c.self.inside in
    let there : slice_get i.places.items c.args.variable ≡ None =
    ap (λ ps. slice_get ps c.args.variable) (sym c.deref.ensures.value) ∙ sym c.place_of.ensures ∙ c.in_default.is in
    subst (λ (h : Held). h.slots ≡ slice_set h.slots c.args.variable (One c.args.value)) c.self.view_is
    (set_nothing i.values.items i.places.items c.args.variable (One c.args.value) there)

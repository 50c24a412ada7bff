use Rattle.std.proofs.Common.{◌≡◌, List, length, min, refl, ap, sym, subst, ◌∙◌, arith}
use Rattle.std.specs.Prelude.{slice_get, slice_set, slice_index, Some, None}
use Rattle.fut_base.specs.declared.record.Value.{Value}
use Rattle.task_machine.specs.Variables.{Many}
use Rattle.task_frame.specs.declared.frame.Shape.TheVariants as shape
use Rattle.task_frame.specs.Frames.{Held, slots_of}
use Rattle.task_frame.proofs.Laying.{laid_reshaped, rooms_reshaped, is_opened, none_opened}
use Rattle.task_frame.proofs.frame.Frame.open.Goals as goal

pub invariant_of-self : goal.invariant_of-self
invariant_of-self c =
    let i = c.self.inside in
    let there : slice_get i.places.items c.args.variable ≡ Some c.in-Some.place =
    ap (λ ps. slice_get ps c.args.variable) (sym c.deref.ensures.value) ∙ sym c.place_of.ensures ∙ c.in-Some.is in
    let h = c.min.ensures in
    laid_reshaped i.places.items 0 (length i.values.items) c.args.variable c.in-Some.place _ c.self.invariant there refl refl (omega (arith, c.min.ensures))

pub returns-in-Some-clause-slots : goal.returns-in-Some-clause-slots
returns-in-Some-clause-slots c =
    let i = c.self.inside in
    let there : slice_get i.places.items c.args.variable ≡ Some c.in-Some.place =
    ap (λ ps. slice_get ps c.args.variable) (sym c.deref.ensures.value) ∙ sym c.place_of.ensures ∙ c.in-Some.is in
    let e = is_opened i.values.items i.places.items c.args.variable c.args.count c.in-Some.place
    (record { first = c.in-Some.place.first; room = c.in-Some.place.room; shape = shape.Many c.min.result }) c.self.invariant there refl
    (ap shape.Many c.min.ensures) in
    subst
    (λ (h : Held). (vs : List Value) × (length vs ≡ min c.args.count (slice_index h.rooms c.args.variable))
    ×
    (slots_of i.values.items
    (slice_set i.places.items c.args.variable (record { first = c.in-Some.place.first; room = c.in-Some.place.room; shape = shape.Many c.min.result }))
    ≡ slice_set h.slots c.args.variable (Many vs))) c.self.view_is e

pub returns-in-Some-clause-rooms : goal.returns-in-Some-clause-rooms
returns-in-Some-clause-rooms c =
    let i = c.self.inside in
    let there : slice_get i.places.items c.args.variable ≡ Some c.in-Some.place =
    ap (λ ps. slice_get ps c.args.variable) (sym c.deref.ensures.value) ∙ sym c.place_of.ensures ∙ c.in-Some.is in
    rooms_reshaped i.places.items c.args.variable c.in-Some.place _ there refl ∙ ap (λ (h : Held). h.rooms) c.self.view_is

pub returns-in_default-clause-slots : goal.returns-in_default-clause-slots
returns-in_default-clause-slots c =
    let i = c.self.inside in
    let there : slice_get i.places.items c.args.variable ≡ None =
    ap (λ ps. slice_get ps c.args.variable) (sym c.deref.ensures.value) ∙ sym c.place_of.ensures ∙ c.in_default.is in
    subst
    (λ (h : Held). (vs : List Value) × (length vs ≡ min c.args.count (slice_index h.rooms c.args.variable))
    × (h.slots ≡ slice_set h.slots c.args.variable (Many vs))) c.self.view_is (none_opened i.values.items i.places.items c.args.variable c.args.count there)

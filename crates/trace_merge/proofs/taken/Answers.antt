use Rattle.std.proofs.Common.{◌≡◌, length, List, [], ◌∷◌, ◌++◌, Some, slice_get, refl, sym, ap, ◌∙◌, subst, arith, length-append}
use Rattle.std.proofs.lemmas.Option.{get_or_from_slice_get, same_Some}
use mathlib.Core.Logic.{dite}
use native.Mathlib.Decide.{ℕ_discrete}
use Rattle.fut_base.specs.declared.record.Entry.{Entry}
use Rattle.trace_merge.specs.Placing.{HasPlace}
use Rattle.task_machine.proofs.Places.{get_below, get_new}
use Rattle.trace_merge.proofs.Entering.{set_off, set_length, get_left}
use Rattle.trace_merge.proofs.taken.Goals as goal

pub loop-k-init : goal.loop-k-init
loop-k-init c = record { size = ap (λ r. length r.items) c.make-history.ensures; same = refl; done = λ i e less h. absurd (omega (arith, less)); rest = λ i le. refl }

pub unreachable-requires : goal.unreachable-requires
unreachable-requires c =
    let k = c.loop-k.k in
    let (e, has) = c.requires k c.loop-k-test.true in
    c.in_default.not-Some e (c.take.ensures.value ∙ get_or_from_slice_get c.loop-k.places k (Some e) _ (c.loop-k.invariant.rest k (omega arith) ∙ has))

pub loop-k-preserved : goal.loop-k-preserved
loop-k-preserved c =
    let k = c.loop-k.k in
    let inv = c.loop-k.invariant in
    let hist = c.loop-k.history.items in
    let entry = c.in-Some.entry in
    let items : c.push.new.self.items ≡ hist ++ entry ∷ [] = c.push.ensures.items ∙ ap (λ l. l ++ entry ∷ []) c.in_ok-reserve.ensures.items in
    let longer = length-append hist (entry ∷ []) in
    let whole = ap (λ (l : List Entry). length l) items in
    let size = inv.size in
    let here : (e : Entry) → HasPlace c.args.places.now k e → entry ≡ e =
    (λ e h. same_Some entry e (sym c.in-Some.is ∙ c.take.ensures.value
    ∙ get_or_from_slice_get c.loop-k.places k (Some e) _ (inv.rest k (omega arith) ∙ h))) in
    record {
      size = omega (arith, size, whole, longer);
      same = set_length c.loop-k.places k c.take.new.self ∙ inv.same;
      done = λ i e less h. subst (λ l. slice_get l i ≡ Some e) (sym items)
          (dite (ℕ_discrete i k)
          (λ (at : i ≡ k). subst (λ n. slice_get (hist ++ entry ∷ []) n ≡ Some e) (inv.size ∙ sym at)
          (get_new hist [] entry ∙ ap (λ x. Some x) (here e (subst (λ n. HasPlace c.args.places.now n e) at h))))
          (λ ne. get_left hist (entry ∷ []) i e (inv.done i e (omega (arith, less, ne)) h)));
      rest = λ i le. set_off c.loop-k.places k i c.take.new.self (λ same. omega (arith, le, same)) ∙ inv.rest i (omega (arith, le));
    }

pub returns : goal.returns
returns c =
    let inv = c.loop-k.invariant in
    let end = c.loop-k.auto.k-end in
    let stop = c.loop-k-test.false in
    let size = inv.size in
    record {
      size = omega (arith, size, end, stop);
      each = λ k e h. inv.done k e (let less = get_below c.args.places.now k (Some e) h in omega (arith, less, end, stop)) h;
    }

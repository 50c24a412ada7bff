-- A record is refused at one entry at most, and nowhere where it is accepted.
use Rattle.std.proofs.Common.{◌≡◌, ℕ, suc, ◌+◌, ◌-◌, ◌<◌, List, ◌∷◌, ◌++◌, length, take, drop, inl, inr, sym, ap, ◌∙◌, subst, arith}
use Rattle.std.specs.Prelude.{Some, slice_get, get_or}
use Rattle.std.proofs.lemmas.List.{length-take, take-append-drop}
use Rattle.std.proofs.lemmas.Option.{slice_get_within, get_or_from_slice_get}
use Rattle.std.proofs.Math.Seq.{drop-cons, take-append-add}
use Rattle.fut_base.specs.declared.event.Event.{Event}
use Rattle.fut_base.specs.declared.record.Race.{Race}
use Rattle.fut_base.specs.declared.record.Finish.{Finish}
use Rattle.fut_syntax.specs.Trees as tree
use Rattle.task_machine.specs.Machine.{Machine, IsLegal, IsStep, Leads, opening}
use Rattle.task_machine.proofs.Leading.{leads_to_one, split}
use Rattle.run_check.specs.Checks.{IsAccepted, IsNoStepAt, IsRefusedAt}

by_head : {X : Type 0} (ys : List X) (y x : X) (rest : List X) → ys ≡ y ∷ rest → y ≡ x → (more : List X) × (ys ≡ x ∷ more)
by_head ys y x rest e p = (rest, e ∙ ap (λ z. z ∷ rest) p)

-- what stands at a place is the head of what is left from there
from_there : {X : Type 0} (xs : List X) (k : ℕ) (x : X) → slice_get xs k ≡ Some x → (more : List X) × (drop k xs ≡ x ∷ more)
from_there xs k x at = by_head (drop k xs) (get_or xs k x) x _ (drop-cons xs k x (slice_get_within xs k x at)) (get_or_from_slice_get xs k x x at)

-- the list is what stands before the place, what stands there, and more
around : {X : Type 0} (xs : List X) (k : ℕ) (x : X) → slice_get xs k ≡ Some x → (more : List X) × (xs ≡ take k xs ++ x ∷ more)
around xs k x at =
    let later = from_there xs k x at in
    (later.0, sym (take-append-drop k xs) ∙ ap (λ r. take k xs ++ r) later.1)

-- so is each beginning of the list that goes beyond the place
around_taken : {X : Type 0} (xs : List X) (k n : ℕ) (x : X) → slice_get xs k ≡ Some x → k < n → (more : List X) × (take n xs ≡ take k xs ++ x ∷ more)
around_taken xs k n x at less =
    let whole = around xs k x at in
    let d = n - k - 1 in
    let long : n ≡ length (take k xs) + suc d = omega (arith, length-take k xs, slice_get_within xs k x at, less) in
    (take d whole.0, ap (take n) whole.1 ∙ (ap (λ m. take m (take k xs ++ x ∷ whole.0)) long ∙ take-append-add (take k xs) (x ∷ whole.0) (suc d)))

-- no events go past an entry that is no step
no_way : (P : tree.Program) (h : List Event) (k : ℕ) (bad : IsNoStepAt P h k) (g more : List Event) (m : Machine) → Leads P (opening P) g m
    → g ≡ take k h ++ bad.entry ∷ more → ⊥
no_way P h k bad g more m leads is =
    let parts = split P (opening P) (take k h) (bad.entry ∷ more) m (subst (λ x. Leads P (opening P) x m) is leads) in
    let same : parts.0 ≡ bad.machine = leads_to_one P (opening P) (take k h) parts.0 bad.machine parts.1 bad.before in
    let goes : Leads P parts.0 (bad.entry ∷ more) m = parts.2 in
    bad.none goes.0 (subst (λ n. IsStep P n bad.entry goes.0) same goes.1)

legal_goes_on : (P : tree.Program) (h : List Event) (k : ℕ) → IsLegal P h → IsNoStepAt P h k → ⊥
legal_goes_on P h k legal bad =
    let whole = around h k bad.entry bad.stands in
    no_way P h k bad h whole.0 legal.0 legal.1 whole.1

not_later : (P : tree.Program) (h : List Event) (j k : ℕ) → IsNoStepAt P h j → IsNoStepAt P h k → j < k → ⊥
not_later P h j k first second less =
    let begun = around_taken h j k first.entry first.stands less in
    no_way P h j first (take k h) begun.0 second.machine second.before begun.1

pub accepted_is_not_refused : (P : tree.Program) (h : List Event) (races : List Race) (end : Finish) (k : ℕ) → IsAccepted P h races end
    → IsRefusedAt P h races end k → ⊥
accepted_is_not_refused P h races end k accepted (inl bad) = legal_goes_on P h k accepted.legal bad
accepted_is_not_refused P h races end k accepted (inr others) = others.others accepted.those

pub one_refusal : (P : tree.Program) (h : List Event) (races : List Race) (end : Finish) (j k : ℕ) → IsRefusedAt P h races end j → IsRefusedAt P h races end k
    → j ≡ k
one_refusal P h races end j k (inl a) (inl b) = omega (arith, not_later P h j k a b, not_later P h k j b a)
one_refusal P h races end j k (inl a) (inr b) = absurd (legal_goes_on P h j b.legal a)
one_refusal P h races end j k (inr a) (inl b) = absurd (legal_goes_on P h k a.legal b)
one_refusal P h races end j k (inr a) (inr b) = a.number ∙ sym b.number

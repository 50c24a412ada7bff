-- Where the run stops is the fault. Nothing here names a symbol.
use Rattle.std.proofs.Common.{◌≡◌, ℕ, zero, suc, ◌-◌, ◌<◌, ◌≤◌, List, [], ◌∷◌, ◌++◌, ◌⊎◌, inl, inr, refl, sym, subst}
use Rattle.std.proofs.Common.{ap, ◌∙◌, append_assoc, append-nil, length, length-append, take, arith, ⊎_elim, take_at}
use Rattle.std.specs.Prelude.{Option, Some, None}
use Rattle.run_record.specs.RunText.{run_text}
use Rattle.run_record.specs.Records.{IsSomeRunText, Begins, IsFault}
use Rattle.run_record.specs.Machine.{Symbol, all_due, next, go_on, walk, at_end, run_on, run}
use Rattle.run_record.proofs.Viable.{begins, walk_some}
use Rattle.run_record.proofs.Through.{through}

-- the run stops behind some bytes: none is left and some symbol is due, or the next byte can't come
record Stopped (s : List Symbol) (xs : List ℕ) (left : ℕ) : Type 0 where
  before : List ℕ
  rest : List ℕ
  due : List Symbol
  whole : xs ≡ before ++ rest
  left_is : left ≡ length rest
  walked : walk s before ≡ Some due
  bad : (rest ≡ []) ⊎ ((x : ℕ) × (more : List ℕ) × (rest ≡ x ∷ more) × (next due x ≡ None))

ended : (s : List Symbol) (left : ℕ) → at_end s ≡ Some left → Stopped s [] left
ended [] left e = absurd (cc)
ended (a ∷ k) left e = record { before = []; rest = []; due = a ∷ k; whole = refl; left_is = cc; walked = refl; bad = inl refl }

by_next : (s : List Symbol) (x : ℕ) (xs : List ℕ) (left : ℕ) → ((s' : List Symbol) → run s' xs ≡ Some left → Stopped s' xs left)
    → (o : Option (List Symbol)) → next s x ≡ o → run_on o (suc (length xs)) (λ s. run s xs) ≡ Some left → Stopped s (x ∷ xs) left
by_next s x xs left ih None eo e = record { before = []; rest = x ∷ xs; due = s; whole = refl; left_is = cc; walked = refl; bad = inr (x, xs, refl, eo) }
by_next s x xs left ih (Some s') eo e =
    let r = ih s' e in
    record {
      before = x ∷ r.before;
      rest = r.rest;
      due = r.due;
      whole = ap (λ q. x ∷ q) r.whole;
      left_is = r.left_is;
      walked = ap (λ o. go_on o (λ s. walk s r.before)) eo ∙ r.walked;
      bad = r.bad;
    }

stopped : (xs : List ℕ) (s : List Symbol) (left : ℕ) → run s xs ≡ Some left → Stopped s xs left
stopped [] s left e = ended s left e
stopped (x ∷ xs) s left e = by_next s x xs left (λ s' h. stopped xs s' left h) (next s x) refl e

-- the run stops within the bytes
pub left_most : (xs : List ℕ) (s : List Symbol) (left : ℕ) → run s xs ≡ Some left → left ≤ length xs
left_most xs s left e =
    let r = stopped xs s left e in
    omega (arith, r.left_is, ap length r.whole, length-append r.before r.rest)

-- where the machine stops it stops whatever stands behind
stops_there : (p : List ℕ) (s due : List Symbol) (x : ℕ) (more : List ℕ) → walk s p ≡ Some due → next due x ≡ None
    → run s (p ++ x ∷ more) ≡ Some (suc (length more))
stops_there [] s due x more e h =
    let same : s ≡ due = cc in
    let none : next s x ≡ None = ap (λ (q : List Symbol). next q x) same ∙ h in
    ap (λ o. run_on o (suc (length more)) (λ s. run s more)) none
stops_there (y ∷ p) s due x more e h =
    let m = walk_some p (next s y) due e in
    ap (λ o. run_on o (suc (length (p ++ x ∷ more))) (λ s. run s (p ++ x ∷ more))) m.1 ∙ stops_there p m.0 due x more m.2 h

-- a run text goes through to its end
pub passes_through : (xs : List ℕ) → IsSomeRunText xs → run all_due xs ≡ None
passes_through xs t =
    let text = t.4 in
    ap (λ q. run all_due q) (text.text ∙ sym (append-nil (run_text t.0 t.1 t.2 t.3))) ∙ (through t.0 t.1 t.2 t.3 text.within []).goes []

some_none : {X : Type 0} (o : Option X) (x : X) → o ≡ Some x → o ≡ None → ⊥
some_none None x e f = absurd (cc)
some_none (Some y) x e f = absurd (cc)

-- one byte more than a front
take_next : (p : List ℕ) (x : ℕ) (more : List ℕ) (n : ℕ) → length p < n → (q : List ℕ) × (take n (p ++ x ∷ more) ≡ p ++ x ∷ q)
take_next [] x more zero h = absurd (omega arith)
take_next [] x more (suc n) h = (take n more, refl)
take_next (y ∷ p) x more zero h = absurd (omega arith)
take_next (y ∷ p) x more (suc n) h = let r = take_next p x more n (omega arith) in (r.0, ap (λ q. y ∷ q) r.1)

order : (n m : ℕ) → (n ≤ m) ⊎ (m < n)
order zero m = inl (omega arith)
order (suc n) zero = inr (omega arith)
order (suc n) (suc m) = ⊎_elim (λ h. inl (omega arith)) (λ h. inr (omega arith)) (order n m)

none_longer : (xs p rest : List ℕ) (due : List Symbol) → xs ≡ p ++ rest → walk all_due p ≡ Some due
    → (rest ≡ []) ⊎ ((x : ℕ) × (more : List ℕ) × (rest ≡ x ∷ more) × (next due x ≡ None))
    → (n : ℕ) → n ≤ length xs → Begins (take n xs) → n ≤ length p
none_longer xs p rest due whole walked (inl none) n small b =
    omega (arith, small, ap length whole, length-append p rest, ap length none)
none_longer xs p rest due whole walked (inr bad) n small b = ⊎_elim (λ h. h) (λ longer.
    let x = bad.0 in
    let front = take_next p x bad.1 n longer in
    let text : take n xs ≡ p ++ x ∷ front.0 = ap (λ q. take n q) (whole ∙ ap (λ q. p ++ q) bad.2) ∙ front.1 in
    let all : take n xs ++ b.0 ≡ p ++ x ∷ (front.0 ++ b.0) = ap (λ q. q ++ b.0) text ∙ append_assoc p (x ∷ front.0) b.0 in
    absurd (some_none (run all_due (take n xs ++ b.0)) (suc (length (front.0 ++ b.0)))
    (ap (λ q. run all_due q) all ∙ stops_there p all_due due x (front.0 ++ b.0) walked bad.3) (passes_through (take n xs ++ b.0) b.1))) (order n (length p))

-- where the run stops is the fault
pub fault : (xs : List ℕ) (left : ℕ) → run all_due xs ≡ Some left → IsFault xs (length xs - left)
fault xs left e =
    let r = stopped xs all_due left e in
    let all = ap length r.whole ∙ length-append r.before r.rest in
    let count : length xs - left ≡ length r.before = omega (arith, all, r.left_is) in
    record {
      none = λ t. some_none (run all_due xs) left e (passes_through xs t);
      within = omega arith;
      begins = subst Begins (sym (ap (λ n. take n xs) count ∙ ap (λ q. take (length r.before) q) r.whole ∙ take_at r.before r.rest (length r.before) refl))
          (begins r.before r.due r.walked);
      longest = λ n small b. let most = none_longer xs r.before r.rest r.due r.whole r.walked r.bad n small b in omega (arith, most, count);
    }

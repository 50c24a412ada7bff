-- The holders' parts of a log share out its draws.
use Rattle.std.proofs.Common.{◌≡◌, ◌≢◌, ℕ, zero, suc, ◌+◌, ◌<◌, ◌≤◌, Bool, true, false, cond, ◌==◌, if◌then◌else◌, List}
use Rattle.std.proofs.Common.{[], ◌∷◌, ◌++◌, length, ◌⊎◌, inl, inr, refl, sym, ap, ◌∙◌, subst, arith, true≢false, map}
use Rattle.std.proofs.lemmas.Bool.{cases_eq as same_or_not, eq-eqb, eqb-true}
use Rattle.fut_base.proofs.Members.{among_left, among_right, among_split}
use Rattle.fut_base.proofs.Cases.{by_eq}
use Rattle.std.proofs.lemmas.List.{reverse-reverse}
use Rattle.std.proofs.lemmas.List.Sums.{sum_by-append}
use Rattle.std.specs.Prelude.{count_by}
use Rattle.fut_base.specs.declared.event.Event.{Event}
use Rattle.fut_base.specs.Dag.{Among}
use Rattle.access_shards.proofs.Histories.{Stood, stood_of, get_of}
use Rattle.merge_laws.specs.Parts.{Drawn, all_of, ShareOut, IsMerge, IsTraceOf, IsSharedRun}
use Rattle.event_clock.specs.Rule.{picked, own_of, trace_of, Rises}
use Rattle.merge_laws.specs.Logs.{owns_from, history_of, AreOfHolders, IsLoggedRun, LogIsShared, LogHasTraces, LogGivesRun, LogIsLegal}
use Rattle.fut_syntax.specs.Trees as tree
use Rattle.merge_laws.proofs.Lists.{weight, count_next}
use Rattle.merge_laws.proofs.Merging.{merge_is_legal}

abbrev Draw : Type 0
Draw = ℕ × Event

-- a draw of the log, with its ticket
abbrev Drew : List Draw → ℕ → Draw → Type 0
Drew [] k x = ⊥
Drew (y ∷ log) k x = ((length log ≡ k) × (y ≡ x)) ⊎ Drew log k x

drew_lt : (log : List Draw) (k : ℕ) (x : Draw) → Drew log k x → k < length log
drew_lt [] k x d = absurd d
drew_lt (y ∷ log) k x (inl d) = omega (arith, d.0)
drew_lt (y ∷ log) k x (inr d) = let l = drew_lt log k x d in omega (arith, l)

drew_some : (log : List Draw) (k : ℕ) → k < length log → (x : Draw) × Drew log k x
drew_some [] k lt = absurd (omega (arith, lt))
drew_some (y ∷ log) k lt = elim (same_or_not (length log) k) [
  | inl same ↦ (y, inl (same, refl))
  | inr ne ↦ (let d = drew_some log k (omega (arith, lt, ne)) in (d.0, inr d.1))
]

drew_among : (log : List Draw) (k : ℕ) (x : Draw) → Drew log k x → Among x log
drew_among [] k x d = absurd d
drew_among (y ∷ log) k x (inl d) = inl d.1
drew_among (y ∷ log) k x (inr d) = inr (drew_among log k x d)

-- ---- parts

in_part : (z : Drawn) (b : Bool) (part : List Drawn) (x : Drawn) → Among x (if b then part ++ z ∷ [] else part) → Among x part ⊎ ((b ≡ true) × (z ≡ x))
in_part z true part x a = elim (among_split x part (z ∷ []) a) [ inl l ↦ inl l | inr r ↦ elim r [ inl same ↦ inr (refl, same) | inr none ↦ absurd none ] ]
in_part z false part x a = inl a

part_in : (z : Drawn) (b : Bool) (part : List Drawn) (x : Drawn) → Among x part ⊎ ((b ≡ true) × (z ≡ x)) → Among x (if b then part ++ z ∷ [] else part)
part_in z true part x (inl a) = among_left x part (z ∷ []) a
part_in z true part x (inr n) = among_right x part (z ∷ []) (inl n.1)
part_in z false part x (inl a) = a
part_in z false part x (inr n) = absurd (true≢false (sym n.0))

part_drew : (test : Draw → Bool) (log : List Draw) (z : Drawn) → Among z (picked test log) → (x : Draw) × Drew log z.0 x × (x.1 ≡ z.1) × (test x ≡ true)
part_drew test [] z a = absurd a
part_drew test (y ∷ log) z a = elim (in_part (length log, y.1) (test y) (picked test log) z a) [
  | inl old ↦ (let k = part_drew test log z old in (k.0, inr k.1, k.2, k.3))
  | inr new ↦ (y, inl (ap (λ (w : Drawn). w.0) new.1, refl), ap (λ (w : Drawn). w.1) new.1, new.0)
]

drew_part : (test : Draw → Bool) (log : List Draw) (k : ℕ) (x : Draw) → Drew log k x → test x ≡ true → Among (k, x.1) (picked test log)
drew_part test [] k x d is = absurd d
drew_part test (y ∷ log) k x (inl d) is =
    part_in (length log, y.1) (test y) (picked test log) (k, x.1) (inr (ap test d.1 ∙ is, ap (λ i. (i, y.1)) d.0 ∙ ap (λ (w : Draw). (k, w.1)) d.1))
drew_part test (y ∷ log) k x (inr d) is = part_in (length log, y.1) (test y) (picked test log) (k, x.1) (inl (drew_part test log k x d is))

rising_end : (xs : List Drawn) (z : Drawn) → Rises xs → ((x : Drawn) → Among x xs → x.0 < z.0) → Rises (xs ++ z ∷ [])
rising_end [] z r f = ((λ y a. absurd a), tt)
rising_end (x ∷ xs) z r f = (
  λ y a. elim (among_split y xs (z ∷ []) a) [
    | inl l ↦ r.0 y l
    | inr r ↦ elim r [ inl same ↦ subst (λ (w : Drawn). x.0 < w.0) same (f x (inl refl)) | inr none ↦ absurd none ]
  ],
  rising_end xs z r.1 (λ y a. f y (inr a)),
)

rising_if : (xs : List Drawn) (z : Drawn) (b : Bool) → Rises xs → ((x : Drawn) → Among x xs → x.0 < z.0) → Rises (if b then xs ++ z ∷ [] else xs)
rising_if xs z true r f = rising_end xs z r f
rising_if xs z false r f = r

part_rises : (test : Draw → Bool) (log : List Draw) → Rises (picked test log)
part_rises test [] = tt
part_rises test (y ∷ log) =
    rising_if (picked test log) (length log, y.1) (test y) (part_rises test log) (λ x a. (let k = part_drew test log x a in drew_lt log x.0 k.0 k.1))

-- ---- all parts

owns_drew : (h n : ℕ) (log : List Draw) (z : Drawn) → Among z (all_of (owns_from h n log)) → (x : Draw) × Drew log z.0 x × (x.1 ≡ z.1)
owns_drew h zero log z a = absurd a
owns_drew h (suc n) log z a = elim (among_split z (own_of h log) (all_of (owns_from (h + 1) n log)) a) [
  | inl l ↦ (let k = part_drew (λ x. x.0 == h) log z l in (k.0, k.1, k.2))
  | inr r ↦ owns_drew (h + 1) n log z r
]

drew_owns : (h n : ℕ) (log : List Draw) (k : ℕ) (x : Draw) → Drew log k x → h ≤ x.0 → x.0 < h + n → Among (k, x.1) (all_of (owns_from h n log))
drew_owns h zero log k x d le lt = absurd (omega (arith, le, lt))
drew_owns h (suc n) log k x d le lt = elim (same_or_not x.0 h) [
  | inl same ↦ among_left (k, x.1) (own_of h log) (all_of (owns_from (h + 1) n log)) (drew_part (λ y. y.0 == h) log k x d (eq-eqb x.0 h same))
  | inr ne ↦ among_right (k, x.1) (own_of h log) (all_of (owns_from (h + 1) n log)) (drew_owns (h + 1) n log k x d (omega (arith, le, ne)) (omega (arith, lt)))
]

owns_rise : (h n : ℕ) (log : List Draw) (own : List Drawn) → Among own (owns_from h n log) → Rises own
owns_rise h zero log own a = absurd a
owns_rise h (suc n) log own (inl same) = subst Rises same (part_rises (λ x. x.0 == h) log)
owns_rise h (suc n) log own (inr a) = owns_rise (h + 1) n log own a

-- ---- each ticket once

abbrev at : ℕ → Drawn → Bool
at k x = x.0 == k

count_both : (k : ℕ) (xs ys : List Drawn) → count_by (at k) (xs ++ ys) ≡ count_by (at k) xs + count_by (at k) ys
count_both k xs ys = sum_by-append (λ x. cond (at k x) 1 0) xs ys

weight_off : (b : Bool) → b ≡ false → weight b ≡ 0
weight_off b e = ap weight e

weight_on : (b : Bool) → b ≡ true → weight b ≡ 1
weight_on b e = ap weight e

differ : (a b : ℕ) → a ≢ b → (a == b) ≡ false
differ a b ne = by_eq (λ t. t ≡ false) a b (λ e. absurd (ne e)) (λ _. refl)

count_none : (k : ℕ) (xs : List Drawn) → ((x : Drawn) → Among x xs → x.0 ≢ k) → count_by (at k) xs ≡ 0
count_none k [] f = refl
count_none k (x ∷ xs) f =
    let n = count_next (at k) x xs in
    let o = weight_off (at k x) (differ x.0 k (f x (inl refl))) in
    let r = count_none k xs (λ y a. f y (inr a)) in
    omega (arith, n, o, r)

count_end : (k : ℕ) (z : Drawn) (xs : List Drawn) → count_by (at k) (xs ++ z ∷ []) ≡ count_by (at k) xs + weight (at k z)
count_end k z xs =
    let b = count_both k xs (z ∷ []) in
    let n = count_next (at k) z [] in
    let o : count_by (at k) [] ≡ 0 = refl in
    omega (arith, b, n, o)

-- a new draw is counted by its holder
count_new : (k : ℕ) (z : Drawn) (xs : List Drawn) (b : Bool) → z.0 ≡ k → count_by (at k) xs ≡ 0 → count_by (at k) (if b then xs ++ z ∷ [] else xs) ≡ weight b
count_new k z xs true e none = let c = count_end k z xs in let w = weight_on (at k z) (eq-eqb z.0 k e) in let t : weight true ≡ 1 =
    refl in omega (arith, c, w, none, t)
count_new k z xs false e none = none

count_old : (k : ℕ) (z : Drawn) (xs : List Drawn) (b : Bool) → z.0 ≢ k → count_by (at k) (if b then xs ++ z ∷ [] else xs) ≡ count_by (at k) xs
count_old k z xs true ne = let c = count_end k z xs in let w = weight_off (at k z) (differ z.0 k ne) in omega (arith, c, w)
count_old k z xs false ne = refl

count_own : (log : List Draw) (k h : ℕ) (x : Draw) → Drew log k x → count_by (at k) (own_of h log) ≡ weight (x.0 == h)
count_own [] k h x d = absurd d
count_own (y ∷ log) k h x (inl d) =
    count_new k (length log, y.1) (own_of h log) (y.0 == h) d.0
    (count_none k (own_of h log) (λ z a e. (let q = part_drew (λ w. w.0 == h) log z a in let l = drew_lt log z.0 q.0 q.1 in omega (arith, l, e, d.0))))
    ∙ ap (λ (w : Draw). weight (w.0 == h)) d.1
count_own (y ∷ log) k h x (inr d) =
    count_old k (length log, y.1) (own_of h log) (y.0 == h) (λ e. (let l = drew_lt log k x d in omega (arith, l, e))) ∙ count_own log k h x d

count_later : (h n : ℕ) (log : List Draw) (k : ℕ) (x : Draw) → Drew log k x → x.0 < h → count_by (at k) (all_of (owns_from h n log)) ≡ 0
count_later h zero log k x d lt = refl
count_later h (suc n) log k x d lt =
    let b = count_both k (own_of h log) (all_of (owns_from (h + 1) n log)) in
    let o = count_own log k h x d in
    let w = weight_off (x.0 == h) (differ x.0 h (λ e. omega (arith, lt, e))) in
    let r = count_later (h + 1) n log k x d (omega (arith, lt)) in
    omega (arith, b, o, w, r)

count_once : (h n : ℕ) (log : List Draw) (k : ℕ) (x : Draw) → Drew log k x → h ≤ x.0 → x.0 < h + n → count_by (at k) (all_of (owns_from h n log)) ≡ 1
count_once h zero log k x d le lt = absurd (omega (arith, le, lt))
count_once h (suc n) log k x d le lt =
    let b = count_both k (own_of h log) (all_of (owns_from (h + 1) n log)) in
    let o = count_own log k h x d in
    elim (same_or_not x.0 h) [
      | inl same ↦
          (let w = weight_on (x.0 == h) (eq-eqb x.0 h same) in let r = count_later (h + 1) n log k x d (omega (arith, same)) in omega (arith, b, o, w, r))
      | inr ne ↦
          (let w = weight_off (x.0 == h) (differ x.0 h ne) in let r =
          count_once (h + 1) n log k x d (omega (arith, le, ne)) (omega (arith, lt)) in omega (arith, b, o, w, r))
    ]

-- ---- the history

length_map : (xs : List Draw) → length (map (λ (y : Draw). y.1) xs) ≡ length xs
length_map [] = refl
length_map (z ∷ xs) = ap suc (length_map xs)

drew_stood : (log : List Draw) (k : ℕ) (x : Draw) → Drew log k x → Stood (map (λ (y : Draw). y.1) log) k x.1
drew_stood [] k x d = absurd d
drew_stood (y ∷ log) k x (inl d) = inl (length_map log ∙ d.0, ap (λ (w : Draw). w.1) d.1)
drew_stood (y ∷ log) k x (inr d) = inr (drew_stood log k x d)

stood_drew : (log : List Draw) (k : ℕ) (e : Event) → Stood (map (λ (y : Draw). y.1) log) k e → (x : Draw) × Drew log k x × (x.1 ≡ e)
stood_drew [] k e s = absurd s
stood_drew (y ∷ log) k e (inl s) = (y, inl (sym (length_map log) ∙ s.0, refl), s.1)
stood_drew (y ∷ log) k e (inr s) = let d = stood_drew log k e s in (d.0, inr d.1, d.2)

from_zero : (k n : ℕ) → k < n → k < 0 + n
from_zero k n lt = omega (arith, lt)

log_merges : (n : ℕ) (log : List Draw) → AreOfHolders n log → IsMerge (owns_from 0 n log) (history_of log)
log_merges n log of k e = (
  λ a. (
      let d = owns_drew 0 n log (k, e) a in
      get_of (history_of log) k e
      (subst (λ (l : List Event). Stood l k e) (sym (reverse-reverse (map (λ (y : Draw). y.1) log)))
      (subst (λ (z : Event). Stood (map (λ (y : Draw). y.1) log) k z) d.2 (drew_stood log k d.0 d.1)))),
  λ g. (
      let d = stood_drew log k e (subst (λ (l : List Event). Stood l k e) (reverse-reverse (map (λ (y : Draw). y.1) log)) (stood_of (history_of log) k e g)) in
      subst (λ (z : Event). Among (k, z) (all_of (owns_from 0 n log))) d.2
      (drew_owns 0 n log k d.0 d.1 (omega arith) (from_zero d.0.0 n (of d.0 (drew_among log k d.0 d.1))))),
)

pub log_is_shared : LogIsShared
log_is_shared n log of = (
  record {
    rising = λ own a. owns_rise 0 n log own a;
    below = λ z a. (let d = owns_drew 0 n log z a in drew_lt log z.0 d.0 d.1);
    once = λ k lt. (let d = drew_some log k lt in count_once 0 n log k d.0 d.1 (omega arith) (from_zero d.0.0 n (of d.0 (drew_among log k d.0 d.1))));
  },
  log_merges n log of,
)

pub log_has_traces : LogHasTraces
log_has_traces n log t of =
    record {
      rising = part_rises (λ x. x.1.task == t) log;
      each = λ z. (
        (λ a. (
            let d = part_drew (λ x. x.1.task == t) log z a in
            let there : Among (z.0, d.0.1) (all_of (owns_from 0 n log)) =
            drew_owns 0 n log z.0 d.0 d.1 (omega arith) (from_zero d.0.0 n (of d.0 (drew_among log z.0 d.0 d.1))) in
            (subst (λ (e : Event). Among (z.0, e) (all_of (owns_from 0 n log))) d.2 there, ap (λ (e : Event). e.task) (sym d.2) ∙ eqb-true d.0.1.task t d.3))),
        (λ a. (
            let d = owns_drew 0 n log z a.0 in
            subst (λ (e : Event). Among (z.0, e) (trace_of t log)) d.2
            (drew_part (λ x. x.1.task == t) log z.0 d.0 d.1 (eq-eqb d.0.1.task t (ap (λ (e : Event). e.task) d.2 ∙ a.1))))),
      );
    }

module _ (P : tree.Program) (n : ℕ) (place : ℕ → ℕ) (log : List Draw) (traces : List (ℕ × List Drawn)) (x : IsLoggedRun P n place log traces) where
  of_more : AreOfHolders (suc n) log
  of_more y a = let k = x.holders y a in omega (arith, k)

  shared : ShareOut (length log) (own_of 0 log ∷ owns_from 1 n log) × IsMerge (own_of 0 log ∷ owns_from 1 n log) (history_of log)
  shared = log_is_shared (suc n) log of_more

  of_trace : (z : Drawn) → Among z (all_of (own_of 0 log ∷ owns_from 1 n log)) → (trace : List Drawn) × Among (z.1.task, trace) traces
  of_trace z a =
      let d = owns_drew 0 (suc n) log z a in
      let t = x.tasks d.0 (drew_among log z.0 d.0 d.1) in
      (t.0, subst (λ (e : Event). Among (e.task, t.0) traces) d.2 t.1)

  whole : (r : ℕ × List Drawn) → Among r traces → IsTraceOf (own_of 0 log ∷ owns_from 1 n log) r.0 r.1
  whole r a = subst (λ l. IsTraceOf (own_of 0 log ∷ owns_from 1 n log) r.0 l) (sym (x.whole r a)) (log_has_traces (suc n) log r.0 of_more)

  run : IsSharedRun P (length log) place (own_of 0 log) (owns_from 1 n log) traces
  run = record { tickets = shared.0; sound = x.sound; shared = x.shared; tasks = of_trace; whole = whole; traced = x.traced }

pub log_gives_run : LogGivesRun
log_gives_run P n place log traces x = (run P n place log traces x, (shared P n place log traces x).1)

pub log_is_legal : LogIsLegal
log_is_legal P n place log traces some x =
    merge_is_legal P (length log) place (own_of 0 log) (owns_from 1 n log) traces (history_of log) some (run P n place log traces x)
    (shared P n place log traces x).1

-- A history and the lists into which its entries were shared out.
use Rattle.std.proofs.Common.{◌≡◌, ℕ, zero, suc, ◌<◌, ◌≤◌, Bool, true, false, cond, ◌==◌, List, []}
use Rattle.std.proofs.Common.{◌∷◌, length, inl, inr, refl, sym, ap, ◌∙◌, subst, arith, true≢false}
use Rattle.std.proofs.lemmas.Option.{same_Some}
use Rattle.std.proofs.lemmas.Bool.{cases_eq as same_or_not, eq-eqb, eqb-true}
use Rattle.fut_base.proofs.Cases.{by_eq}
use Rattle.std.proofs.lemmas.List.{reverse-reverse, length-reverse}
use Rattle.std.specs.Prelude.{Some, reverse, filter, count_by, slice_get}
use Rattle.fut_base.specs.declared.event.Event.{Event}
use Rattle.fut_base.specs.Dag.{Among}
use Rattle.access_shards.proofs.Histories.{Stood, stood_lt, stood_of, get_of}
use Rattle.event_clock.specs.Rule.{Rises}
use Rattle.merge_laws.specs.Parts.{Drawn, events_in, all_of, ShareOut, IsMerge}
use Rattle.merge_laws.specs.Laws.{MergeExists, MergeIsOne}
use Rattle.merge_laws.proofs.Lists.{IsFalling, among_filter, filter_among, among_reverse, reverse_among}
use Rattle.merge_laws.proofs.Lists.{rising_falls, filter_falls, same_list, has_counted, one_counted, reverse_map}

-- the entries of a history with their places, the newest first
abbrev pub placed : List Event → List Drawn
placed [] = []
placed (e ∷ past) = (length past, e) ∷ placed past

pub placed_stood : (past : List Event) (x : Drawn) → Among x (placed past) → Stood past x.0 x.1
placed_stood [] x a = absurd a
placed_stood (e ∷ past) x (inl same) = inl (ap (λ (z : Drawn). z.0) same, ap (λ (z : Drawn). z.1) same)
placed_stood (e ∷ past) x (inr a) = inr (placed_stood past x a)

pub stood_placed : (past : List Event) (k : ℕ) (e : Event) → Stood past k e → Among (k, e) (placed past)
stood_placed [] k e s = absurd s
stood_placed (x ∷ past) k e (inl s) = inl (ap (λ i. (i, x)) s.0 ∙ ap (λ (z : Event). (k, z)) s.1)
stood_placed (x ∷ past) k e (inr s) = inr (stood_placed past k e s)

pub placed_falls : (past : List Event) → IsFalling (placed past)
placed_falls [] = tt
placed_falls (e ∷ past) = ((λ y a. stood_lt past y.0 y.1 (placed_stood past y a)), placed_falls past)

-- those that pass a test
abbrev pub picked : (Event → Bool) → List Event → List Drawn
picked f past = filter (λ (x : Drawn). f x.1) (placed past)

picked_if : (f : Event → Bool) (e : Event) (k : ℕ) (rest : List Drawn) (b : Bool)
    → events_in (cond b ((k, e) ∷ rest) rest) ≡ cond b (e ∷ events_in rest) (events_in rest)
picked_if f e k rest true = refl
picked_if f e k rest false = refl

pub picked_events : (f : Event → Bool) (past : List Event) → events_in (picked f past) ≡ filter f past
picked_events f [] = refl
picked_events f (e ∷ past) = picked_if f e (length past) (picked f past) (f e) ∙ ap (λ l. cond (f e) (e ∷ l) l) (picked_events f past)

module _ (owns : List (List Drawn)) (h : List Event) (merge : IsMerge owns h) where
  pub drawn_stood : (x : Drawn) → Among x (all_of owns) → Stood (reverse h) x.0 x.1
  drawn_stood x a = stood_of h x.0 x.1 ((merge x.0 x.1).0 a)

  pub stood_drawn : (k : ℕ) (e : Event) → Stood (reverse h) k e → Among (k, e) (all_of owns)
  stood_drawn k e s = (merge k e).1 (get_of h k e s)

  -- a list that has the entries which pass a test has them in their order
  pub own_is : (own : List Drawn) (f : Event → Bool) → Rises own → ((x : Drawn) → Among x own → Among x (all_of owns) × (f x.1 ≡ true))
      → ((x : Drawn) → Among x (all_of owns) → f x.1 ≡ true → Among x own)
      → reverse own ≡ picked f (reverse h)
  own_is own f rising to back =
      same_list (reverse own) (picked f (reverse h)) (rising_falls own rising)
      (filter_falls (λ (x : Drawn). f x.1) (placed (reverse h)) (placed_falls (reverse h)))
      (λ x a.
      (let k = to x (reverse_among x own a) in among_filter (λ (y : Drawn). f y.1) x (placed (reverse h))
      (stood_placed (reverse h) x.0 x.1 (drawn_stood x k.0)) k.1))
      (λ x a.
      (let k = filter_among (λ (y : Drawn). f y.1) x (placed (reverse h)) a in
      among_reverse x own (back x (stood_drawn x.0 x.1 (placed_stood (reverse h) x k.0)) k.1)))

  pub own_events : (own : List Drawn) (f : Event → Bool) → reverse own ≡ picked f (reverse h) → reverse (events_in own) ≡ filter f (reverse h)
  own_events own f is = reverse_map (λ (x : Drawn). x.1) own ∙ ap events_in is ∙ picked_events f (reverse h)

-- ---- the merge

record Built (owns : List (List Drawn)) (k : ℕ) (past : List Event) : Type 0 where
  long : length past ≡ k
  to : (i : ℕ) (e : Event) → Stood past i e → Among (i, e) (all_of owns)
  back : (i : ℕ) (e : Event) → Among (i, e) (all_of owns) → i < k → Stood past i e

build : (n : ℕ) (owns : List (List Drawn)) → ShareOut n owns → (k : ℕ) → k ≤ n → (past : List Event) × Built owns k past
build n owns share zero le = ([], record { long = refl; to = λ i e s. absurd s; back = λ i e a lt. absurd (omega (arith, lt)) })
build n owns share (suc k) le =
    let old = build n owns share k (omega (arith, le)) in
    let once : count_by (λ (x : Drawn). x.0 == k) (all_of owns) ≡ 1 = share.once k (omega (arith, le)) in
    let new = has_counted (λ (x : Drawn). x.0 == k) (all_of owns) (omega (arith, once)) in
    let at : new.0.0 ≡ k = eqb-true new.0.0 k new.2 in
    let len : length old.0 ≡ k = old.1.long in (
      new.0.1 ∷ old.0,
      record {
        long = ap suc len;
        to = λ i e s. elim s [
          | inl here ↦ subst (λ (z : Drawn). Among z (all_of owns)) (ap (λ j. (j, new.0.1)) (at ∙ sym len ∙ here.0) ∙ ap (λ (d : Event). (i, d)) here.1) new.1
          | inr there ↦ old.1.to i e there
        ];
        back = λ i e a lt. elim (same_or_not i k) [
          | inl same ↦ (
              let one = one_counted (λ (x : Drawn). x.0 == k) new.0 (i, e) (all_of owns) once new.1 new.2 a (eq-eqb i k same) in
              inl (len ∙ sym same, ap (λ (z : Drawn). z.1) one))
          | inr ne ↦ inr (old.1.back i e a (omega (arith, lt, ne)))
        ];
      },
    )

pub merge_exists : MergeExists
merge_exists n owns share =
    let b = build n owns share n (omega arith) in (
      reverse b.0,
      λ k e. (
        (λ a. get_of (reverse b.0) k e (subst (λ (l : List Event). Stood l k e) (sym (reverse-reverse b.0)) (b.1.back k e a (share.below (k, e) a)))),
        (λ g. b.1.to k e (subst (λ (l : List Event). Stood l k e) (reverse-reverse b.0) (stood_of (reverse b.0) k e g))),
      ),
      length-reverse b.0 ∙ b.1.long,
    )

same_items : (xs ys : List Event) → ((k : ℕ) (e : Event) → slice_get xs k ≡ Some e → slice_get ys k ≡ Some e)
    → ((k : ℕ) (e : Event) → slice_get ys k ≡ Some e → slice_get xs k ≡ Some e) → xs ≡ ys
same_items [] [] f g = refl
same_items [] (y ∷ ys) f g = absurd (let k = g 0 y refl in cc)
same_items (x ∷ xs) [] f g = absurd (let k = f 0 x refl in cc)
same_items (x ∷ xs) (y ∷ ys) f g =
    let e : y ≡ x = same_Some y x (f 0 x refl) in
    ap (λ z. z ∷ xs) (sym e) ∙ ap (λ l. y ∷ l) (same_items xs ys (λ k d. f (suc k) d) (λ k d. g (suc k) d))

pub merge_is_one : MergeIsOne
merge_is_one owns h g a b = same_items h g (λ k e x. (b k e).0 ((a k e).1 x)) (λ k e x. (a k e).0 ((b k e).1 x))

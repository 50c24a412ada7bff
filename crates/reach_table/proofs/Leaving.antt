-- The strands of a rising list that are left, found one after the other.
use Rattle.std.proofs.Common.{arith, ap, ◌≡◌, ◌≢◌, ℕ, ◌+◌, ◌<◌, ◌≤◌, Bool, true, false, not, true≢false, List}
use Rattle.std.proofs.Common.{[], ◌∷◌, ◌++◌, length, get_or, take, drop, inl, inr, subst, sym, refl, ◌∙◌}
use Rattle.std.specs.Prelude.{◌↔◌}
use Rattle.std.proofs.lemmas.List.{append_assoc, append-nil, drop_more, drop_all, take_all}
use Rattle.order_list.specs.Sides.{Lists}
use Rattle.fut_base.specs.Dag.{Among}
use Rattle.strand_laws.proofs.Places.{among_or, among_left, among_right}
use Rattle.strand_tree.specs.declared.strand.Strand.{Strand}
use Rattle.reach_table.specs.Sorted.{IsRising}
use Rattle.reach_table.specs.Merging.{precedes_in, IsGreatest, PrecedesOne}
use Rattle.reach_table.proofs.Members.{in_take_or_drop, in_more, at_place}
use Rattle.reach_table.proofs.Rising.{rising_out}
use Rattle.reach_table.proofs.Greatest.{false_if}

-- a further strand that is not preceded
pub none_more : (lists : Lists) (at : Strand) (ws : List Strand) (i : ℕ) (d : Strand) → i < length ws → (PrecedesOne lists at (take i ws) → ⊥)
    → ((get_or ws i d).number ≢ at.number → precedes_in lists at.number (get_or ws i d).number ≡ true → ⊥) → PrecedesOne lists at (take (i + 1) ws) → ⊥
none_more lists at ws i d lt none off p =
    elim (in_more ws i d lt p.0 p.1) [
      | inl a ↦ none (p.0, a, p.2, p.3)
      | inr e ↦ (
          let P : Strand → Type 0 = λ w. w.number ≢ at.number in
          let Q : Strand → Type 0 = λ w. precedes_in lists at.number w.number ≡ true in
          off (subst P (sym e) p.2) (subst Q (sym e) p.3))
    ]

-- a strand that is not of future `own` is greatest where those before it are of lower futures, and those behind it of higher ones
pub alone_greatest : (lists : Lists) (own : ℕ) (ws : List Strand) (i : ℕ) (d : Strand) → i < length ws → (get_or ws i d).future ≢ own
    → ((w : Strand) → Among w (take i ws) → w.future < (get_or ws i d).future)
    → ((w : Strand) → Among w (drop (i + 1) ws) → (get_or ws i d).future < w.future) → IsGreatest lists own ws (get_or ws i d)
alone_greatest lists own ws i d lt ne before behind =
    let at = get_or ws i d in
    record {
      among = at_place ws i d lt;
      foreign = ne;
      greatest = λ x a e other. elim (in_take_or_drop (i + 1) ws x a) [
        | inr r ↦ (let k = behind x r in absurd (omega (arith, k, e)))
        | inl l ↦ elim (in_more ws i d lt x l) [
          | inl t ↦ (let k = before x t in absurd (omega (arith, k, e)))
          | inr s ↦ absurd (other (ap (λ (z : Strand). z.number) (sym s)))
        ]
      ];
    }

-- a strand that is not of future `own` is greatest where it precedes none of its future
pub greatest_if : (lists : Lists) (own : ℕ) (at : Strand) (ws group : List Strand) (answer : Bool) → Among at ws → at.future ≢ own
    → ((w : Strand) → Among w group ↔ (Among w ws × (w.future ≡ at.future))) → (answer ≡ true) ↔ PrecedesOne lists at group → (not answer ≡ true)
    ↔ IsGreatest lists own ws at
greatest_if lists own at ws group answer here ne mine iff = (to answer iff, back answer iff)
  where
    to : (b : Bool) → (b ≡ true) ↔ PrecedesOne lists at group → not b ≡ true → IsGreatest lists own ws at
    to true f h = absurd (true≢false (sym h))
    to false f h = record { among = here; foreign = ne; greatest = λ x a e n. false_if _ (λ p. true≢false (sym (f.1 (x, (mine x).1 (a, e), n, p)))) }

    back : (b : Bool) → (b ≡ true) ↔ PrecedesOne lists at group → IsGreatest lists own ws at → not b ≡ true
    back false f g = refl
    back true f g =
        let p = f.0 refl in
        let m = (mine p.0).0 p.1 in
        absurd (true≢false (sym p.3 ∙ g.greatest p.0 m.0 m.1 p.2))

-- what is left of the first strands of a list, with the rest of it
pub record Leaves (lists : Lists) (own : ℕ) (ws : List Strand) (i : ℕ) (left : List Strand) : Type 0 where
  pub rising : IsRising (left ++ drop i ws)
  pub to : (w : Strand) → Among w left → IsGreatest lists own ws w
  pub back : (w : Strand) → Among w (take i ws) → IsGreatest lists own ws w → Among w left

pub leaves_none : (lists : Lists) (own : ℕ) (ws left : List Strand) → left ≡ [] → IsRising ws → Leaves lists own ws 0 left
leaves_none lists own ws left is r =
    let P : List Strand → Type 0 = λ l. Leaves lists own ws 0 l in
    subst P (sym is) (record { rising = r; to = λ w a. absurd a; back = λ w a. absurd a })

module _ (lists : Lists) (own : ℕ) (ws left new : List Strand) (i : ℕ) (d : Strand) (lt : i < length ws) (l : Leaves lists own ws i left) where
  here : IsRising (left ++ get_or ws i d ∷ drop (i + 1) ws)
  here = let P : List Strand → Type 0 = λ r. IsRising (left ++ r) in subst P (drop_more ws i d lt) l.rising

  pub leaves_more : IsGreatest lists own ws (get_or ws i d) → new ≡ left ++ get_or ws i d ∷ [] → Leaves lists own ws (i + 1) new
  leaves_more g is =
      let P : List Strand → Type 0 = λ n. Leaves lists own ws (i + 1) n in
      subst P (sym is) (record {
        rising = subst IsRising (sym (append_assoc left (get_or ws i d ∷ []) (drop (i + 1) ws))) here;
        to =
            λ w a. elim (among_or w left (get_or ws i d ∷ []) a) [
              | inl k ↦ l.to w k
              | inr (inl e) ↦ subst (λ z. IsGreatest lists own ws z) e g
              | inr (inr k) ↦
                  absurd k
            ];
        back = λ w a h. elim (in_more ws i d lt w a) [ inl k ↦ among_left w left _ (l.back w k h) | inr e ↦ among_right w left _ (inl e) ];
      })

  pub leaves_out : (IsGreatest lists own ws (get_or ws i d) → ⊥) → new ≡ left → Leaves lists own ws (i + 1) new
  leaves_out off is =
      let P : List Strand → Type 0 = λ n. Leaves lists own ws (i + 1) n in
      subst P (sym is) (record {
        rising = rising_out left (get_or ws i d) (drop (i + 1) ws) here;
        to = l.to;
        back = λ w a h. elim (in_more ws i d lt w a) [ inl k ↦ l.back w k h | inr e ↦ absurd (off (subst (λ z. IsGreatest lists own ws z) (sym e) h)) ];
      })

-- at the end of the list
pub leaves_all : (lists : Lists) (own : ℕ) (ws left : List Strand) (i : ℕ) → length ws ≤ i → Leaves lists own ws i left
    → IsRising left × ((w : Strand) → Among w left ↔ IsGreatest lists own ws w)
leaves_all lists own ws left i le l =
    let P : List Strand → Type 0 = λ r. IsRising (left ++ r) in (
      subst IsRising (append-nil left) (subst P (drop_all i ws le) l.rising),
      λ w. (l.to w, λ g. l.back w (subst (λ t. Among w t) (sym (take_all i ws le)) g.among) g),
    )

-- The strands that a definition's table keeps, said by its members, and keeping again what was kept.
use Rattle.std.proofs.Common.{◌≡◌, ◌≢◌, ℕ, ◌<◌, ◌≤◌, Bool, true, false, not, ◌&&◌, List, ◌++◌, inl, inr, subst, sym, refl, ◌∙◌, true≢false, arith, ◌==◌, filter}
use Rattle.std.specs.Prelude.{◌↔◌}
use Rattle.std.specs.List.{list_any}
use Rattle.fut_base.specs.declared.event.Event.{Event}
use Rattle.fut_base.specs.Dag.{Among}
use Rattle.fut_base.specs.Orders.{precedes_past}
use Rattle.fut_base.specs.Sound.{IsSoundPast, next_strand, home_of}
use Rattle.fut_base.specs.Tables.{maximal}
use Rattle.strand_laws.proofs.Places.{among_or, among_left, among_right}
use Rattle.strand_laws.proofs.Far.{Far, far_refl}
use Rattle.strand_laws.proofs.Frames.{inner_layers}
use Rattle.strand_laws.proofs.Steps.{basics}
use Rattle.strand_laws.proofs.Held.{and_split, is_eq}
use Rattle.strand_laws.proofs.Inside.{far_of_precedes, precedes_of_far}
use Rattle.strand_laws.proofs.Doubles.{not_before_self}
use Rattle.strand_laws.proofs.Tabling.{red, filter_in, filter_out, any_of, in_any, once_out, once_in, not_true, not_false, off_eq, on_eq, ne_of, both_true}

-- a strand of the list that is not of future `own` and precedes no other one of its future there
pub record IsTop (past : List Event) (own : ℕ) (xs : List ℕ) (x : ℕ) : Type 0 where
  pub among : Among x xs
  pub foreign : home_of past x ≢ own
  pub top : (y : ℕ) → Among y xs → home_of past y ≡ home_of past x → precedes_past past x y ≡ false

pub false_if : (b : Bool) → (b ≡ true → ⊥) → b ≡ false
false_if true off = absurd (off refl)
false_if false off = refl

module _ (past : List Event) (own : ℕ) (xs : List ℕ) where
  abbrev others : List ℕ
  others = filter (λ u. not (home_of past u == own)) xs

  abbrev beaten : ℕ → Bool
  beaten u = list_any (λ w. (home_of past w == home_of past u) && precedes_past past u w) others

  pub top_of_max : (x : ℕ) → Among x (maximal past own xs) → IsTop past own xs x
  top_of_max x a =
      let f = filter_out (λ u. not (beaten u)) x others (once_out x _ a) in
      let g = filter_out (λ u. not (home_of past u == own)) x xs f.0 in
      let ne = ne_of _ own (not_false _ g.1) in
      record {
        among = g.0;
        foreign = ne;
        top = λ y b h. false_if _ (λ p. (
            let o = filter_in (λ u. not (home_of past u == own)) y xs b (not_true _ (off_eq _ own (λ e. ne (sym h ∙ e)))) in
            let k = in_any (λ w. (home_of past w == home_of past x) && precedes_past past x w) y others o (both_true _ _ (on_eq _ _ h) p) in
            absurd (true≢false (sym k ∙ not_false _ f.1))));
      }

  pub max_of_top : (x : ℕ) → IsTop past own xs x → Among x (maximal past own xs)
  max_of_top x t =
      let o = filter_in (λ u. not (home_of past u == own)) x xs t.among (not_true _ (off_eq _ own t.foreign)) in
      once_in x _ (filter_in (λ u. not (beaten u)) x others o (not_true _ (false_if _ (λ e. (
      let k = any_of (λ w. (home_of past w == home_of past x) && precedes_past past x w) others e in
      let g = filter_out (λ u. not (home_of past u == own)) k.0 xs k.1 in
      let c = and_split (home_of past k.0 == home_of past x) (precedes_past past x k.0) k.2 in
      absurd (true≢false (sym c.1 ∙ t.top k.0 g.0 (is_eq _ _ c.0))))))))

-- the same strands in another list
pub top_same : (past : List Event) (own : ℕ) (xs ys : List ℕ) → ((z : ℕ) → Among z xs → Among z ys) → ((z : ℕ) → Among z ys → Among z xs) → (x : ℕ)
    → IsTop past own xs x → IsTop past own ys x
top_same past own xs ys on back x t = record { among = on x t.among; foreign = t.foreign; top = λ y a h. t.top y (back y a) h }

pub max_same : (past : List Event) (own : ℕ) (xs ys : List ℕ) → ((z : ℕ) → Among z xs → Among z ys) → ((z : ℕ) → Among z ys → Among z xs) → (x : ℕ)
    → Among x (maximal past own xs) ↔ Among x (maximal past own ys)
max_same past own xs ys on back x = (
  λ a. max_of_top past own ys x (top_same past own xs ys on back x (top_of_max past own xs x a)),
  λ a. max_of_top past own xs x (top_same past own ys xs back on x (top_of_max past own ys x a)),
)

module _ (past : List Event) (sp : IsSoundPast past) (own : ℕ) (xs ys : List ℕ) (lx : (z : ℕ) → Among z xs → z < next_strand past)
    (ly : (z : ℕ) → Among z ys → z < next_strand past) where
  low : (z : ℕ) → Among z (xs ++ ys) → z < next_strand past
  low z a = elim (among_or z xs ys a) [ inl l ↦ lx z l | inr r ↦ ly z r ]

  -- strands of a list that are kept
  less : (z : ℕ) → Among z (maximal past own xs) → Among z xs
  less z a = (top_of_max past own xs z a).among

  apart : (x y : ℕ) → precedes_past past x y ≡ true → x ≢ y
  apart x y p e = not_before_self past sp x (subst (λ z. precedes_past past x z ≡ true) (sym e) p)

  -- a strand that precedes one of the list precedes one of those kept
  passed : (x y : ℕ) → x < next_strand past → home_of past y ≢ own → Among y xs → home_of past y ≡ home_of past x → precedes_past past x y ≡ true
      → (m : ℕ) × Among m (maximal past own xs) × (home_of past m ≡ home_of past x) × (precedes_past past x m ≡ true)
  passed x y l ne a h p =
      let c = red past sp own xs (not_before_self past sp) lx y ne (y, a, refl, far_refl (inner_layers past) y) in
      let f : Far (inner_layers past) x y = far_of_precedes past sp x y l (lx y a) (sym h) (apart x y p) p in
      let g : Far (inner_layers past) x c.0 = (basics past sp).trans x y c.0 f c.3 in
      let up : x < y = elim ((basics past sp).le x y f) [ inl q ↦ absurd (apart x y p q) | inr j ↦ j.0 ] in
      let on : y ≤ c.0 = elim ((basics past sp).le y c.0 c.3) [ inl q ↦ omega arith | inr j ↦ omega (arith, j.0) ] in
      let hm : home_of past c.0 ≡ home_of past x = c.2 ∙ h in
      (c.0, c.1, hm, precedes_of_far past sp x c.0 l (lx c.0 (less c.0 c.1)) (sym hm) (λ e. absurd (omega (arith, e, up, on))) g)

  -- keeping again, with more strands, keeps what keeping at once does
  pub again : (x : ℕ) → IsTop past own (maximal past own xs ++ ys) x → IsTop past own (xs ++ ys) x
  again x t =
      let here : Among x (xs ++ ys) =
      elim (among_or x (maximal past own xs) ys t.among) [ inl l ↦ among_left x xs ys (less x l) | inr r ↦ among_right x xs ys r ] in
      record {
        among = here;
        foreign = t.foreign;
        top = λ y a h. elim (among_or y xs ys a) [
          | inr r ↦ t.top y (among_right y (maximal past own xs) ys r) h
          | inl l ↦ false_if _ (λ p. (
              let k = passed x y (low x here) (λ e. t.foreign (sym h ∙ e)) l h p in
              absurd (true≢false (sym k.3 ∙ t.top k.0 (among_left k.0 (maximal past own xs) ys k.1) k.2))))
        ];
      }

  pub at_once : (x : ℕ) → IsTop past own (xs ++ ys) x → IsTop past own (maximal past own xs ++ ys) x
  at_once x t =
      record {
        among = elim (among_or x xs ys t.among) [
          | inl l ↦ among_left x (maximal past own xs) ys
              (max_of_top past own xs x (record { among = l; foreign = t.foreign; top = λ y a h. t.top y (among_left y xs ys a) h }))
          | inr r ↦ among_right x (maximal past own xs) ys r
        ];
        foreign = t.foreign;
        top = λ y a h. elim (among_or y (maximal past own xs) ys a) [
          | inl l ↦ t.top y (among_left y xs ys (less y l)) h
          | inr r ↦ t.top y (among_right y xs ys r) h
        ];
      }

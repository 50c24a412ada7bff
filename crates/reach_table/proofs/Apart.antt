-- Strands of a rising list that are alone of their futures.
use Rattle.std.proofs.Common.{◌≡◌, ◌≢◌, ℕ, zero, suc, ◌+◌, ◌-◌, ◌<◌, ◌≤◌, List, [], ◌∷◌, ◌++◌, length}
use Rattle.std.proofs.Common.{get_or, take, drop, ◌⊎◌, inl, inr, subst, sym, ap, ◌∙◌, arith}
use Rattle.order_list.specs.Sides.{Lists}
use Rattle.fut_base.specs.Dag.{Among}
use Rattle.strand_laws.proofs.Places.{same_or_not}
use Rattle.strand_tree.specs.declared.strand.Strand.{Strand}
use Rattle.reach_table.specs.Sorted.{IsRising}
use Rattle.reach_table.specs.Merging.{IsGreatest, strand_at}
use Rattle.reach_table.proofs.Members.{at_place}
use Rattle.reach_table.proofs.Rising.{before_more, after_more}
use Rattle.std.proofs.lemmas.List.{drop_all, append-nil}
use Rattle.reach_table.proofs.Runs.{part, pending_more, pending_rest}
use Rattle.reach_table.proofs.Leaving.{Leaves, alone_greatest, leaves_more}

from_place : (xs : List Strand) (a n : ℕ) (d : Strand) → a ≤ n → n < length xs → Among (get_or xs n d) (drop a xs)
from_place [] a n d le lt = absurd (omega arith)
from_place (x ∷ xs) zero n d le lt = at_place (x ∷ xs) n d lt
from_place (x ∷ xs) (suc a) zero d le lt = absurd (omega arith)
from_place (x ∷ xs) (suc a) (suc n) d le lt = from_place xs a n d (omega arith) (omega arith)

module _ (ws : List Strand) (r : IsRising ws) where
  no_less : (a n : ℕ) → a ≤ n → n < length ws → (strand_at ws a).future ≤ (strand_at ws n).future
  no_less a n le lt = after_more ws a (record { number = 0; future = 0 }) (strand_at ws a).future r (omega (arith, le, lt)) (omega arith) (strand_at ws n)
      (from_place ws a n _ le lt)

  -- from a place to another futures rise, and the neighbours are of other futures, as is `own`
  pub alone_between : (lists : Lists) (own a last : ℕ) → last < length ws → (own < (strand_at ws a).future) ⊎ ((strand_at ws last).future < own)
      → ((w : Strand) → Among w (take a ws) → w.future < (strand_at ws a).future)
      → ((w : Strand) → Among w (drop (last + 1) ws) → (strand_at ws last).future < w.future)
      → ((k : ℕ) → a ≤ k → k < last → (strand_at ws k).future < (strand_at ws (k + 1)).future)
      → (n : ℕ) → a ≤ n → n ≤ last → IsGreatest lists own ws (strand_at ws n)
  alone_between lists own a last lt apart first end up n le on = alone_greatest lists own ws n none (omega (arith, on, lt)) foreign before behind
    where
      none : Strand
      none = record { number = 0; future = 0 }

      foreign : (strand_at ws n).future ≢ own
      foreign e = elim apart [
        | inl l ↦ (let k = no_less a n le (omega (arith, on, lt)) in omega (arith, k, e, l))
        | inr g ↦ (let k = no_less n last on lt in omega (arith, k, e, g))
      ]

      before : (w : Strand) → Among w (take n ws) → w.future < (strand_at ws n).future
      before w b = elim (same_or_not a n) [
        | inl e ↦ (let P : ℕ → Type 0 = λ m. (w : Strand) → Among w (take m ws) → w.future < (strand_at ws m).future in subst P e first w b)
        | inr ne ↦ (
            let one : suc (n - 1) ≡ n = omega (arith, le, ne) in
            let more : (n - 1) + 1 ≡ n = omega (arith, le, ne) in
            let P : ℕ → Type 0 = λ m. (strand_at ws (n - 1)).future < (strand_at ws m).future in
            let k = subst P more (up (n - 1) (omega (arith, le, ne)) (omega (arith, le, ne, on))) in
            before_more ws (n - 1) none (strand_at ws n).future r (omega (arith, le, ne, on, lt)) k w (subst (λ m. Among w (take m ws)) (sym one) b))
      ]

      behind : (w : Strand) → Among w (drop (n + 1) ws) → (strand_at ws n).future < w.future
      behind w b = elim (same_or_not last n) [
        | inl e ↦ (let P : ℕ → Type 0 = λ m. (w : Strand) → Among w (drop (m + 1) ws) → (strand_at ws m).future < w.future in subst P e end w b)
        | inr ne ↦ (
            let k = up n le (omega (arith, ne, on)) in
            let j = after_more ws (n + 1) none ((strand_at ws n).future + 1) r (omega (arith, ne, on, lt)) (omega (arith, k)) w b in
            omega (arith, j))
      ]

-- several strands that are left
pub leaves_run : (lists : Lists) (own : ℕ) (ws left : List Strand) (start i n : ℕ) → start ≤ i → i + n ≤ length ws
    → Leaves lists own ws i (left ++ part start i ws)
    → ((k : ℕ) → i ≤ k → k < i + n → IsGreatest lists own ws (strand_at ws k)) → Leaves lists own ws (i + n) (left ++ part start (i + n) ws)
leaves_run lists own ws left start i zero le on l g =
    let same : i ≡ i + 0 = omega arith in
    let P : ℕ → Type 0 = λ m. Leaves lists own ws m (left ++ part start m ws) in
    subst P same l
leaves_run lists own ws left start i (suc n) le on l g =
    let none : Strand = record { number = 0; future = 0 } in
    let lt : i + n < length ws = omega (arith, on) in
    let same : (i + n) + 1 ≡ i + suc n = omega arith in
    let P : ℕ → Type 0 = λ m. Leaves lists own ws m (left ++ part start m ws) in
    let rest = leaves_run lists own ws left start i n le (omega (arith, on)) l (λ k a b. g k a (omega (arith, b))) in
    subst P same
    (leaves_more lists own ws (left ++ part start (i + n) ws) (left ++ part start ((i + n) + 1) ws) (i + n) none lt rest
    (g (i + n) (omega arith) (omega arith)) (pending_more left ws start (i + n) none (omega (arith, le)) lt))

-- at the end of the list the rest is pending
pub pending_all : (ws left : List Strand) (start i : ℕ) → start ≤ i → length ws ≤ i → left ++ drop start ws ≡ left ++ part start i ws
pending_all ws left start i le all =
    sym (pending_rest left ws start i le) ∙ ap (λ l. (left ++ part start i ws) ++ l) (drop_all i ws all) ∙ append-nil (left ++ part start i ws)

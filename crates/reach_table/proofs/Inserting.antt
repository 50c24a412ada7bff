-- One strand, put into a rising list.
use Rattle.std.proofs.Common.{◌≡◌, ◌≢◌, ℕ, zero, suc, ◌+◌, ◌<◌, List, [], ◌∷◌, ◌++◌, length, get_or, take, drop, ◌⊎◌, inl, inr, subst, sym, refl, ◌∙◌, arith}
use Rattle.std.specs.Prelude.{◌↔◌}
use Rattle.fut_base.specs.Dag.{Among}
use Rattle.std.proofs.lemmas.List.{get_or-drop, length-drop}
use Rattle.strand_laws.proofs.Places.{among_or, among_left, among_right}
use Rattle.strand_tree.specs.declared.strand.Strand.{Strand}
use Rattle.reach_table.specs.Sorted.{IsBelow, IsRising}
use Rattle.reach_table.proofs.Members.{at_place, in_take_or_drop, from_take, from_drop}
use Rattle.reach_table.proofs.Rising.{below_trans, below_or, rising_take, rising_drop}

-- a strand below `one`, and those before it
pub below_more : (xs : List Strand) (i : ℕ) (d one : Strand) → IsRising xs → i < length xs → IsBelow (get_or xs i d) one → (w : Strand)
    → Among w (take (suc i) xs) → IsBelow w one
below_more [] i d one r lt b w a = absurd (omega arith)
below_more (x ∷ xs) zero d one r lt b w (inl e) = subst (λ z. IsBelow z one) e b
below_more (x ∷ xs) zero d one r lt b w (inr a) = absurd a
below_more (x ∷ xs) (suc i) d one r lt b w (inl e) = subst (λ z. IsBelow z one) e (below_trans x (get_or xs i d) one (r.0 _ (at_place xs i d (omega arith))) b)
below_more (x ∷ xs) (suc i) d one r lt b w (inr a) = below_more xs i d one r.1 (omega arith) b w a

-- a strand that is not below `one`, and those behind it
pub behind_more : (xs : List Strand) (i : ℕ) (d one : Strand) → IsRising xs → i < length xs → (IsBelow (get_or xs i d) one → ⊥) → (w : Strand)
    → Among w (drop i xs) → IsBelow w one → ⊥
behind_more [] i d one r lt off w a b = omega arith
behind_more (x ∷ xs) zero d one r lt off w (inl e) b = off (subst (λ z. IsBelow z one) (sym e) b)
behind_more (x ∷ xs) zero d one r lt off w (inr a) b = off (below_trans x w one (r.0 w a) b)
behind_more (x ∷ xs) (suc i) d one r lt off w a b = behind_more xs i d one r.1 (omega arith) off w a b

-- a strand between two lists
rising_join : (xs ys : List Strand) (one : Strand) → IsRising xs → IsRising ys → ((w : Strand) → Among w xs → IsBelow w one)
    → ((w : Strand) → Among w ys → IsBelow one w) → IsRising (xs ++ one ∷ ys)
rising_join [] ys one r k low high = (high, k)
rising_join (x ∷ xs) ys one r k low high = (
  λ y a. elim (among_or y xs (one ∷ ys) a) [
    | inl l ↦ r.0 y l
    | inr (inl e) ↦ subst (λ z. IsBelow x z) e (low x (inl refl))
    | inr (inr h) ↦ below_trans x one y (low x (inl refl)) (high y h)
  ],
  rising_join xs ys one r.1 k (λ w a. low w (inr a)) high,
)

-- what is not below `one` is above it, where it does not begin with `one`
above_one : (xs : List Strand) (one : Strand) → IsRising xs → ((w : Strand) → Among w xs → IsBelow w one → ⊥) → (d : Strand)
    → (0 < length xs → get_or xs 0 d ≢ one) → (w : Strand) → Among w xs → IsBelow one w
above_one [] one r off d ne w a = absurd a
above_one (x ∷ xs) one r off d ne w (inl e) = subst (λ z. IsBelow one z) e (below_or one x (off x (inl refl)) (λ k. ne (omega arith) (sym k)))
above_one (x ∷ xs) one r off d ne w (inr a) = below_or one w (off w (inr a)) (λ k. off x (inl refl) (subst (λ z. IsBelow x z) (sym k) (r.0 w a)))

module _ (xs : List Strand) (one : Strand) (i : ℕ) (r : IsRising xs) (below : (w : Strand) → Among w (take i xs) → IsBelow w one)
    (behind : (w : Strand) → Among w (drop i xs) → IsBelow w one → ⊥) where
  pub put_rising : (d : Strand) → (i < length xs → get_or xs i d ≢ one) → IsRising (take i xs ++ one ∷ drop i xs)
  put_rising d ne = rising_join (take i xs) (drop i xs) one (rising_take i xs r) (rising_drop i xs r) below
      (above_one (drop i xs) one (rising_drop i xs r) behind d first)
    where
      first : 0 < length (drop i xs) → get_or (drop i xs) 0 d ≢ one
      first lt e =
          let same : i + 0 ≡ i = omega arith in
          let P : ℕ → Type 0 = λ n. get_or xs n d ≡ one in
          ne (let k = length-drop i xs in omega (arith, k, lt)) (subst P same (sym (get_or-drop i xs 0 d) ∙ e))

pub put_members : (xs : List Strand) (one : Strand) (i : ℕ) (w : Strand) → Among w (take i xs ++ one ∷ drop i xs) ↔ (Among w xs ⊎ Among w (one ∷ []))
put_members xs one i w = (
  λ a. elim (among_or w (take i xs) (one ∷ drop i xs) a) [
    | inl l ↦ inl (from_take i xs w l)
    | inr (inl e) ↦ inr (inl e)
    | inr (inr k) ↦ inl (from_drop i xs w k)
  ],
  λ s. elim s [
    | inr (inl e) ↦ among_right w (take i xs) (one ∷ drop i xs) (inl e)
    | inr (inr k) ↦ absurd k
    | inl a ↦ elim (in_take_or_drop i xs w a) [
      | inl l ↦ among_left w (take i xs) (one ∷ drop i xs) l
      | inr k ↦ among_right w (take i xs) (one ∷ drop i xs) (inr k)
    ]
  ],
)

-- a strand that is there already
pub there_already : (xs : List Strand) (i : ℕ) (d one : Strand) → i < length xs → get_or xs i d ≡ one → (w : Strand) → Among w xs
    ↔ (Among w xs ⊎ Among w (one ∷ []))
there_already xs i d one lt is w = (
  λ a. inl a,
  λ s. elim s [
    | inl a ↦ a
    | inr (inl e) ↦ subst (λ z. Among z xs) (is ∙ e) (at_place xs i d lt)
    | inr (inr k) ↦ absurd k
  ],
)

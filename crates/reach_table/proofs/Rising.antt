-- Lists of strands that rise, by future and then by number.
use Rattle.std.proofs.Common.{◌≡◌, ◌≢◌, ℕ, zero, suc, ◌+◌, ◌<◌, ◌≤◌, List, [], ◌∷◌, ◌++◌, length, get_or, take, drop, inl, inr, refl, subst, sym, arith, ◌∙◌}
use Rattle.std.specs.Prelude.{◌↔◌}
use Rattle.std.proofs.lemmas.List.{take-append-drop}
use Rattle.fut_base.specs.Dag.{Among}
use Rattle.strand_laws.proofs.Places.{among_or, among_left, among_right, same_or_not}
use Rattle.strand_laws.proofs.Worlds.{lt_or_le}
use Rattle.strand_tree.specs.declared.strand.Strand.{Strand}
use Rattle.reach_table.specs.Sorted.{IsBelow, IsRising}
use Rattle.reach_table.specs.Telling.{HasOneOfEach}
use Rattle.reach_table.proofs.Members.{same_strand, at_place, in_take_or_drop, from_take, from_drop}

pub below_trans : (x y z : Strand) → IsBelow x y → IsBelow y z → IsBelow x z
below_trans x y z (inl a) (inl b) = inl (omega arith)
below_trans x y z (inl a) (inr b) = inl (omega (arith, b.0))
below_trans x y z (inr a) (inl b) = inl (omega (arith, a.0))
below_trans x y z (inr a) (inr b) = inr (omega (arith, a.0, b.0), omega (arith, a.1, b.1))

pub below_future : (x y : Strand) → IsBelow x y → x.future ≤ y.future
below_future x y (inl a) = omega arith
below_future x y (inr a) = omega (arith, a.0)

-- of two strands one is below the other, where they are not the same
pub below_or : (x y : Strand) → (IsBelow y x → ⊥) → x ≢ y → IsBelow x y
below_or x y off ne = elim (lt_or_le x.future y.future) [
  | inl l ↦ inl l
  | inr g ↦ elim (same_or_not x.future y.future) [
    | inr k ↦ absurd (off (inl (omega arith)))
    | inl e ↦ elim (lt_or_le x.number y.number) [
      | inl l ↦ inr (e, l)
      | inr h ↦ elim (same_or_not x.number y.number) [
        | inr k ↦ absurd (off (inr (sym e, omega arith)))
        | inl s ↦ absurd (ne (same_strand x y s e))
      ]
    ]
  ]
]

pub rising_left : (xs ys : List Strand) → IsRising (xs ++ ys) → IsRising xs
rising_left [] ys r = tt
rising_left (x ∷ xs) ys r = (λ y a. r.0 y (among_left y xs ys a), rising_left xs ys r.1)

pub rising_right : (xs ys : List Strand) → IsRising (xs ++ ys) → IsRising ys
rising_right [] ys r = r
rising_right (x ∷ xs) ys r = rising_right xs ys r.1

pub rising_across : (xs ys : List Strand) (x y : Strand) → IsRising (xs ++ ys) → Among x xs → Among y ys → IsBelow x y
rising_across [] ys x y r a b = absurd a
rising_across (z ∷ xs) ys x y r (inl e) b = subst (λ w. IsBelow w y) e (r.0 y (among_right y xs ys b))
rising_across (z ∷ xs) ys x y r (inr a) b = rising_across xs ys x y r.1 a b

-- one item is left out
pub rising_out : (xs : List Strand) (y : Strand) (ys : List Strand) → IsRising (xs ++ y ∷ ys) → IsRising (xs ++ ys)
rising_out [] y ys r = r.1
rising_out (x ∷ xs) y ys r =
    (λ z a. r.0 z (elim (among_or z xs ys a) [ inl l ↦ among_left z xs (y ∷ ys) l | inr k ↦ among_right z xs (y ∷ ys) (inr k) ]), rising_out xs y ys r.1)

-- one item is put in
pub rising_in : (xs : List Strand) (x : Strand) (ys : List Strand) → IsRising (xs ++ ys) → IsRising (xs ++ x ∷ []) → ((y : Strand) → Among y ys → IsBelow x y)
    → IsRising (xs ++ x ∷ ys)
rising_in [] x ys r one up = (up, r)
rising_in (z ∷ xs) x ys r one up = (
  λ y a. elim (among_or y xs (x ∷ ys) a) [
    | inl l ↦ r.0 y (among_left y xs ys l)
    | inr (inl e) ↦ one.0 y (among_right y xs (x ∷ []) (inl e))
    | inr (inr k) ↦ r.0 y (among_right y xs ys k)
  ],
  rising_in xs x ys r.1 one.1 up,
)

pub rising_take : (i : ℕ) (xs : List Strand) → IsRising xs → IsRising (take i xs)
rising_take i xs r = rising_left (take i xs) (drop i xs) (subst IsRising (sym (take-append-drop i xs)) r)

pub rising_drop : (i : ℕ) (xs : List Strand) → IsRising xs → IsRising (drop i xs)
rising_drop i xs r = rising_right (take i xs) (drop i xs) (subst IsRising (sym (take-append-drop i xs)) r)

-- a strand of a lesser future, and those before it
pub before_more : (xs : List Strand) (i : ℕ) (d : Strand) (bound : ℕ) → IsRising xs → i < length xs → (get_or xs i d).future < bound → (w : Strand)
    → Among w (take (suc i) xs) → w.future < bound
before_more [] i d bound r lt h w a = absurd (omega arith)
before_more (x ∷ xs) zero d bound r lt h w (inl e) = subst (λ (z : Strand). z.future < bound) e h
before_more (x ∷ xs) zero d bound r lt h w (inr a) = absurd a
before_more (x ∷ xs) (suc i) d bound r lt h w (inl e) =
    let k = below_future x (get_or xs i d) (r.0 _ (at_place xs i d (omega arith))) in
    subst (λ (z : Strand). z.future < bound) e (omega (arith, k, h))
before_more (x ∷ xs) (suc i) d bound r lt h w (inr a) = before_more xs i d bound r.1 (omega arith) h w a

-- a strand of another future, and those after it
pub after_more : (xs : List Strand) (i : ℕ) (d : Strand) (bound : ℕ) → IsRising xs → i < length xs → bound ≤ (get_or xs i d).future → (w : Strand)
    → Among w (drop i xs) → bound ≤ w.future
after_more [] i d bound r lt h w a = absurd (omega arith)
after_more (x ∷ xs) zero d bound r lt h w (inl e) = subst (λ (z : Strand). bound ≤ z.future) e h
after_more (x ∷ xs) zero d bound r lt h w (inr a) = let k = below_future x w (r.0 w a) in omega (arith, k, h)
after_more (x ∷ xs) (suc i) d bound r lt h w a = after_more xs i d bound r.1 (omega arith) h w a

-- what lies between two places that a future has
pub between : (xs rest : List Strand) (low count f : ℕ) → rest ≡ drop low xs → ((w : Strand) → Among w (take low xs) → w.future < f)
    → ((w : Strand) → Among w (drop low xs) → f ≤ w.future) → ((w : Strand) → Among w (take count rest) → w.future < f + 1)
    → ((w : Strand) → Among w (drop count rest) → f + 1 ≤ w.future) → (w : Strand) → Among w (take count rest) ↔ (Among w xs × (w.future ≡ f))
between xs rest low count f is before after until past w = (
  λ a. (
      let d : Among w (drop low xs) = subst (λ l. Among w l) is (from_take count rest w a) in
      let k = after w d in
      let j = until w a in
      (from_drop low xs w d, omega (arith, k, j))),
  λ p. elim (in_take_or_drop low xs w p.0) [
    | inl a ↦ absurd (let k = before w a in let e = p.1 in omega (arith, k, e))
    | inr b ↦ elim (in_take_or_drop count rest w (subst (λ l. Among w l) (sym is) b)) [
      | inl a ↦ a
      | inr c ↦ absurd (let k = past w c in let e = p.1 in omega (arith, k, e))
    ]
  ],
)

below_none : (x : Strand) → IsBelow x x → ⊥
below_none x (inl a) = omega arith
below_none x (inr a) = let k = a.1 in omega (arith, k)

-- of a table with at most one strand of each future, one at most is of this future
pub lone : (table ws : List Strand) (f : ℕ) → HasOneOfEach table → IsRising ws → ((w : Strand) → Among w ws → Among w table × (w.future ≡ f)) → length ws ≤ 1
lone table [] f one r home = omega arith
lone table (x ∷ []) f one r home = omega arith
lone table (x ∷ y ∷ ys) f one r home =
    let a = home x (inl refl) in
    let b = home y (inr (inl refl)) in
    let same : x ≡ y = one x y a.0 b.0 (a.1 ∙ sym b.1) in
    absurd (below_none x (subst (λ z. IsBelow x z) (sym same) (r.0 y (inl refl))))

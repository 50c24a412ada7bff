-- Lists in which an item was changed or added, and lists without doubles.
use Rattle.std.proofs.Common.{◌≡◌, ℕ, zero, suc, ◌+◌, ◌<◌, ◌≤◌, List, [], ◌∷◌, ◌++◌, length, ◌⊎◌, inl, inr, refl, sym, ap, ◌∙◌, arith}
use Rattle.std.specs.Prelude.{Some, None, slice_get, slice_set}
use Rattle.fut_base.specs.Dag.{Among}
use Rattle.strand_laws.proofs.Places.{among_or}
use Rattle.fut_engine.specs.Wholes.{IsOnce}

pub some_same : {X : Type 0} (x y : X) → Some x ≡ Some y → x ≡ y
some_same x y h = cc

pub set_else : {X : Type 0} (xs : List X) (i : ℕ) (x : X) (u : ℕ) → (u ≡ i → ⊥) → slice_get (slice_set xs i x) u ≡ slice_get xs u
set_else [] i x u n = refl
set_else (y ∷ xs) zero x zero n = absurd (n refl)
set_else (y ∷ xs) zero x (suc u) n = refl
set_else (y ∷ xs) (suc i) x zero n = refl
set_else (y ∷ xs) (suc i) x (suc u) n = set_else xs i x u (λ e. n (ap suc e))

pub append_low : {X : Type 0} (xs ys : List X) (u : ℕ) → u < length xs → slice_get (xs ++ ys) u ≡ slice_get xs u
append_low [] ys u lt = absurd (omega (arith, lt))
append_low (x ∷ xs) ys zero lt = refl
append_low (x ∷ xs) ys (suc u) lt = append_low xs ys u (omega (arith, lt))

pub append_high : {X : Type 0} (xs ys : List X) (k : ℕ) → slice_get (xs ++ ys) (length xs + k) ≡ slice_get ys k
append_high [] ys k = ap (slice_get ys) (omega arith)
append_high (x ∷ xs) ys k = let e : suc (length xs) + k ≡ suc (length xs + k) = omega arith in ap (slice_get (x ∷ (xs ++ ys))) e ∙ append_high xs ys k

pub get_none : {X : Type 0} (xs : List X) (u : ℕ) → length xs ≤ u → slice_get xs u ≡ None
get_none [] u le = refl
get_none (x ∷ xs) zero le = absurd (omega (arith, le))
get_none (x ∷ xs) (suc u) le = get_none xs u (omega (arith, le))

pub get_some : {X : Type 0} (xs : List X) (u : ℕ) → u < length xs → (x : X) × (slice_get xs u ≡ Some x)
get_some [] u lt = absurd (omega (arith, lt))
get_some (x ∷ xs) zero lt = (x, refl)
get_some (x ∷ xs) (suc u) lt = get_some xs u (omega (arith, lt))

pub low_or_high : (u n : ℕ) → (u < n) ⊎ ((k : ℕ) × (u ≡ n + k))
low_or_high u zero = inr (u, omega arith)
low_or_high zero (suc n) = inl (omega arith)
low_or_high (suc u) (suc n) = elim (low_or_high u n) [ inl lt ↦ inl (omega (arith, lt)) | inr k ↦ inr (k.0, omega (arith, k.1)) ]

pub once_snoc : (xs : List ℕ) (x : ℕ) → IsOnce xs → (Among x xs → ⊥) → IsOnce (xs ++ x ∷ [])
once_snoc [] x o f = (λ a. a, tt)
once_snoc (y ∷ ys) x o f = (
  λ a. elim (among_or y ys (x ∷ []) a) [
    | inl b ↦ o.0 b
    | inr b ↦ elim b [ inl e ↦ f (inl (sym e)) | inr z ↦ z ]
  ],
  once_snoc ys x o.1 (λ a. f (inr a)),
)

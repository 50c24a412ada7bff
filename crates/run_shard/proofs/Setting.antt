-- Lists of which one item is set.
use Rattle.std.proofs.Common.{◌≡◌, ◌≢◌, ℕ, zero, suc, ◌+◌, ◌<◌, ◌≤◌, List, [], ◌∷◌, ◌++◌, length, ◌⊎◌, inl, inr, ap, refl, ◌∙◌, arith}
use Rattle.std.specs.Prelude.{Some, slice_get, slice_set, Result, Ok, Err, OnOk, false}
use Rattle.std.specs.Result.{is_err}
use Rattle.std.proofs.lemmas.Option.{same_Some}

-- an item is the one that was set, or an old one
pub set_at : {X : Type 0} (xs : List X) (k j : ℕ) (x y : X) → slice_get (slice_set xs k x) j ≡ Some y
    → ((j ≡ k) × (x ≡ y)) ⊎ ((j ≢ k) × (slice_get xs j ≡ Some y))
set_at [] zero j x y e = cc
set_at [] (suc k) j x y e = cc
set_at (z ∷ xs) zero zero x y e = inl (refl, same_Some x y e)
set_at (z ∷ xs) zero (suc j) x y e = inr ((λ h. omega (arith, h)), e)
set_at (z ∷ xs) (suc k) zero x y e = inr ((λ h. omega (arith, h)), e)
set_at (z ∷ xs) (suc k) (suc j) x y e = elim (set_at xs k j x y e) [
  | inl own ↦ inl (ap suc own.0, own.1)
  | inr old ↦ inr ((λ h. old.0 (omega (arith, h))), old.1)
]

pub length_set : {X : Type 0} (xs : List X) (k : ℕ) (x : X) → length (slice_set xs k x) ≡ length xs
length_set [] zero x = refl
length_set [] (suc k) x = refl
length_set (z ∷ xs) zero x = refl
length_set (z ∷ xs) (suc k) x = ap suc (length_set xs k x)

-- where there is an item at a place, there is one in a list of the same length
pub get_within : {X : Type 0} (xs : List X) (k : ℕ) → k < length xs → (x : X) × (slice_get xs k ≡ Some x)
get_within [] k lt = absurd (omega (arith, lt))
get_within (x ∷ xs) zero lt = (x, refl)
get_within (x ∷ xs) (suc k) lt = get_within xs k (omega (arith, lt))

-- what follows of an `Ok`
pub on_ok : {A E : Type 0} (r : Result A E) (P Q : Type 0) → OnOk r P → (P → Q) → OnOk r Q
on_ok (Ok a) P Q h f = f h
on_ok (Err e) P Q h f = tt

-- an answer that is no error is an `Ok`
pub not_err : {A E : Type 0} (r : Result A E) (P : Type 0) → is_err r ≡ false → OnOk r P → P
not_err (Ok a) P is h = h
not_err (Err e) P is h = absurd (cc)

-- Where the items of a list stand after one was changed and others were added.
use Rattle.std.proofs.Common.{◌≡◌, ℕ, zero, suc, ◌+◌, ◌<◌, List, [], ◌∷◌, ◌++◌, length, ◌⊎◌, inl, inr, refl, ap, arith}
use Rattle.std.specs.Prelude.{Some, slice_get, slice_set}

-- an item of ys, by its place in xs ++ ys
abbrev pub Behind : {X : Type 0} → List X → List X → ℕ → X → Type 0
Behind xs ys t r = (k : ℕ) × (t ≡ length xs + k) × (slice_get ys k ≡ Some r)

further : {X : Type 0} (y : X) (xs ys : List X) (t : ℕ) (r : X) → Behind xs ys t r → Behind (y ∷ xs) ys (suc t) r
further y xs ys t r (k, at, is) = (k, omega (arith, at), is)

pub get_append : {X : Type 0} (xs ys : List X) (t : ℕ) (r : X) → slice_get (xs ++ ys) t ≡ Some r → (slice_get xs t ≡ Some r) ⊎ Behind xs ys t r
get_append [] ys t r h = inr (t, omega arith, h)
get_append (y ∷ xs) ys zero r h = inl h
get_append (y ∷ xs) ys (suc t) r h = elim (get_append xs ys t r h) [ inl a ↦ inl a | inr b ↦ inr (further y xs ys t r b) ]

-- an item is the one that was set, an old one, or one that was added
pub get_set_append : {X : Type 0} (xs ys : List X) (i : ℕ) (x : X) (t : ℕ) (r : X) → slice_get (slice_set xs i x ++ ys) t ≡ Some r
    → ((t ≡ i) × (x ≡ r)) ⊎ ((slice_get xs t ≡ Some r) ⊎ Behind xs ys t r)
get_set_append [] ys i x t r h = inr (inr (t, omega arith, h))
get_set_append (y ∷ xs) ys zero x zero r h = inl (refl, cc)
get_set_append (y ∷ xs) ys zero x (suc t) r h = elim (get_append xs ys t r h) [ inl a ↦ inr (inl a) | inr b ↦ inr (inr (further y xs ys t r b)) ]
get_set_append (y ∷ xs) ys (suc i) x zero r h = inr (inl h)
get_set_append (y ∷ xs) ys (suc i) x (suc t) r h =
    elim (get_set_append xs ys i x t r h) [
      | inl a ↦ inl (ap suc a.0, a.1)
      | inr b ↦ elim b [ inl c ↦ inr (inl c) | inr d ↦ inr (inr (further y xs ys t r d)) ]
    ]

pub get_below : {X : Type 0} (xs : List X) (t : ℕ) (r : X) → slice_get xs t ≡ Some r → t < length xs
get_below [] t r h = cc
get_below (y ∷ xs) zero r h = omega arith
get_below (y ∷ xs) (suc t) r h = omega (arith, get_below xs t r h)

pub get_set_same : {X : Type 0} (xs ys : List X) (i : ℕ) (x old : X) → slice_get xs i ≡ Some old → slice_get (slice_set xs i x ++ ys) i ≡ Some x
get_set_same [] ys i x old h = cc
get_set_same (y ∷ xs) ys zero x old h = refl
get_set_same (y ∷ xs) ys (suc i) x old h = get_set_same xs ys i x old h

get_old : {X : Type 0} (xs ys : List X) (t : ℕ) (r : X) → slice_get xs t ≡ Some r → slice_get (xs ++ ys) t ≡ Some r
get_old [] ys t r h = cc
get_old (y ∷ xs) ys zero r h = h
get_old (y ∷ xs) ys (suc t) r h = get_old xs ys t r h

pub get_set_other : {X : Type 0} (xs ys : List X) (i : ℕ) (x : X) (t : ℕ) (r : X) → (t ≡ i → ⊥) → slice_get xs t ≡ Some r
    → slice_get (slice_set xs i x ++ ys) t ≡ Some r
get_set_other [] ys i x t r other h = cc
get_set_other (y ∷ xs) ys zero x zero r other h = absurd (other refl)
get_set_other (y ∷ xs) ys zero x (suc t) r other h = get_old xs ys t r h
get_set_other (y ∷ xs) ys (suc i) x zero r other h = h
get_set_other (y ∷ xs) ys (suc i) x (suc t) r other h = get_set_other xs ys i x t r (λ e. other (ap suc e)) h

pub get_new : {X : Type 0} (xs ys : List X) (r : X) → slice_get (xs ++ r ∷ ys) (length xs) ≡ Some r
get_new [] ys r = refl
get_new (x ∷ xs) ys r = get_new xs ys r

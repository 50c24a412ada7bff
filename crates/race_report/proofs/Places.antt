-- Places of lists.
use Rattle.std.proofs.Common.{◌≡◌, ℕ, ◌+◌, ◌<◌, ◌≤◌, Bool, false, List, [], ◌∷◌, length, take}
use Rattle.std.proofs.Common.{get_or, map, zero, suc, refl, sym, ◌∙◌, ap, subst, arith, inl, inr}
use Rattle.std.specs.Prelude.{slice_get, Some, option_map}
use Rattle.std.proofs.lemmas.Bool.{cases_eq}
use Rattle.std.proofs.lemmas.List.{length-take}
use Rattle.std.proofs.lemmas.Option.{slice_get-map, slice_get_read, slice_get_within, same_Some}
use Rattle.fut_base.specs.declared.record.Entry.{Entry}
use Rattle.fut_base.specs.Events.{event_of}

pub event_at : (entries : List Entry) (i : ℕ) (e : Entry) → i < length entries → e ≡ get_or entries i e → slice_get (map event_of entries) i ≡ Some (event_of e)
event_at entries i e lt is =
    slice_get-map event_of entries i ∙ ap (option_map event_of) (slice_get_read entries (length entries) i e refl lt is)

slice_get_take : {X : Type 0} (xs : List X) (n k : ℕ) → k < n → slice_get (take n xs) k ≡ slice_get xs k
slice_get_take xs zero k lt = absurd (omega arith)
slice_get_take [] (suc n) k lt = refl
slice_get_take (x ∷ xs) (suc n) zero lt = refl
slice_get_take (x ∷ xs) (suc n) (suc k) lt = slice_get_take xs n k (omega arith)

pub below_take : {X : Type 0} (xs : List X) (n k : ℕ) (x : X) → slice_get (take n xs) k ≡ Some x → k < n
below_take xs n k x at = omega (arith, slice_get_within (take n xs) k x at, length-take n xs)

pub from_take : {X : Type 0} (xs : List X) (n k : ℕ) (x : X) → slice_get (take n xs) k ≡ Some x → slice_get xs k ≡ Some x
from_take xs n k x at = sym (slice_get_take xs n k (below_take xs n k x at)) ∙ at

pub to_take : {X : Type 0} (xs : List X) (n k : ℕ) (x : X) → k < n → slice_get xs k ≡ Some x → slice_get (take n xs) k ≡ Some x
to_take xs n k x lt at = slice_get_take xs n k lt ∙ at

pub same_at : {X : Type 0} (xs : List X) (k : ℕ) (x y : X) → slice_get xs k ≡ Some x → slice_get xs k ≡ Some y → x ≡ y
same_at xs k x y one other = same_Some x y (sym one ∙ other)

-- no item from place i on passes the test
abbrev pub NoneFrom : {X : Type 0} → (X → Bool) → List X → ℕ → Type 0
NoneFrom {X} p xs i = (k : ℕ) (x : X) → i ≤ k → slice_get xs k ≡ Some x → p x ≡ false

pub none_from_here : {X : Type 0} (p : X → Bool) (xs : List X) (i n : ℕ) (x : X) → n ≡ i + 1 → slice_get xs i ≡ Some x → p x ≡ false → NoneFrom p xs n
    → NoneFrom p xs i
none_from_here p xs i n x next at fails later k y le there =
    elim (cases_eq k i) [
      | inl same ↦ subst (λ z. p z ≡ false) (same_at xs i x y at (subst (λ m. slice_get xs m ≡ Some y) same there)) fails
      | inr other ↦ later k y (omega (arith, next)) there
    ]

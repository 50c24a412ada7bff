-- What a list has at a place after a change.
use Rattle.std.proofs.Common.{◌≡◌, ◌≢◌, ℕ, ◌+◌, ◌<◌, List, [], ◌∷◌, ◌++◌, length, get_or, set, ◌⊎◌, inl, inr, sym, ◌∙◌, ap, subst, arith, slice_get}
use Rattle.std.proofs.Common.{length-append, get_or-set_same, get_or-set_other}
use Rattle.std.specs.Prelude.{Some}
use Rattle.std.proofs.lemmas.Bool.{cases_lt}
use Rattle.std.proofs.lemmas.List.{length-set, get_or_push}
use Rattle.std.proofs.lemmas.Option.{slice_get-get_or, slice_get_within, get_or_from_slice_get}
use Rattle.std.proofs.Math.ListN.{get_or-append}
use Rattle.strand_laws.proofs.Places.{same_or_not}

-- after a write the list has the new item there, and elsewhere what it had
pub set_get : {X : Type 0} → (xs : List X) (i j : ℕ) (y z : X) → slice_get (set xs i y) j ≡ Some z → ((j ≡ i) × (y ≡ z)) ⊎ ((j ≢ i) × (slice_get xs j ≡ Some z))
set_get {X} xs i j y z h =
    let lt : j < length (set xs i y) = slice_get_within (set xs i y) j z h in
    let len : length (set xs i y) ≡ length xs = length-set xs i y in
    let at : get_or (set xs i y) j y ≡ z = get_or_from_slice_get (set xs i y) j z y h in
    elim (same_or_not j i) [
      | inl e ↦ inl (
        e,
        (let lt' : i < length xs = omega (arith, lt, len, e) in
            sym (get_or-set_same xs i y y lt') ∙ subst (λ k. get_or (set xs i y) k y ≡ z) e at),
      )
      | inr ne ↦ inr (ne, slice_get-get_or xs j y (omega (arith, lt, len)) ∙ ap Some (sym (get_or-set_other xs i j y y ne) ∙ at))
    ]

-- after a push the list has the new item at its end, and before what it had
pub push_get : {X : Type 0} → (xs : List X) (y : X) (j : ℕ) (z : X) → slice_get (xs ++ y ∷ []) j ≡ Some z
    → ((j ≡ length xs) × (y ≡ z)) ⊎ ((j < length xs) × (slice_get xs j ≡ Some z))
push_get {X} xs y j z h =
    let lt : j < length (xs ++ y ∷ []) = slice_get_within (xs ++ y ∷ []) j z h in
    let len : length (xs ++ y ∷ []) ≡ length xs + 1 = length-append xs (y ∷ []) in
    let at : get_or (xs ++ y ∷ []) j y ≡ z = get_or_from_slice_get (xs ++ y ∷ []) j z y h in
    elim (cases_lt j (length xs)) [
      | inl less ↦ inr (less, slice_get-get_or xs j y less ∙ ap Some (sym (get_or-append xs (y ∷ []) y j less) ∙ at))
      | inr ge ↦ (
          let e : j ≡ length xs = omega (arith, lt, len, ge) in
          inl (e, sym (get_or_push xs y y j (sym e)) ∙ at))
    ]

-- what a list has at a place below its length
pub read_get : {X : Type 0} → (xs : List X) (i : ℕ) (x : X) → i < length xs → x ≡ get_or xs i x → slice_get xs i ≡ Some x
read_get {X} xs i x lt is = slice_get-get_or xs i x lt ∙ ap Some (sym is)

-- Members of lists.
use Rattle.std.proofs.Common.{ℕ, zero, suc, ◌<◌, List, [], ◌∷◌, ◌++◌, length, get_or, flat_map, ◌⊎◌, inl, inr, subst, sym, refl, arith}
use Rattle.fut_base.specs.Dag.{Among}

pub among_split : {X : Type 0} (x : X) (xs ys : List X) → Among x (xs ++ ys) → Among x xs ⊎ Among x ys
among_split x [] ys h = inr h
among_split x (z ∷ xs) ys (inl same) = inl (inl same)
among_split x (z ∷ xs) ys (inr h) = elim (among_split x xs ys h) [ inl l ↦ inl (inr l) | inr r ↦ inr r ]

pub among_left : {X : Type 0} (x : X) (xs ys : List X) → Among x xs → Among x (xs ++ ys)
among_left x [] ys h = absurd h
among_left x (z ∷ xs) ys (inl same) = inl same
among_left x (z ∷ xs) ys (inr h) = inr (among_left x xs ys h)

pub among_right : {X : Type 0} (x : X) (xs ys : List X) → Among x ys → Among x (xs ++ ys)
among_right x [] ys h = h
among_right x (z ∷ xs) ys h = inr (among_right x xs ys h)

pub among_last : {X : Type 0} (x : X) (xs : List X) → Among x (xs ++ x ∷ [])
among_last x xs = among_right x xs (x ∷ []) (inl refl)

-- what stands at a place of a list is one of it
pub at_place : {X : Type 0} (xs : List X) (i : ℕ) (d : X) → i < length xs → Among (get_or xs i d) xs
at_place [] i d lt = absurd (omega arith)
at_place (x ∷ xs) zero d lt = inl refl
at_place (x ∷ xs) (suc i) d lt = inr (at_place xs i d (omega arith))

-- the members of the lists that belong to the members of a list
pub flat_in : {X Y : Type 0} (f : X → List Y) (y : Y) (x : X) (xs : List X) → Among x xs → Among y (f x) → Among y (flat_map f xs)
flat_in f y x [] h a = absurd h
flat_in f y x (z ∷ zs) (inl e) a = among_left y (f z) (flat_map f zs) (subst (λ w. Among y (f w)) (sym e) a)
flat_in f y x (z ∷ zs) (inr h) a = among_right y (f z) (flat_map f zs) (flat_in f y x zs h a)

pub flat_out : {X Y : Type 0} (f : X → List Y) (y : Y) (xs : List X) → Among y (flat_map f xs) → (x : X) × Among x xs × Among y (f x)
flat_out f y [] h = absurd h
flat_out f y (z ∷ zs) h = elim (among_split y (f z) (flat_map f zs) h) [
  | inl a ↦ (z, inl refl, a)
  | inr a ↦ (let k = flat_out f y zs a in (k.0, inr k.1, k.2))
]

-- Parts of a list that lie between two places.
use Rattle.std.proofs.Common.{◌≡◌, ℕ, zero, suc, ◌+◌, ◌-◌, ◌<◌, ◌≤◌, List, [], ◌∷◌, ◌++◌, length, get_or, take, drop, ap, sym, ◌∙◌, arith}
use Rattle.std.proofs.lemmas.List.{take-append-drop, take_more, take_all, get_or-drop, length-drop, append_assoc, append-nil}

-- the items from place a up to place i
abbrev pub part : {X : Type 0} → ℕ → ℕ → List X → List X
part a i xs = take (i - a) (drop a xs)

pub part_none : {X : Type 0} → (xs : List X) (a : ℕ) → part a a xs ≡ []
part_none xs a =
    let e : a - a ≡ 0 = omega arith in
    ap (λ n. take n (drop a xs)) e

pub part_more : {X : Type 0} → (xs : List X) (a i : ℕ) (d : X) → a ≤ i → i < length xs → part a (i + 1) xs ≡ part a i xs ++ get_or xs i d ∷ []
part_more xs a i d le lt =
    let e : (i + 1) - a ≡ (i - a) + 1 = omega (arith, le) in
    let f : a + (i - a) ≡ i = omega (arith, le) in
    let k = length-drop a xs in
    ap (λ n. take n (drop a xs)) e
    ∙ take_more (drop a xs) (i - a) d (omega (arith, k, le, lt))
    ∙ ap (λ x. part a i xs ++ x ∷ []) (get_or-drop a xs (i - a) d ∙ ap (λ n. get_or xs n d) f)

pub part_rest : {X : Type 0} → (xs : List X) (a i : ℕ) → a ≤ i → part a i xs ++ drop i xs ≡ drop a xs
part_rest xs zero i le =
    let e : i - 0 ≡ i = omega arith in
    ap (λ n. take n xs ++ drop i xs) e ∙ take-append-drop i xs
part_rest xs (suc a) zero le = absurd (omega (arith, le))
part_rest {X = X} [] (suc a) (suc i) le =
    let e : ◌≡◌ {A = List X} (take (suc i - suc a) []) [] = take_all (suc i - suc a) [] (omega arith) in
    ap (λ l. l ++ []) e
part_rest (x ∷ xs) (suc a) (suc i) le =
    let e : suc i - suc a ≡ i - a = omega arith in
    ap (λ n. take n (drop a xs) ++ drop i xs) e ∙ part_rest xs a i (omega (arith, le))

-- what is pending between two places, behind what has been taken
pub pending_more : {X : Type 0} → (all xs : List X) (a i : ℕ) (d : X) → a ≤ i → i < length xs
    → all ++ part a (i + 1) xs ≡ (all ++ part a i xs) ++ get_or xs i d ∷ []
pending_more all xs a i d le lt = ap (λ l. all ++ l) (part_more xs a i d le lt) ∙ sym (append_assoc all (part a i xs) (get_or xs i d ∷ []))

pub pending_none : {X : Type 0} → (all xs : List X) (a : ℕ) → all ++ part a a xs ≡ all
pending_none all xs a = ap (λ l. all ++ l) (part_none xs a) ∙ append-nil all

pub pending_rest : {X : Type 0} → (all xs : List X) (a i : ℕ) → a ≤ i → (all ++ part a i xs) ++ drop i xs ≡ all ++ drop a xs
pending_rest all xs a i le = append_assoc all (part a i xs) (drop i xs) ∙ ap (λ l. all ++ l) (part_rest xs a i le)

-- The words behind the first.
use Rattle.std.proofs.Common.{◌≡◌, ℕ, ◌<◌, false, true, List, [], ◌∷◌, ◌++◌, length, drop, map, sym, ap, ◌∙◌, append_assoc, append-nil, arith}
use Rattle.std.specs.Prelude.{Option, Some, None, IsSome, ◌↔◌}
use Rattle.std.specs.Option.{option_to_list}

-- once the first item was taken, the others are left
pub others_left : {X : Type 0} (first : Option X) (old new : List X) (count : ℕ) → old ≡ option_to_list first ++ new → count ≡ length old
    → (IsSome first ↔ (0 < count)) → new ≡ drop 1 old
others_left (Some x) old new count is long some = ap (drop 1) (sym is)
others_left None [] new count is long some = sym is
others_left None (y ∷ ys) new count is long some = absurd (let q : false ≡ true = some.1 (omega (arith, long)) in cc)

-- what is taken from the left goes to the right
pub one_taken : {X : Type 0} (f : X → List ℕ) (words all : List (List ℕ)) (w : List ℕ) (x : X) (old new : List X) → words ++ map f old ≡ all → old ≡ x ∷ new
    → w ≡ f x → (words ++ w ∷ []) ++ map f new ≡ all
one_taken f words all w x old new so_far is text =
    append_assoc words (w ∷ []) (map f new) ∙ (ap (λ v. words ++ v ∷ map f new) text ∙ (ap (λ l. words ++ map f l) (sym is) ∙ so_far))

-- where nothing is left, all was taken
pub all_taken : {X : Type 0} (f : X → List ℕ) (words all : List (List ℕ)) (r : Option X) (old : List X) (count : ℕ) → words ++ map f old ≡ all → r ≡ None
    → (IsSome r ↔ (0 < count)) → count ≡ length old → words ≡ all
all_taken f words all r [] count so_far none some long = sym (append-nil words) ∙ so_far
all_taken f words all None (x ∷ xs) count so_far none some long = absurd (let q : false ≡ true = some.1 (omega (arith, long)) in cc)
all_taken f words all (Some y) (x ∷ xs) count so_far none some long = absurd (cc)

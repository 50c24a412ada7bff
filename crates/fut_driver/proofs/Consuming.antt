-- Bytes taken from what is left, one part after another.
use Rattle.std.proofs.Common.{◌≡◌, ℕ, ◌≤◌, List, [], ◌++◌, length, refl, ◌∙◌, ap, append_assoc, sym, arith}
use Rattle.std.specs.Prelude.{Option, Some, None}
use Rattle.std.specs.Io.KnownBytes.{Consumes, Keeps, IsAtEnd}
use Rattle.std.proofs.lemmas.List.{append-nil, length-append}

pub consumes_none : (a : Option (List ℕ)) → Consumes a a []
consumes_none None = tt
consumes_none (Some xs) = refl

pub consumes_both : (a b c : Option (List ℕ)) (xs ys : List ℕ) → Consumes a b xs → Consumes b c ys → Consumes a c (xs ++ ys)
consumes_both None b c xs ys h k = tt
consumes_both (Some ks) None c xs ys h k = absurd h
consumes_both (Some ks) (Some bs) None xs ys h k = absurd k
consumes_both (Some ks) (Some bs) (Some cs) xs ys h k = h ∙ (ap (λ l. xs ++ l) k ∙ sym (append_assoc xs ys cs))

pub consumes_keeps : (a b c : Option (List ℕ)) (xs : List ℕ) → Consumes a b xs → Keeps b c → Consumes a c xs
consumes_keeps None b c xs h k = tt
consumes_keeps (Some ks) None c xs h k = absurd h
consumes_keeps (Some ks) (Some bs) None xs h k = absurd k
consumes_keeps (Some ks) (Some bs) (Some cs) xs h k = h ∙ ap (λ l. xs ++ l) (sym k)

-- what was read up to the end is all that was left
pub all_left : (old new : Option (List ℕ)) (bytes left : List ℕ) → old ≡ Some left → Consumes old new bytes → IsAtEnd new → bytes ≡ left
all_left None new bytes left is taken end = absurd (cc)
all_left (Some ks) None bytes left is taken end = absurd taken
all_left (Some ks) (Some rest) bytes left is taken end =
    let same : ks ≡ left = cc in
    sym (append-nil bytes) ∙ (ap (λ r. bytes ++ r) (sym end) ∙ (sym taken ∙ same))

-- what was taken is no longer than what was left
pub not_longer : (old new : Option (List ℕ)) (bytes left : List ℕ) → old ≡ Some left → Consumes old new bytes → length bytes ≤ length left
not_longer None new bytes left is taken = absurd (cc)
not_longer (Some ks) None bytes left is taken = absurd taken
not_longer (Some ks) (Some rest) bytes left is taken =
    let same : ks ≡ left = cc in
    omega (arith, ap length same, ap length taken, length-append bytes rest)

-- Bytes taken from what is left, one part after another.
use Rattle.std.proofs.Common.{ℕ, List, [], ◌++◌, refl, ◌∙◌, ap, append_assoc, sym}
use Rattle.std.specs.Prelude.{Option, Some, None}
use Rattle.std.specs.Io.KnownBytes.{Consumes, Keeps}

pub consumes_none : (a : Option (List ℕ)) → Consumes a a []
consumes_none None = tt
consumes_none (Some xs) = refl

pub consumes_both : (a b c : Option (List ℕ)) (xs ys : List ℕ) → Consumes a b xs → Consumes b c ys → Consumes a c (xs ++ ys)
consumes_both None b c xs ys h k = tt
consumes_both (Some ks) None c xs ys h k = absurd h
consumes_both (Some ks) (Some bs) None xs ys h k = absurd k
consumes_both (Some ks) (Some bs) (Some cs) xs ys h k = h ∙ (ap (λ l. xs ++ l) k ∙ sym (append_assoc xs ys cs))

pub consumes_keeps : (a b c : Option (List ℕ)) (xs : List ℕ) → Consumes a b xs → Keeps b c → Consumes a c xs
consumes_keeps None b c xs h k = tt
consumes_keeps (Some ks) None c xs h k = absurd h
consumes_keeps (Some ks) (Some bs) None xs h k = absurd k
consumes_keeps (Some ks) (Some bs) (Some cs) xs h k = h ∙ ap (λ l. xs ++ l) (sym k)

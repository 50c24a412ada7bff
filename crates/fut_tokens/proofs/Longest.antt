-- A run of one class that nothing of the class follows is the longest token at its place.
use Rattle.std.proofs.Common.{◌≡◌, ℕ, Bool, false, List, [], ◌∷◌, ◌++◌, refl, subst, ap, ◌∙◌}
use Rattle.std.specs.Prelude.{Some, None, ◌&&◌, if◌then◌else◌}
use Rattle.std.proofs.lemmas.Bool.{and_right}
use Rattle.fut_tokens.specs.Cut.{Letter, Digit, class_of, each, is_word, is_digit, word_token, number_token, token_by, IsLongest}
use Rattle.fut_tokens.specs.Runs.{Ends}

pub each_not : (p : ℕ → Bool) (bs more : List ℕ) (x : ℕ) → p x ≡ false → each p (bs ++ x ∷ more) ≡ false
each_not p [] more x e = ap (λ b. b && each p more) e
each_not p (b ∷ bs) more x e = ap (λ q. p b && q) (each_not p bs more x e) ∙ and_right (p b) false refl

ends_first : (p : ℕ → Bool) (rest more after : List ℕ) (x : ℕ) → Ends p rest → rest ≡ (x ∷ more) ++ after → p x ≡ false
ends_first p [] more after x h e = absurd (cc)
ends_first p (b ∷ bs) more after x h e = let same : b ≡ x = cc in subst (λ (q : ℕ). p q ≡ false) same h

pub word_longest : (b : ℕ) (bs rest : List ℕ) → class_of b ≡ Letter → Ends is_word rest → IsLongest (b ∷ bs) rest
word_longest b bs rest c h x more after e =
    ap (λ q. token_by q b (bs ++ x ∷ more)) c
    ∙ ap (λ q. if q then Some (word_token (b ∷ bs ++ x ∷ more)) else None) (each_not is_word bs more x (ends_first is_word rest more after x h e))

pub number_longest : (b : ℕ) (bs rest : List ℕ) → class_of b ≡ Digit → Ends is_digit rest → IsLongest (b ∷ bs) rest
number_longest b bs rest c h x more after e =
    ap (λ q. token_by q b (bs ++ x ∷ more)) c
    ∙ ap (λ q. if q then Some (number_token (b ∷ bs ++ x ∷ more)) else None) (each_not is_digit bs more x (ends_first is_digit rest more after x h e))

-- The cursor goes on by one token.
use Rattle.std.proofs.Common.{◌≡◌, ℕ, zero, suc, ◌+◌, ◌-◌, true, false, List, [], ◌∷◌, drop, get_or, length, refl, sym, ap, ◌∙◌, add-one, length-drop, arith}
use Rattle.fut_tokens.specs.declared.token.Token.{Token}
use Rattle.fut_tokens.specs.declared.token.Token.TheVariants as t
use Rattle.fut_syntax.specs.Steps.{behind, front, is_end}
use Rattle.fut_tokens.specs.Ended.{IsEnded}

drop_suc : (n : ℕ) (xs : List Token) → drop (suc n) xs ≡ behind (drop n xs)
drop_suc zero [] = refl
drop_suc zero (x ∷ xs) = refl
drop_suc (suc n) [] = refl
drop_suc (suc n) (x ∷ xs) = drop_suc n xs

pub drop_behind : (n : ℕ) (xs : List Token) → drop (n + 1) xs ≡ behind (drop n xs)
drop_behind n xs = rw add-one (drop_suc n xs)

pub length_behind : (xs : List Token) (n : ℕ) → length xs - n - 1 ≡ length (behind (drop n xs))
length_behind xs n = omega (arith, ap length (drop_behind n xs), length-drop (n + 1) xs)

pub ended_behind : (xs : List Token) → IsEnded xs → is_end (front xs) ≡ false → IsEnded (behind xs)
ended_behind [] h e = h
ended_behind (t.End ∷ xs) h e = absurd (cc)
ended_behind (_ ∷ xs) h e = h

ended_end : (xs : List Token) → IsEnded xs → is_end (front xs) ≡ true → behind xs ≡ []
ended_end [] h e = refl
ended_end (t.End ∷ xs) h e = h
ended_end (_ ∷ xs) h e = absurd (cc)

pub peek_last : (xs : List Token) (n : ℕ) (x : Token) → IsEnded (drop n xs) → x ≡ get_or xs n x → is_end x ≡ true → behind (drop n xs) ≡ []
peek_last [] zero x h e q = absurd h
peek_last [] (suc n) x h e q = absurd h
peek_last (y ∷ xs) zero x h e q = ended_end (y ∷ xs) h (ap is_end (sym e) ∙ q)
peek_last (y ∷ xs) (suc n) x h e q = peek_last xs n x h e q

pub in_view : (xs : List Token) (n : ℕ) (x : Token) → IsEnded (drop n xs) → x ≡ get_or xs n x → drop n xs ≡ x ∷ behind (drop n xs)
in_view [] zero x h e = absurd h
in_view [] (suc n) x h e = absurd h
in_view (y ∷ xs) zero x h e = ap (λ (z : Token). z ∷ xs) (sym e)
in_view (y ∷ xs) (suc n) x h e = in_view xs n x h e

-- Where two ways to cut a list of tokens at a token stand to one another.
use Rattle.std.proofs.Common.{◌≡◌, ℕ, zero, suc, ◌<◌, List, [], ◌∷◌, ◌++◌, refl, ap, subst, take, length, arith}
use Rattle.fut_tokens.specs.declared.token.Token.{Token}
use Rattle.fut_tokens.specs.declared.token.Token.TheVariants as t
use Rattle.fut_tokens.specs.Ended.{IsEnded}

-- the second cut is behind the first, at the same token, or before it
pub data Cut (a : List Token) (x : Token) (b c : List Token) (y : Token) (d : List Token) : Type 0 where
  Later : (more : List Token) → c ≡ a ++ x ∷ more → b ≡ more ++ y ∷ d → Cut a x b c y d
  Same : a ≡ c → x ≡ y → b ≡ d → Cut a x b c y d
  Earlier : (more : List Token) → a ≡ c ++ y ∷ more → d ≡ more ++ x ∷ b → Cut a x b c y d

one_more : (z : Token) (a : List Token) (x : Token) (b c : List Token) (y : Token) (d : List Token) → Cut a x b c y d → Cut (z ∷ a) x b (z ∷ c) y d
one_more z a x b c y d (Later more e f) = Later more (ap (λ (l : List Token). z ∷ l) e) f
one_more z a x b c y d (Same e f g) = Same (ap (λ (l : List Token). z ∷ l) e) f g
one_more z a x b c y d (Earlier more e f) = Earlier more (ap (λ (l : List Token). z ∷ l) e) f

pub cuts : (a : List Token) (x : Token) (b c : List Token) (y : Token) (d : List Token) → a ++ x ∷ b ≡ c ++ y ∷ d → Cut a x b c y d
cuts [] x b [] y d e = Same refl (let h : x ≡ y = cc in h) (let h : b ≡ d = cc in h)
cuts [] x b (z ∷ c) y d e =
    let head : z ≡ x = cc in
    Later c (ap (λ (v : Token). v ∷ c) head) (let h : b ≡ c ++ y ∷ d = cc in h)
cuts (z ∷ a) x b [] y d e =
    let head : z ≡ y = cc in
    Earlier a (ap (λ (v : Token). v ∷ a) head) (let h : d ≡ a ++ x ∷ b = cc in h)
cuts (z ∷ a) x b (v ∷ c) y d e =
    let head : z ≡ v = cc in
    let rest : a ++ x ∷ b ≡ c ++ y ∷ d = cc in
    subst (λ (w : Token). Cut (z ∷ a) x b (w ∷ c) y d) head (one_more z a x b c y d (cuts a x b c y d rest))

-- tokens before the end token, and then others with an end token
pub front_ended : (xs : List Token) (n : ℕ) (ys : List Token) → IsEnded xs → n < length xs → IsEnded ys → IsEnded (take n xs ++ ys)
front_ended [] n ys e l s = absurd e
front_ended (x ∷ xs) zero ys e l s = s
front_ended (t.End ∷ xs) (suc n) ys e l s = absurd (omega (arith, ap length e, l))
front_ended (_ ∷ xs) (suc n) ys e l s = front_ended xs n ys e (omega (arith, l)) s

pub take_front : (before : List Token) (rest : List Token) → take (length before) (before ++ rest) ≡ before
take_front [] rest = refl
take_front (x ∷ xs) rest = ap (λ (l : List Token). x ∷ l) (take_front xs rest)

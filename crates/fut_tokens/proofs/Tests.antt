-- What tests of bytes tell.
use Rattle.std.proofs.Common.{◌≡◌, ℕ, true, false, inl, inr, ap, ◌∙◌, arith}
use Rattle.std.specs.Prelude.{nat_eq, ◌||◌, if◌then◌else◌}
use Rattle.std.proofs.lemmas.Bool.Decides.{nat_tests}
use Rattle.std.proofs.lemmas.Bool.{eqb-true, or_cases}
use Rattle.fut_tokens.specs.Cut.{is_blank, is_digit, is_letter, is_word, Letter, Digit, Blank, Other, class_of, mark_of}

pub class_letter : (b : ℕ) → is_letter b ≡ true → class_of b ≡ Letter
class_letter b h = ap (λ q. if q then Letter else (if is_digit b then Digit else (if is_blank b then Blank else Other (mark_of b)))) h

pub letter_word : (b : ℕ) → is_letter b ≡ true → is_word b ≡ true
letter_word b h = ap (λ q. q || is_digit b) h

digit_no_letter : (b : ℕ) → is_digit b ≡ true → is_letter b ≡ false
digit_no_letter b h = grind (arith, nat_tests)

pub class_digit : (b : ℕ) → is_digit b ≡ true → class_of b ≡ Digit
class_digit b h =
    ap (λ q. if q then Letter else (if is_digit b then Digit else (if is_blank b then Blank else Other (mark_of b)))) (digit_no_letter b h)
    ∙ ap (λ q. if q then Digit else (if is_blank b then Blank else Other (mark_of b))) h

pub blank_class : (b : ℕ) → is_blank b ≡ true → class_of b ≡ Blank
blank_class b h =
    elim (or_cases (nat_eq b 32 || nat_eq b 9 || nat_eq b 10) (nat_eq b 13) h) [
      | inr e ↦ ap class_of (eqb-true b 13 e)
      | inl e ↦ elim (or_cases (nat_eq b 32 || nat_eq b 9) (nat_eq b 10) e) [
        | inr e ↦ ap class_of (eqb-true b 10 e)
        | inl e ↦ elim (or_cases (nat_eq b 32) (nat_eq b 9) e) [ inl e ↦ ap class_of (eqb-true b 32 e) | inr e ↦ ap class_of (eqb-true b 9 e) ]
      ]
    ]

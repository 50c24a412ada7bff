-- The parts at the front of a text.
use Rattle.std.proofs.Common.{◌≡◌, ℕ, zero, suc, ◌<◌, Bool, true, false, List, [], ◌∷◌, length, take, drop, get_or, refl, sym, ap, ◌∙◌, arith}
use Rattle.std.specs.Prelude.{Some, None, if◌then◌else◌, nat_eq}
use Rattle.std.proofs.lemmas.List.{take-append-drop}
use Rattle.std.proofs.lemmas.Bool.{and_parts, eqb-true}
use Rattle.fut_tokens.specs.declared.token.Token.{Token}
use Rattle.fut_tokens.specs.declared.lexer.Part.TheVariants as part
use Rattle.fut_tokens.specs.Cut.{each, is_letter, is_digit, is_word, is_blank, is_inline, word_token}
use Rattle.fut_tokens.specs.Cut.{number_token, token_by, EndsLine, Space, Comment, Lexeme, starts_comment}
use Rattle.fut_tokens.specs.Parts.{IsLexeme, IsPart}
use Rattle.fut_tokens.specs.Runs.{Ends, IsRun}
use Rattle.fut_tokens.proofs.Longest.{number_longest, word_longest}
use Rattle.fut_tokens.proofs.Tests.{class_letter, class_digit, letter_word}

pub word_front : (text : List ℕ) (n : ℕ) (x : Token) → 0 < length text → is_letter (get_or text 0 0) ≡ true → IsRun is_word text n
    → x ≡ word_token (take n text) → IsLexeme text x n
word_front [] n x some c run e = absurd (omega arith)
word_front (b ∷ bs) zero x some c run e = let none : is_word b ≡ false = run.2 in let one = letter_word b c in absurd (cc)
word_front (b ∷ bs) (suc n) x some c run e = record {
  within = run.0;
  some = omega arith;
  is = ap (λ q. token_by q b (take n bs)) (class_letter b c) ∙ ap (λ q. if q then Some (word_token (b ∷ take n bs)) else None)
      ((and_parts (is_word b) (each is_word (take n bs)) run.1).1) ∙ ap Some (sym e);
  longest = word_longest b (take n bs) (drop n bs) (class_letter b c) run.2;
}

pub number_front : (text : List ℕ) (n : ℕ) (x : Token) → 0 < length text → is_digit (get_or text 0 0) ≡ true → IsRun is_digit text n
    → x ≡ number_token (take n text) → IsLexeme text x n
number_front [] n x some c run e = absurd (omega arith)
number_front (b ∷ bs) zero x some c run e = let none : is_digit b ≡ false = run.2 in absurd (cc)
number_front (b ∷ bs) (suc n) x some c run e = record {
  within = run.0;
  some = omega arith;
  is = ap (λ q. token_by q b (take n bs)) (class_digit b c) ∙ ap (λ q. if q then Some (number_token (b ∷ take n bs)) else None)
      ((and_parts (is_digit b) (each is_digit (take n bs)) run.1).1) ∙ ap Some (sym e);
  longest = number_longest b (take n bs) (drop n bs) (class_digit b c) run.2;
}

pub token_front : (text : List ℕ) (x : Token) (n : ℕ) → starts_comment text ≡ false → IsLexeme text x n → IsPart text (part.Lexeme x) n
token_front text x n h l = record {
  within = l.within;
  some = l.some;
  piece = Lexeme (take n text) x;
  bytes = refl;
  fits = (l.is, l.longest, ap starts_comment (take-append-drop n text) ∙ h);
  sort = (take n text, refl);
}

pub space_front : (text : List ℕ) → 0 < length text → is_blank (get_or text 0 0) ≡ true → IsPart text part.Space 1
space_front [] some h = absurd (omega arith)
space_front (b ∷ bs) some h = record {
  within = omega arith;
  some = omega arith;
  piece = Space b;
  bytes = refl;
  fits = h;
  sort = (b, refl);
}

line_by : (t : Bool) → (if t then false else true) ≡ false → t ≡ true
line_by true h = refl
line_by false h = sym h

pub ends_line : (rest : List ℕ) → Ends is_inline rest → EndsLine rest
ends_line [] h = tt
ends_line (x ∷ rest) h = eqb-true x 10 (line_by (nat_eq x 10) h)

pub comment_front : (text : List ℕ) (n : ℕ) → starts_comment text ≡ true → IsRun is_inline (drop 2 text) n → IsPart text part.Comment (suc (suc n))
comment_front [] n h run = absurd (cc)
comment_front (a ∷ []) n h run = absurd (cc)
comment_front (a ∷ b ∷ bs) n h run =
    let ea : a ≡ 47 = eqb-true a 47 ((and_parts (nat_eq a 47) (nat_eq b 47) h).0) in
    let eb : b ≡ 47 = eqb-true b 47 ((and_parts (nat_eq a 47) (nat_eq b 47) h).1) in
    record {
      within = omega (arith, run.0);
      some = omega arith;
      piece = Comment (take n bs);
      bytes = cc;
      fits = (run.1, ends_line (drop n bs) run.2);
      sort = (take n bs, refl);
    }

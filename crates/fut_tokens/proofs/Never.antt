-- No bytes are the end token, so it stands at the end alone.
use Rattle.std.proofs.Common.{◌≡◌, ℕ, Bool, true, false, List, [], ◌∷◌, length, refl, sym, ap, ◌∙◌}
use Rattle.std.specs.Prelude.{Option, Some, None, nat_eq, nat_le, ◌&&◌, if◌then◌else◌}
use Rattle.std.specs.Str.{bytes_eq}
use Rattle.std.proofs.lemmas.Bool.{and_parts}
use Rattle.fut_tokens.specs.declared.token.Token.{Token}
use Rattle.fut_tokens.specs.declared.token.Token.TheVariants as t
use Rattle.fut_tokens.specs.declared.kind.Mark.{Mark}
use Rattle.fut_tokens.specs.declared.kind.Mark.TheVariants.{Alone, Paired}
use Rattle.fut_tokens.specs.Cut.{keywords, symbols, keyword_of, mark_of, each, is_letter, is_blank, is_word, is_digit, word_or, word_token, has_leading_zero}
use Rattle.fut_tokens.specs.Cut.{in_range, value_from, number_token, Letter, Digit, Blank, Other, token_by, token_of, Piece, Space, Comment, Lexeme, IsCut}
use Rattle.fut_tokens.specs.Ended.{IsEnded}
use Rattle.fut_tokens.specs.Lexed.{tokens_of}
use Rattle.fut_tokens.proofs.Tables.{found}

-- what a token is not
abbrev pub is_other : Token → Bool
is_other t.End = false
is_other _ = true

abbrev pub are_other : Mark → Bool
are_other (Alone x) = is_other x
are_other (Paired x y) = is_other x && is_other y

-- what a token may be, if there is one
abbrev pub each_other : Option Token → Bool
each_other (Some x) = is_other x
each_other None = true

keyword_other : (w : List ℕ) (x : Token) → keyword_of w ≡ Some x → is_other x ≡ true
unfolding keyword_of
keyword_other w x e = (found (λ k y. is_other y) (bytes_eq w) keywords x refl e).2

mark_other : (b : ℕ) (x : Mark) → mark_of b ≡ Some x → are_other x ≡ true
unfolding mark_of
mark_other b x e = (found (λ k y. are_other y) (nat_eq b) symbols x refl e).2

plain_other : (b : Bool) (w : List ℕ) → is_other (if b then t.Word w else t.Scrap) ≡ true
plain_other true w = refl
plain_other false w = refl

word_other : (w : List ℕ) (k : Option Token) → keyword_of w ≡ k → is_other (word_or k w) ≡ true
word_other w (Some x) e = keyword_other w x e
word_other w None e = plain_other (nat_le (length w) 32) w

ranged_other : (b : Bool) (n : ℕ) → is_other (if b then t.Number n else t.Scrap) ≡ true
ranged_other true n = refl
ranged_other false n = refl

number_other : (b : Bool) (n : ℕ) → is_other (if b then t.Scrap else in_range n) ≡ true
number_other true n = refl
number_other false n = ranged_other (nat_le n 9223372036854775807) n

if_other : (b : Bool) (x : Token) → is_other x ≡ true → each_other (if b then Some x else None) ≡ true
if_other true x h = h
if_other false x h = refl

by_mark : (b : ℕ) (bs : List ℕ) (m : Option Mark) → mark_of b ≡ m → each_other (token_by (Other m) b bs) ≡ true
by_mark b [] None e = refl
by_mark b (c ∷ bs) None e = refl
by_mark b [] (Some (Alone x)) e = mark_other b (Alone x) e
by_mark b (c ∷ bs) (Some (Alone x)) e = refl
by_mark b [] (Some (Paired x y)) e = (and_parts (is_other x) (is_other y) (mark_other b (Paired x y) e)).0
by_mark b (c ∷ []) (Some (Paired x y)) e = if_other (nat_eq c 61) y ((and_parts (is_other x) (is_other y) (mark_other b (Paired x y) e)).1)
by_mark b (c ∷ d ∷ bs) (Some (Paired x y)) e = refl

by_class : (l d k : Bool) (b : ℕ) (bs : List ℕ)
    → each_other (token_by (if l then Letter else (if d then Digit else (if k then Blank else Other (mark_of b)))) b bs) ≡ true
by_class true d k b bs = if_other (each is_word bs) (word_token (b ∷ bs)) (word_other (b ∷ bs) (keyword_of (b ∷ bs)) refl)
by_class false true k b bs = if_other (each is_digit bs) (number_token (b ∷ bs)) (number_other (has_leading_zero (b ∷ bs)) (value_from 0 (b ∷ bs)))
by_class false false true b bs = refl
by_class false false false b bs = by_mark b bs (mark_of b) refl

never : (bs : List ℕ) → each_other (token_of bs) ≡ true
never [] = refl
never (b ∷ bs) = by_class (is_letter b) (is_digit b) (is_blank b) b bs

pub never_end : (bs : List ℕ) (x : Token) → token_of bs ≡ Some x → is_other x ≡ true
never_end bs x e = ap each_other (sym e) ∙ never bs

ended_more : (x : Token) (xs : List Token) → is_other x ≡ true → IsEnded xs → IsEnded (x ∷ xs)
ended_more t.End xs e h = absurd (cc)
ended_more _ xs e h = h

pub ended : (ps : List Piece) (bytes : List ℕ) → IsCut bytes ps → IsEnded (tokens_of ps)
ended [] bytes c = refl
ended (Space b ∷ ps) bytes c = ended ps c.0 c.3
ended (Comment d ∷ ps) bytes c = ended ps c.0 c.3
ended (Lexeme bs x ∷ ps) bytes c = ended_more x (tokens_of ps) (never_end bs x c.2.0) (ended ps c.0 c.3)

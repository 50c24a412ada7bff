-- Tokens that are written with blanks between are cut into these tokens.
use Rattle.std.proofs.Common.{append_assoc, ◌≡◌, ℕ, Bool, true, false, List, [], ◌∷◌, ◌++◌, refl, sym, subst, ap, ◌∙◌, arith}
use Rattle.std.specs.Prelude.{Some, None, nat_eq, ◌&&◌, if◌then◌else◌}
use Rattle.std.proofs.lemmas.Bool.Decides.{nat_tests}
use Rattle.std.proofs.lemmas.Bool.{and_right, or_parts}
use Rattle.fut_tokens.specs.declared.token.Token.{Token}
use Rattle.fut_tokens.specs.declared.token.Token.TheVariants as t
use Rattle.fut_tokens.specs.declared.token.Position.{Position}
use Rattle.fut_tokens.specs.declared.kind.Mark.TheVariants.{Alone, Paired}
use Rattle.fut_tokens.specs.Cut.{Class, Letter, Digit, Blank, Other, class_of, mark_of, is_blank, is_word, is_digit, word_token}
use Rattle.fut_tokens.specs.Cut.{number_token, token_by, token_of, IsLongest, starts_comment, Piece, Space, Comment, Lexeme, IsCut}
use Rattle.fut_tokens.specs.Lexed.{tokens_of, places_of, IsTokensOf, has_comment, HasComments}
use Rattle.fut_tokens.specs.Spelling.{spelling, Spaced, spaced, ended_tokens, IsReadable, AreReadable, AreBlank}
use Rattle.fut_tokens.specs.Spelling.{is_scrap, has_scrap, line_of, lines_of, tokens_in_lines, HaveTokens}
use Rattle.fut_tokens.proofs.Cuts.{cut_once}
use Rattle.fut_tokens.proofs.Longest.{each_not}
use Rattle.fut_tokens.proofs.Spelled.{readable}

-- a byte that goes on no token
record IsPlain (x : ℕ) : Type 0 where
  word : is_word x ≡ false
  digit : is_digit x ≡ false
  equal : nat_eq x 61 ≡ false
  stroke : nat_eq x 47 ≡ false

by_class : (c : Class) (b x : ℕ) (bs more : List ℕ) → IsPlain x → token_by c b (bs ++ x ∷ more) ≡ None
by_class Letter b x bs more p = ap (λ q. if q then Some (word_token (b ∷ bs ++ x ∷ more)) else None) (each_not is_word bs more x p.word)
by_class Digit b x bs more p = ap (λ q. if q then Some (number_token (b ∷ bs ++ x ∷ more)) else None) (each_not is_digit bs more x p.digit)
by_class Blank b x bs more p = refl
by_class (Other None) b x [] more p = refl
by_class (Other None) b x (c ∷ bs) more p = refl
by_class (Other (Some (Alone y))) b x [] more p = refl
by_class (Other (Some (Alone y))) b x (c ∷ bs) more p = refl
by_class (Other (Some (Paired y z))) b x [] [] p = ap (λ q. if q then Some z else None) p.equal
by_class (Other (Some (Paired y z))) b x [] (c ∷ more) p = refl
by_class (Other (Some (Paired y z))) b x (c ∷ []) more p = refl
by_class (Other (Some (Paired y z))) b x (c ∷ d ∷ bs) more p = refl

blank_plain : (x : ℕ) → is_blank x ≡ true → IsPlain x
blank_plain x h = record {
  word = grind (arith, nat_tests);
  digit = grind (arith, nat_tests);
  equal = grind (arith, nat_tests);
  stroke = grind (arith, nat_tests);
}

-- what a blank follows is longest
pub blank_longest : (b x : ℕ) (bs rest : List ℕ) → is_blank x ≡ true → IsLongest (b ∷ bs) (x ∷ rest)
blank_longest b x bs rest h y more after e =
    let same : x ≡ y = cc in
    ap (λ (q : ℕ). token_of ((b ∷ bs) ++ q ∷ more)) (sym same) ∙ by_class (class_of b) b x bs more (blank_plain x h)

stroke_more : (c : ℕ) (bs : List ℕ) → token_of (47 ∷ c ∷ bs) ≡ None
unfolding mark_of
stroke_more c bs = refl

stroke_alone : (b c : ℕ) (bs : List ℕ) (x : Token) (t : Bool) → nat_eq b 47 ≡ t → token_of (b ∷ c ∷ bs) ≡ Some x → (t && nat_eq c 47) ≡ false
stroke_alone b c bs x false e h = refl
stroke_alone b c bs x true e h =
    let same : b ≡ 47 = grind (arith, nat_tests) in
    let none : token_of (b ∷ c ∷ bs) ≡ None = ap (λ (q : ℕ). token_of (q ∷ c ∷ bs)) same ∙ stroke_more c bs in
    absurd (cc)

-- no comment begins at a token with a blank behind it
no_comment : (bs rest : List ℕ) (x : Token) (s : ℕ) → token_of bs ≡ Some x → is_blank s ≡ true → starts_comment (bs ++ s ∷ rest) ≡ false
no_comment [] rest x s h k = absurd (cc)
no_comment (b ∷ []) rest x s h k = and_right (nat_eq b 47) (nat_eq s 47) (blank_plain s k).stroke
no_comment (b ∷ c ∷ bs) rest x s h k = stroke_alone b c bs x (nat_eq b 47) refl h

longest : (bs rest : List ℕ) (x : Token) (s : ℕ) → token_of bs ≡ Some x → is_blank s ≡ true → IsLongest bs (s ∷ rest)
longest [] rest x s h k = absurd (cc)
longest (b ∷ bs) rest x s h k = blank_longest b s bs rest k

abbrev pieces : List Spaced → List Piece
pieces [] = []
pieces (s ∷ ss) = Lexeme (spelling s.token) s.token ∷ Space s.blank ∷ pieces ss

cut : (ss : List Spaced) → AreReadable ss → AreBlank ss → IsCut (spaced ss) (pieces ss)
cut [] h k = refl
cut (s ∷ ss) h k = (
  s.blank ∷ spaced ss,
  refl,
  (h.0.reads, longest (spelling s.token) (spaced ss) s.token s.blank h.0.reads k.0, no_comment (spelling s.token) (spaced ss) s.token s.blank h.0.reads k.0),
  (spaced ss, refl, k.0, cut ss h.1 k.1),
)

are : (ss : List Spaced) → ended_tokens ss ≡ tokens_of (pieces ss)
are [] = refl
are (s ∷ ss) = ap (λ q. s.token ∷ q) (are ss)

pub spaced_reads : (ss : List Spaced) → AreReadable ss → AreBlank ss → (places : List Position) × IsTokensOf (spaced ss) (ended_tokens ss) places
spaced_reads ss h k = (places_of [] (pieces ss), record { pieces = pieces ss; cut = cut ss h k; are = are ss; stand = refl })

no_comments : (ss : List Spaced) → has_comment (pieces ss) ≡ false
no_comments [] = refl
no_comments (s ∷ ss) = no_comments ss

spaced_plain : (ss : List Spaced) → AreReadable ss → AreBlank ss → HasComments (spaced ss) false
spaced_plain ss h k ps c = ap has_comment (cut_once ps (pieces ss) (spaced ss) c (cut ss h k)) ∙ no_comments ss

some_ended : (ss : List Spaced) → ended_tokens ss ≡ [] → ⊥
some_ended [] e = absurd (cc)
some_ended (s ∷ ss) e = absurd (cc)

some_tokens : (ps : List Piece) → [] ≡ tokens_of ps → ⊥
some_tokens [] e = absurd (cc)
some_tokens (Space b ∷ ps) e = some_tokens ps e
some_tokens (Comment c ∷ ps) e = some_tokens ps e
some_tokens (Lexeme bs x ∷ ps) e = absurd (cc)

no_scrap : (x : Token) → is_scrap x ≡ false → x ≡ t.Scrap → ⊥
no_scrap x h e = let t : true ≡ false = ap is_scrap (sym e) ∙ h in absurd (cc)

-- the tokens of a cut are readable
are_readable : (ps : List Piece) (bytes : List ℕ) (ss : List Spaced) → IsCut bytes ps → ended_tokens ss ≡ tokens_of ps → has_scrap (tokens_of ps) ≡ false
    → AreReadable ss
are_readable ps bytes [] c e n = tt
are_readable [] bytes (s ∷ ss) c e n = absurd (some_ended ss (cc))
are_readable (Space b ∷ ps) bytes (s ∷ ss) c e n = are_readable ps c.0 (s ∷ ss) c.3 e n
are_readable (Comment d ∷ ps) bytes (s ∷ ss) c e n = are_readable ps c.0 (s ∷ ss) c.3 e n
are_readable (Lexeme bs x ∷ ps) bytes (s ∷ ss) c e n =
    let same : x ≡ s.token = cc in
    let k = or_parts (is_scrap x) (has_scrap (tokens_of ps)) n in
    (subst IsReadable same (readable bs x c.2.0 (no_scrap x k.0)), are_readable ps c.0 ss c.3 (cc) k.1)

pub respaced_reads : (bytes : List ℕ) (xs : List Token) (places : List Position) → IsTokensOf bytes xs places → has_scrap xs ≡ false → (ss : List Spaced)
    → ended_tokens ss ≡ xs → AreBlank ss → (again : List Position) × IsTokensOf (spaced ss) xs again
respaced_reads bytes xs places f n ss e k =
    let h = are_readable f.pieces bytes ss f.cut (e ∙ f.are) (ap has_scrap (sym f.are) ∙ n) in
    subst (λ q. (again : List Position) × IsTokensOf (spaced ss) q again) e (spaced_reads ss h k)

abbrev spaced_rest : Token → List Token → List Spaced → List Spaced
spaced_rest x [] ss = record { token = x; blank = 10 } ∷ ss
spaced_rest x (y ∷ ys) ss = record { token = x; blank = 32 } ∷ spaced_rest y ys ss

abbrev spaced_lines : List (List Token) → List Spaced
spaced_lines [] = []
spaced_lines ([] ∷ lines) = spaced_lines lines
spaced_lines ((x ∷ xs) ∷ lines) = spaced_rest x xs (spaced_lines lines)

rest_is : (x : Token) (xs : List Token) (ss : List Spaced) (more : List ℕ) → spaced ss ≡ more → spaced (spaced_rest x xs ss) ≡ line_of (x ∷ xs) ++ more
rest_is x [] ss more e = ap (λ q. spelling x ++ 10 ∷ q) e ∙ sym (append_assoc (spelling x) (10 ∷ []) more)
rest_is x (y ∷ ys) ss more e = ap (λ q. spelling x ++ 32 ∷ q) (rest_is y ys ss more e) ∙ sym (append_assoc (spelling x) (32 ∷ line_of (y ∷ ys)) more)

lines_are : (lines : List (List Token)) → HaveTokens lines → spaced (spaced_lines lines) ≡ lines_of lines
lines_are [] h = refl
lines_are ([] ∷ lines) h = absurd h
lines_are ((x ∷ xs) ∷ lines) h = rest_is x xs (spaced_lines lines) (lines_of lines) (lines_are lines h)

rest_tokens : (x : Token) (xs : List Token) (ss : List Spaced) (more : List Token) → ended_tokens ss ≡ more
    → ended_tokens (spaced_rest x xs ss) ≡ (x ∷ xs) ++ more
rest_tokens x [] ss more e = ap (λ q. x ∷ q) e
rest_tokens x (y ∷ ys) ss more e = ap (λ q. x ∷ q) (rest_tokens y ys ss more e)

lines_tokens : (lines : List (List Token)) → ended_tokens (spaced_lines lines) ≡ tokens_in_lines lines
lines_tokens [] = refl
lines_tokens ([] ∷ lines) = lines_tokens lines
lines_tokens ((x ∷ xs) ∷ lines) = rest_tokens x xs (spaced_lines lines) (tokens_in_lines lines) (lines_tokens lines)

rest_blank : (x : Token) (xs : List Token) (ss : List Spaced) → AreBlank ss → AreBlank (spaced_rest x xs ss)
rest_blank x [] ss h = (refl, h)
rest_blank x (y ∷ ys) ss h = (refl, rest_blank y ys ss h)

lines_blank : (lines : List (List Token)) → AreBlank (spaced_lines lines)
lines_blank [] = tt
lines_blank ([] ∷ lines) = lines_blank lines
lines_blank ((x ∷ xs) ∷ lines) = rest_blank x xs (spaced_lines lines) (lines_blank lines)

pub lines_read : (bytes : List ℕ) (xs : List Token) (places : List Position) → IsTokensOf bytes xs places → has_scrap xs ≡ false → (lines : List (List Token))
    → tokens_in_lines lines ≡ xs → HaveTokens lines → (again : List Position) × IsTokensOf (lines_of lines) xs again
lines_read bytes xs places f n lines e h =
    subst (λ (q : List ℕ). (again : List Position) × IsTokensOf q xs again) (lines_are lines h)
    (respaced_reads bytes xs places f n (spaced_lines lines) (lines_tokens lines ∙ e) (lines_blank lines))

-- there is no comment in lines of the tokens of a text
pub lines_plain : (bytes : List ℕ) (xs : List Token) (places : List Position) → IsTokensOf bytes xs places → has_scrap xs ≡ false
    → (lines : List (List Token)) → tokens_in_lines lines ≡ xs → HaveTokens lines → HasComments (lines_of lines) false
lines_plain bytes xs places f n lines e h =
    let k = are_readable f.pieces bytes (spaced_lines lines) f.cut (lines_tokens lines ∙ e ∙ f.are) (ap has_scrap (sym f.are) ∙ n) in
    subst (λ (q : List ℕ). HasComments q false) (lines_are lines h) (spaced_plain (spaced_lines lines) k (lines_blank lines))

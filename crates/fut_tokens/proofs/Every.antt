-- Every text has a cut.
use Rattle.std.proofs.Common.{◌≡◌, ℕ, zero, suc, ◌<◌, ◌≤◌, Bool, true, false, List, [], ◌∷◌, ◌++◌, length, refl, sym, ap, ◌∙◌, arith}
use Rattle.std.specs.Prelude.{Option, Some, None, nat_eq, ◌&&◌, if◌then◌else◌}
use Rattle.std.proofs.lemmas.Bool.{and_parts, eqb-true}
use Rattle.fut_tokens.specs.declared.token.Token.{Token}
use Rattle.fut_tokens.specs.declared.token.Token.TheVariants as t
use Rattle.fut_tokens.specs.declared.token.Position.{Position}
use Rattle.fut_tokens.specs.declared.kind.Mark.{Mark}
use Rattle.fut_tokens.specs.declared.kind.Mark.TheVariants.{Alone, Paired}
use Rattle.fut_tokens.specs.Cut.{Letter, Digit, Blank, Other, class_of, mark_of, each, is_blank, is_letter, is_digit, is_word, is_inline, word_token}
use Rattle.fut_tokens.specs.Cut.{number_token, token_by, token_of, IsLongest, starts_comment, Piece, Space, Comment, Lexeme, bytes_of, Fits, IsCut}
use Rattle.fut_tokens.specs.Lexed.{tokens_of, places_of, IsTokensOf}
use Rattle.fut_tokens.specs.Runs.{Ends}
use Rattle.fut_tokens.proofs.Fronts.{ends_line}
use Rattle.fut_tokens.proofs.Longest.{word_longest, number_longest}
use Rattle.fut_tokens.proofs.Tests.{class_letter, class_digit}

-- the bytes of a class at the front, and those behind
abbrev run_of : (ℕ → Bool) → List ℕ → List ℕ
run_of p [] = []
run_of p (b ∷ bs) = if p b then b ∷ run_of p bs else []

abbrev past : (ℕ → Bool) → List ℕ → List ℕ
past p [] = []
past p (b ∷ bs) = if p b then past p bs else b ∷ bs

parts_by : (p : ℕ → Bool) (b : ℕ) (bs : List ℕ) (u : Bool) → bs ≡ run_of p bs ++ past p bs
    → b ∷ bs ≡ (if u then b ∷ run_of p bs else []) ++ (if u then past p bs else b ∷ bs)
parts_by p b bs true h = ap (λ q. b ∷ q) h
parts_by p b bs false h = refl

parts : (p : ℕ → Bool) (bs : List ℕ) → bs ≡ run_of p bs ++ past p bs
parts p [] = refl
parts p (b ∷ bs) = parts_by p b bs (p b) (parts p bs)

ends_by : (p : ℕ → Bool) (b : ℕ) (bs : List ℕ) (u : Bool) → p b ≡ u → Ends p (past p bs) → Ends p (if u then past p bs else b ∷ bs)
ends_by p b bs true e h = h
ends_by p b bs false e h = e

past_ends : (p : ℕ → Bool) (bs : List ℕ) → Ends p (past p bs)
past_ends p [] = tt
past_ends p (b ∷ bs) = ends_by p b bs (p b) refl (past_ends p bs)

each_by : (p : ℕ → Bool) (b : ℕ) (bs : List ℕ) (u : Bool) → p b ≡ u → each p (run_of p bs) ≡ true → each p (if u then b ∷ run_of p bs else []) ≡ true
each_by p b bs true e h = ap (λ q. q && each p (run_of p bs)) e ∙ h
each_by p b bs false e h = refl

run_each : (p : ℕ → Bool) (bs : List ℕ) → each p (run_of p bs) ≡ true
run_each p [] = refl
run_each p (b ∷ bs) = each_by p b bs (p b) refl (run_each p bs)

short_by : (p : ℕ → Bool) (b : ℕ) (bs : List ℕ) (u : Bool) → length (past p bs) ≤ length bs → length (if u then past p bs else b ∷ bs) ≤ suc (length bs)
short_by p b bs true h = omega arith
short_by p b bs false h = omega arith

past_short : (p : ℕ → Bool) (bs : List ℕ) → length (past p bs) ≤ length bs
past_short p [] = omega arith
past_short p (b ∷ bs) = short_by p b bs (p b) (past_short p bs)

-- a piece at the front of a text
record HasFront (bytes : List ℕ) : Type 0 where
  piece : Piece
  rest : List ℕ
  whole : bytes ≡ bytes_of piece ++ rest
  fits : Fits piece rest
  shorter : length rest < length bytes

-- a longest token at the front of a text
record HasToken (b : ℕ) (bs : List ℕ) : Type 0 where
  more : List ℕ
  rest : List ℕ
  whole : bs ≡ more ++ rest
  token : Token
  is : token_of (b ∷ more) ≡ Some token
  longest : IsLongest (b ∷ more) rest
  shorter : length rest ≤ length bs

word_at : (b : ℕ) (bs : List ℕ) → is_letter b ≡ true → HasToken b bs
word_at b bs h = record {
  more = run_of is_word bs;
  rest = past is_word bs;
  whole = parts is_word bs;
  token = word_token (b ∷ run_of is_word bs);
  is = ap (λ q. token_by q b (run_of is_word bs)) (class_letter b h) ∙ ap (λ q. if q then Some (word_token (b ∷ run_of is_word bs)) else None)
      (run_each is_word bs);
  longest = word_longest b (run_of is_word bs) (past is_word bs) (class_letter b h) (past_ends is_word bs);
  shorter = past_short is_word bs;
}

number_at : (b : ℕ) (bs : List ℕ) → is_digit b ≡ true → HasToken b bs
number_at b bs h = record {
  more = run_of is_digit bs;
  rest = past is_digit bs;
  whole = parts is_digit bs;
  token = number_token (b ∷ run_of is_digit bs);
  is = ap (λ q. token_by q b (run_of is_digit bs)) (class_digit b h) ∙ ap (λ q. if q then Some (number_token (b ∷ run_of is_digit bs)) else None)
      (run_each is_digit bs);
  longest = number_longest b (run_of is_digit bs) (past is_digit bs) (class_digit b h) (past_ends is_digit bs);
  shorter = past_short is_digit bs;
}

-- one byte is a token, of which no longer front is one
one_byte : (b : ℕ) (bs : List ℕ) (m : Option Mark) (x : Token) → class_of b ≡ Other m → token_by (Other m) b [] ≡ Some x
    → ((y : ℕ) (more after : List ℕ) → bs ≡ (y ∷ more) ++ after → token_by (Other m) b (y ∷ more) ≡ None) → HasToken b bs
one_byte b bs m x c h none = record {
  more = [];
  rest = bs;
  whole = refl;
  token = x;
  is = ap (λ q. token_by q b []) c ∙ h;
  longest = λ y more after e. ap (λ q. token_by q b (y ∷ more)) c ∙ none y more after e;
  shorter = omega arith;
}

paired_none : (b y : ℕ) (more bs : List ℕ) (u v : Token) → nat_eq y 61 ≡ false → token_by (Other (Some (Paired u v))) b (y ∷ more) ≡ None
paired_none b y [] bs u v h = ap (λ q. if q then Some v else None) h
paired_none b y (z ∷ more) bs u v h = refl

paired_at : (b c : ℕ) (bs : List ℕ) (u v : Token) (q : Bool) → class_of b ≡ Other (Some (Paired u v)) → nat_eq c 61 ≡ q → HasToken b (c ∷ bs)
paired_at b c bs u v true k h = record {
  more = c ∷ [];
  rest = bs;
  whole = refl;
  token = v;
  is = ap (λ q. token_by q b (c ∷ [])) k ∙ ap (λ q. if q then Some v else None) h;
  longest = λ y more after e. ap (λ q. token_by q b (c ∷ y ∷ more)) k;
  shorter = omega arith;
}
paired_at b c bs u v false k h =
    one_byte b (c ∷ bs) (Some (Paired u v)) u k refl
    (λ y more after e. let same : c ≡ y = cc in paired_none b y more bs u v (ap (λ (q : ℕ). nat_eq q 61) (sym same) ∙ h))

mark_at : (b : ℕ) (bs : List ℕ) (m : Option Mark) → class_of b ≡ Other m → HasToken b bs
mark_at b bs None k = one_byte b bs None t.Scrap k refl (λ y more after e. refl)
mark_at b bs (Some (Alone x)) k = one_byte b bs (Some (Alone x)) x k refl (λ y more after e. refl)
mark_at b [] (Some (Paired u v)) k = one_byte b [] (Some (Paired u v)) u k refl (λ y more after e. absurd (cc))
mark_at b (c ∷ bs) (Some (Paired u v)) k = paired_at b c bs u v (nat_eq c 61) k refl

class_by : (l d k : Bool) (b : ℕ) → is_letter b ≡ l → is_digit b ≡ d → is_blank b ≡ k
    → class_of b ≡ (if l then Letter else (if d then Digit else (if k then Blank else Other (mark_of b))))
class_by l d k b el ed ek =
    ap (λ q. if q then Letter else (if is_digit b then Digit else (if is_blank b then Blank else Other (mark_of b)))) el
    ∙ ap (λ q. if l then Letter else (if q then Digit else (if is_blank b then Blank else Other (mark_of b)))) ed
    ∙ ap (λ q. if l then Letter else (if d then Digit else (if q then Blank else Other (mark_of b)))) ek

token_at : (l d : Bool) (b : ℕ) (bs : List ℕ) → is_letter b ≡ l → is_digit b ≡ d → is_blank b ≡ false → HasToken b bs
token_at true d b bs el ed ek = word_at b bs el
token_at false true b bs el ed ek = number_at b bs ed
token_at false false b bs el ed ek = mark_at b bs (mark_of b) (class_by false false false b el ed ek)

lexeme_at : (b : ℕ) (bs : List ℕ) → starts_comment (b ∷ bs) ≡ false → HasToken b bs → HasFront (b ∷ bs)
lexeme_at b bs h k = record {
  piece = Lexeme (b ∷ k.more) k.token;
  rest = k.rest;
  whole = ap (λ q. b ∷ q) k.whole;
  fits = (k.is, k.longest, ap (λ q. starts_comment (b ∷ q)) (sym k.whole) ∙ h);
  shorter = omega (arith, k.shorter);
}

comment_at : (b : ℕ) (bs : List ℕ) → starts_comment (b ∷ bs) ≡ true → HasFront (b ∷ bs)
comment_at b [] h = absurd (cc)
comment_at b (c ∷ bs) h =
    let eb : b ≡ 47 = eqb-true b 47 ((and_parts (nat_eq b 47) (nat_eq c 47) h).0) in
    let ec : c ≡ 47 = eqb-true c 47 ((and_parts (nat_eq b 47) (nat_eq c 47) h).1) in
    let e = parts is_inline bs in
    record {
      piece = Comment (run_of is_inline bs);
      rest = past is_inline bs;
      whole = cc;
      fits = (run_each is_inline bs, ends_line (past is_inline bs) (past_ends is_inline bs));
      shorter = omega (arith, past_short is_inline bs);
    }

front_by : (k s : Bool) (b : ℕ) (bs : List ℕ) → is_blank b ≡ k → starts_comment (b ∷ bs) ≡ s → HasFront (b ∷ bs)
front_by true s b bs ek es = record { piece = Space b; rest = bs; whole = refl; fits = ek; shorter = omega arith }
front_by false true b bs ek es = comment_at b bs es
front_by false false b bs ek es = lexeme_at b bs es (token_at (is_letter b) (is_digit b) b bs refl refl ek)

cut_by : (n : ℕ) (bytes : List ℕ) → length bytes ≤ n → (ps : List Piece) × IsCut bytes ps
cut_by n [] h = ([], refl)
cut_by zero (b ∷ bs) h = absurd (omega arith)
cut_by (suc n) (b ∷ bs) h =
    let f = front_by (is_blank b) (starts_comment (b ∷ bs)) b bs refl refl in
    let r = cut_by n f.rest (omega (arith, f.shorter)) in
    (f.piece ∷ r.0, (f.rest, f.whole, f.fits, r.1))

pub every_text : (bytes : List ℕ) → (xs : List Token) × (places : List Position) × IsTokensOf bytes xs places
every_text bytes =
    let r = cut_by (length bytes) bytes (omega arith) in
    (tokens_of r.0, places_of [] r.0, record { pieces = r.0; cut = r.1; are = refl; stand = refl })

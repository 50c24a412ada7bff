-- How a text is cut into tokens, blanks and comments.
use Rattle.std.specs.Prelude.{◌≡◌, ℕ, ◌+◌, ◌-◌, ◌*◌, Bool, true, false, List, [], ◌∷◌, ◌++◌, length}
use Rattle.std.specs.Prelude.{Option, Some, None, if◌then◌else◌, nat_eq, nat_le, ◌&&◌, ◌||◌, codes}
use Rattle.std.specs.Str.{bytes_eq}
use Rattle.fut_tokens.specs.declared.token.Token.{Token}
use Rattle.fut_tokens.specs.declared.token.Token.TheVariants as t
use Rattle.fut_tokens.specs.declared.kind.Mark.{Mark}
use Rattle.fut_tokens.specs.declared.kind.Mark.TheVariants.{Alone, Paired}

-- space, tab, line feed and carriage return
abbrev pub is_blank : ℕ → Bool
is_blank b = nat_eq b 32 || nat_eq b 9 || nat_eq b 10 || nat_eq b 13

-- `0` to `9`
abbrev pub is_digit : ℕ → Bool
is_digit b = nat_le 48 b && nat_le b 57

-- what a word may begin with
abbrev pub is_letter : ℕ → Bool
is_letter b = (nat_le 97 b && nat_le b 122) || (nat_le 65 b && nat_le b 90) || nat_eq b 95

-- what a word may hold
abbrev pub is_word : ℕ → Bool
is_word b = is_letter b || is_digit b

-- any byte but a line feed
abbrev pub is_inline : ℕ → Bool
is_inline b = if nat_eq b 10 then false else true

-- each of some bytes passes a test
abbrev pub each : (ℕ → Bool) → List ℕ → Bool
each p [] = true
each p (b ∷ bs) = p b && each p bs

-- what a table has at the first key that passes a test
abbrev pub look_up : {K A : Type 0} → (K → Bool) → List (K × A) → Option A
look_up test [] = None
look_up test (entry ∷ table) = if test entry.0 then Some entry.1 else look_up test table

-- the keywords as they are written
abbrev pub keywords : List (List ℕ × Token)
keywords =
    (codes "cells", t.Cells)
    ∷ (codes "task", t.Task)
    ∷ (codes "int", t.Int)
    ∷ (codes "fut", t.Fut)
    ∷ (codes "var", t.Var)
    ∷ (codes "if", t.If)
    ∷ (codes "else", t.Else)
    ∷ (codes "while", t.While)
    ∷ (codes "spawn", t.Spawn)
    ∷ (codes "sync", t.Sync)
    ∷ (codes "create", t.Create)
    ∷ (codes "get", t.Get)
    ∷ (codes "return", t.Return)
    ∷ (codes "add", t.Add)
    ∷ []

-- the symbols by their first byte, in the order of the grammar's table; some of them go on by an equals sign
abbrev pub symbols : List (ℕ × Mark)
symbols =
    (40, Alone t.LeftParen)
    ∷ (41, Alone t.RightParen)
    ∷ (91, Alone t.LeftSquare)
    ∷ (93, Alone t.RightSquare)
    ∷ (123, Alone t.LeftBrace)
    ∷ (125, Alone t.RightBrace)
    ∷ (44, Alone t.Comma)
    ∷ (59, Alone t.Semicolon)
    ∷ (58, Alone t.Colon)
    ∷ (61, Paired t.Equals t.EqualEqual)
    ∷ (43, Alone t.Plus)
    ∷ (45, Alone t.Minus)
    ∷ (42, Alone t.Star)
    ∷ (47, Alone t.Slash)
    ∷ (37, Alone t.Percent)
    ∷ (38, Alone t.Ampersand)
    ∷ (124, Alone t.Bar)
    ∷ (33, Paired t.Bang t.BangEqual)
    ∷ (60, Paired t.Less t.LessEqual)
    ∷ (62, Paired t.Greater t.GreaterEqual)
    ∷ []

-- the keyword that is written so, if it is one
unfoldable pub keyword_of : List ℕ → Option Token
keyword_of w = look_up (bytes_eq w) keywords

-- the symbols that a byte begins, if there are any
unfoldable pub mark_of : ℕ → Option Mark
mark_of b = look_up (nat_eq b) symbols

-- a run of word bytes that is no keyword: a word, or one too long
abbrev pub plain_word : List ℕ → Token
plain_word w = if nat_le (length w) 32 then t.Word w else t.Scrap

-- the keyword, or else what the bytes are without it
abbrev pub word_or : Option Token → List ℕ → Token
word_or (Some keyword) w = keyword
word_or None w = plain_word w

-- what a run of word bytes is
abbrev pub word_token : List ℕ → Token
word_token w = word_or (keyword_of w) w

-- the number that digits spell behind one that stands for n
abbrev pub value_from : ℕ → List ℕ → ℕ
value_from n [] = n
value_from n (d ∷ ds) = value_from (n * 10 + (d - 48)) ds

-- a 0 stands first, and more behind it
abbrev pub has_leading_zero : List ℕ → Bool
has_leading_zero (a ∷ b ∷ ds) = nat_eq a 48
has_leading_zero _ = false

-- a number in range, or a scrap
abbrev pub in_range : ℕ → Token
in_range n = if nat_le n 9223372036854775807 then t.Number n else t.Scrap

-- what a run of digits is
abbrev pub number_token : List ℕ → Token
number_token ds = if has_leading_zero ds then t.Scrap else in_range (value_from 0 ds)

-- what a token may begin with
pub data Class : Type 0 where
  Letter : Class
  Digit : Class
  Blank : Class
  Other : Option Mark → Class

-- what a byte begins
abbrev pub class_of : ℕ → Class
class_of b = if is_letter b then Letter else (if is_digit b then Digit else (if is_blank b then Blank else Other (mark_of b)))

-- the token of a first byte of some class and the bytes behind it, if they are one together
abbrev pub token_by : Class → ℕ → List ℕ → Option Token
token_by Letter b bs = if each is_word bs then Some (word_token (b ∷ bs)) else None
token_by Digit b bs = if each is_digit bs then Some (number_token (b ∷ bs)) else None
token_by Blank b bs = None
token_by (Other None) b [] = Some t.Scrap
token_by (Other None) b (c ∷ bs) = None
token_by (Other (Some (Alone x))) b [] = Some x
token_by (Other (Some (Alone x))) b (c ∷ bs) = None
token_by (Other (Some (Paired x y))) b [] = Some x
token_by (Other (Some (Paired x y))) b (c ∷ []) = if nat_eq c 61 then Some y else None
token_by (Other (Some (Paired x y))) b (c ∷ d ∷ bs) = None

-- which token some bytes are, if they are one
abbrev pub token_of : List ℕ → Option Token
token_of [] = None
token_of (b ∷ bs) = token_by (class_of b) b bs

-- of the bytes that stand here no longer front is a token
abbrev pub IsLongest : List ℕ → List ℕ → Type 0
IsLongest bs rest = (x : ℕ) (more after : List ℕ) → rest ≡ (x ∷ more) ++ after → token_of (bs ++ x ∷ more) ≡ None

-- a blank, a comment by what stands behind its strokes, or a token with its bytes
pub data Piece : Type 0 where
  Space : ℕ → Piece
  Comment : List ℕ → Piece
  Lexeme : List ℕ → Token → Piece

-- the bytes of a piece
abbrev pub bytes_of : Piece → List ℕ
bytes_of (Space b) = b ∷ []
bytes_of (Comment c) = 47 ∷ 47 ∷ c
bytes_of (Lexeme bs x) = bs

-- a line feed stands here, or the end
abbrev pub EndsLine : List ℕ → Type 0
EndsLine [] = Unit {0}
EndsLine (b ∷ bs) = b ≡ 10

-- two strokes stand first
abbrev pub starts_comment : List ℕ → Bool
starts_comment (a ∷ b ∷ bs) = nat_eq a 47 && nat_eq b 47
starts_comment _ = false

-- a piece stands in front of what follows
abbrev pub Fits : Piece → List ℕ → Type 0
Fits (Space b) rest = is_blank b ≡ true
Fits (Comment c) rest = (each is_inline c ≡ true) × EndsLine rest
Fits (Lexeme bs x) rest = (token_of bs ≡ Some x) × IsLongest bs rest × (starts_comment (bs ++ rest) ≡ false)

-- a text is these pieces one after the other
abbrev pub IsCut : List ℕ → List Piece → Type 0
IsCut bytes [] = bytes ≡ []
IsCut bytes (p ∷ ps) = (rest : List ℕ) × (bytes ≡ bytes_of p ++ rest) × Fits p rest × IsCut rest ps

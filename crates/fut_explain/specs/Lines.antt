-- Lines of a text, and the mark under a token.
use Rattle.std.specs.Prelude.{◌≡◌, ℕ, true, nat_eq, max, List, [], ◌∷◌, ◌++◌, length, replicate, slice_get, Some, if◌then◌else◌}
use Rattle.std.specs.List.{suffix_len}
use Rattle.fut_tokens.specs.declared.token.Token.{Token}
use Rattle.fut_tokens.specs.declared.token.Position.{Position}
use Rattle.fut_tokens.specs.Cut.{each, is_inline, EndsLine}
use Rattle.fut_tokens.specs.Lexed.{IsTokensOf, place_after}
use Rattle.fut_tokens.specs.Spelling.{spelling}
use Rattle.fut_explain.specs.declared.lines.Line.{Line}
use Rattle.fut_explain.specs.declared.mark.Marked.{Marked}

-- a byte of the text, or its end, has this place
pub record IsPlaceOf (text : List ℕ) (place : Position) : Type 0 where
  pub before : List ℕ
  pub after : List ℕ
  pub whole : text ≡ before ++ after
  pub stands : place_after before ≡ place

-- a token of the text that stands at this place
pub record IsTokenAt (text : List ℕ) (place : Position) (token : Token) : Type 0 where
  pub tokens : List Token
  pub places : List Position
  pub at : ℕ
  pub cut : IsTokensOf text tokens places
  pub stands : slice_get places at ≡ Some place
  pub is : slice_get tokens at ≡ Some token

-- what stands behind the last line feed of a text, or the whole text
pub record IsLastLine (text line : List ℕ) : Type 0 where
  pub before : List ℕ
  pub whole : text ≡ before ++ line
  pub begins : suffix_len is_inline before ≡ 0
  pub inline : each is_inline line ≡ true

-- what stands before the first line feed of a text, or the whole text
pub record IsFirstLine (text line : List ℕ) : Type 0 where
  pub after : List ℕ
  pub whole : text ≡ line ++ after
  pub inline : each is_inline line ≡ true
  pub ends : EndsLine after

-- the line of a text on which a place is, up to the place and from there on
pub record IsLineOf (text : List ℕ) (place : Position) (line : Line) : Type 0 where
  pub before : List ℕ
  pub after : List ℕ
  pub whole : text ≡ (before ++ line.front.now) ++ (line.rest.now ++ after)
  pub stands : place_after (before ++ line.front.now) ≡ place
  pub begins : suffix_len is_inline before ≡ 0
  pub front_inline : each is_inline line.front.now ≡ true
  pub rest_inline : each is_inline line.rest.now ≡ true
  pub ends : EndsLine after

-- how many bytes a token takes as it is written, but of the end token and of a scrap it is 1
abbrev pub width_of : Token → ℕ
width_of x = max (length (spelling x)) 1

-- the line of a text on which a token stands, and the token's width
pub record IsMarked (text : List ℕ) (place : Position) (m : Marked) : Type 0 where
  pub line : IsLineOf text place m.line
  pub token : Token
  pub here : IsTokenAt text place token
  pub width : m.width ≡ width_of token

-- a blank under each of some bytes; under a tab it is one
abbrev pub blanks : List ℕ → List ℕ
blanks [] = []
blanks (b ∷ bs) = (if nat_eq b 9 then 9 else 32) ∷ blanks bs

-- a line, and under it the mark
abbrev pub marked_text : Marked → List ℕ
marked_text m =
    m.line.front.now ++ (m.line.rest.now ++ (10 ∷ blanks m.line.front.now ++ (replicate m.width 94 ++ (10 ∷ []))))

-- The tokens of a text and their places.
use Rattle.std.specs.Prelude.{◌≡◌, ℕ, ◌+◌, Bool, true, false, List, [], ◌∷◌, ◌++◌, count_by, nat_eq}
use Rattle.std.specs.List.{suffix_len}
use Rattle.fut_tokens.specs.declared.token.Token.{Token}
use Rattle.fut_tokens.specs.declared.token.Token.TheVariants as t
use Rattle.fut_tokens.specs.declared.token.Position.{Position}
use Rattle.fut_tokens.specs.Cut.{is_inline, Piece, Space, Comment, Lexeme, IsCut}

-- the tokens among some pieces, and then the end token
abbrev pub tokens_of : List Piece → List Token
tokens_of [] = t.End ∷ []
tokens_of (Space b ∷ ps) = tokens_of ps
tokens_of (Comment c ∷ ps) = tokens_of ps
tokens_of (Lexeme bs x ∷ ps) = x ∷ tokens_of ps

-- the place of the byte that stands behind some bytes: by the line feeds among them, and the bytes since the last one
abbrev pub place_after : List ℕ → Position
place_after before = record { line = 1 + count_by (λ b. nat_eq b 10) before; column = 1 + suffix_len is_inline before }

-- the places of the tokens among some pieces that stand behind these bytes, and then that of the end token
abbrev pub places_of : List ℕ → List Piece → List Position
places_of before [] = place_after before ∷ []
places_of before (Space b ∷ ps) = places_of (before ++ b ∷ []) ps
places_of before (Comment c ∷ ps) = places_of (before ++ 47 ∷ 47 ∷ c) ps
places_of before (Lexeme bs x ∷ ps) = place_after before ∷ places_of (before ++ bs) ps

-- a text has these tokens at these places
pub record IsTokensOf (bytes : List ℕ) (tokens : List Token) (places : List Position) : Type 0 where
  pub pieces : List Piece
  pub cut : IsCut bytes pieces
  pub are : tokens ≡ tokens_of pieces
  pub stand : places ≡ places_of [] pieces

-- a comment is among some pieces
abbrev pub has_comment : List Piece → Bool
has_comment [] = false
has_comment (Comment c ∷ ps) = true
has_comment (_ ∷ ps) = has_comment ps

-- whether a text has a comment
abbrev pub HasComments : List ℕ → Bool → Type 0
HasComments bytes comments = (ps : List Piece) → IsCut bytes ps → has_comment ps ≡ comments

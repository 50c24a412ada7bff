-- The first part of a text is a piece of its cut.
use Rattle.std.specs.Prelude.{◌≡◌, ℕ, ◌<◌, ◌≤◌, List, length, take, drop, Option, Some, None, if◌then◌else◌, nat_le}
use Rattle.fut_tokens.specs.declared.token.Token.{Token}
use Rattle.fut_tokens.specs.declared.lexer.Part.{Part}
use Rattle.fut_tokens.specs.declared.lexer.Part.TheVariants as part
use Rattle.fut_tokens.specs.Cut.{token_of, IsLongest, Piece, Space, Comment, Lexeme, bytes_of, Fits}

-- the first bytes of a text, so many, are its longest token
pub record IsLexeme (text : List ℕ) (token : Token) (n : ℕ) : Type 0 where
  pub within : n ≤ length text
  pub some : 0 < n
  pub is : token_of (take n text) ≡ Some token
  pub longest : IsLongest (take n text) (drop n text)

-- the number, if it is in range
abbrev pub ranged : ℕ → Option ℕ
ranged n = if nat_le n 9223372036854775807 then Some n else None

-- a piece is of this sort
abbrev pub IsSort : Part → Piece → Type 0
IsSort part.Space p = (b : ℕ) × (p ≡ Space b)
IsSort part.Comment p = (c : List ℕ) × (p ≡ Comment c)
IsSort (part.Lexeme x) p = (bs : List ℕ) × (p ≡ Lexeme bs x)

-- the first bytes of a text, so many, are a piece of this sort
pub record IsPart (text : List ℕ) (part : Part) (n : ℕ) : Type 0 where
  pub within : n ≤ length text
  pub some : 0 < n
  pub piece : Piece
  pub bytes : bytes_of piece ≡ take n text
  pub fits : Fits piece (drop n text)
  pub sort : IsSort part piece

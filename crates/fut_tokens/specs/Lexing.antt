-- A text of which a beginning was cut.
use Rattle.std.specs.Prelude.{ℕ, ◌+◌, Bool, true, false, ◌||◌, List, [], ◌∷◌, ◌++◌, take, drop, nat_eq, if◌then◌else◌}
use Rattle.fut_tokens.specs.declared.token.Token.{Token}
use Rattle.fut_tokens.specs.declared.token.Position.{Position}
use Rattle.fut_tokens.specs.declared.lexer.Part.{Part}
use Rattle.fut_tokens.specs.declared.lexer.Part.TheVariants as part
use Rattle.fut_tokens.specs.Cut.{Piece, IsCut}
use Rattle.fut_tokens.specs.Lexed.{tokens_of, places_of, has_comment, IsTokensOf, HasComments}

-- the token of a part, if it is one
abbrev pub tokens_in : Part → List Token
tokens_in part.Space = []
tokens_in part.Comment = []
tokens_in (part.Lexeme x) = x ∷ []

-- the place of a part, if it is a token
abbrev pub places_in : Position → Part → List Position
places_in place part.Space = []
places_in place part.Comment = []
places_in place (part.Lexeme x) = place ∷ []

-- a part is a comment
abbrev pub is_comment : Part → Bool
is_comment part.Comment = true
is_comment _ = false

-- the place one byte on
abbrev pub place_on : Position → ℕ → Position
place_on place b = if nat_eq b 10 then record { line = place.line + 1; column = 1 } else record { line = place.line; column = place.column + 1 }

-- the first bytes of a text, so many, were cut: with the tokens of what is left these are the text's
pub record IsBegun (text : List ℕ) (at : ℕ) (tokens : List Token) (places : List Position) (comments : Bool) : Type 0 where
  pub goes : (ps : List Piece) → IsCut (drop at text) ps → IsTokensOf text (tokens ++ tokens_of ps) (places ++ places_of (take at text) ps)
  pub told : (ps : List Piece) → IsCut (drop at text) ps → HasComments text (comments || has_comment ps)

-- Which texts are programs, and where the fault of another text stands.
use Rattle.std.specs.Prelude.{◌≡◌, ℕ, List, length, slice_get, Some, Result, Ok, Err}
use Rattle.fut_tokens.specs.declared.token.Token.{Token}
use Rattle.fut_tokens.specs.declared.token.Position.{Position}
use Rattle.fut_syntax.specs.declared.program.ParseFault.{ParseFault}
use Rattle.fut_syntax.specs.declared.program.ParseFault.TheVariants as fault
use Rattle.fut_syntax.specs.declared.tree.Item.{Item}
use Rattle.fut_syntax.specs.declared.tree.Program as declared
use Rattle.fut_syntax.specs.Trees as trees
use Rattle.fut_syntax.specs.Views.{program_tree}
use Rattle.fut_tokens.specs.Lexed.{IsTokensOf, HasComments}
use Rattle.fut_syntax.specs.Faults.{IsWhole, IsFault}
use Rattle.fut_syntax.specs.Lines.{canonical_text}

-- the tokens of a text are those of a program, and no bracket opens where 64 are open
pub record IsProgram (bytes : List ℕ) (P : trees.Program) : Type 0 where
  pub tokens : List Token
  pub places : List Position
  pub cut : IsTokensOf bytes tokens places
  pub whole : IsWhole tokens P

-- the first token of a text that can't come stands here
pub record IsFaultPlace (bytes : List ℕ) (place : Position) : Type 0 where
  pub tokens : List Token
  pub places : List Position
  pub left : ℕ
  pub cut : IsTokensOf bytes tokens places
  pub fault : IsFault tokens left
  pub stands : slice_get places (length fault.before) ≡ Some place

-- these are the places of the tokens of a text
abbrev pub ArePlacesOf : List ℕ → List Position → Type 0
ArePlacesOf bytes places = (tokens : List Token) × IsTokensOf bytes tokens places

-- what was read of a text: its tree with the places of its tokens and whether it has a comment, or its fault place
abbrev pub Parses : List ℕ → Result declared.Program ParseFault → Type 0
Parses bytes (Ok p) = ((P : trees.Program) × (program_tree p.items ≡ Some P) × IsProgram bytes P) × ArePlacesOf bytes p.places × HasComments bytes p.comments
Parses bytes (Err (fault.Syntax line column)) = IsFaultPlace bytes (record { line = line; column = column })
Parses bytes (Err fault.NoMemory) = Unit {0}

-- these bytes are the canonical text of the tree of some items
abbrev pub Prints : List Item → List ℕ → Type 0
Prints is bytes = (P : trees.Program) → program_tree is ≡ Some P → bytes ≡ canonical_text P

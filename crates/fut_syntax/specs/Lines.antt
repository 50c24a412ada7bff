-- The lines of a program: the tokens of each item, and the text that they make.
use Rattle.std.specs.Prelude.{ℕ, List, [], ◌∷◌, map}
use Rattle.fut_tokens.specs.declared.token.Token.{Token}
use Rattle.fut_syntax.specs.Trees.{Item, Program}
use Rattle.fut_syntax.specs.Tokens.{item_before}
use Rattle.fut_tokens.specs.Spelling.{lines_of}

-- the tokens of an item
abbrev pub item_tokens : Item → List Token
item_tokens i = item_before i []

-- a line for each item, in order
abbrev pub program_lines : Program → List (List Token)
program_lines p = item_tokens p.first ∷ map item_tokens p.others

-- the text of a program that stands for all its texts: its lines, each with one space between two tokens
abbrev pub canonical_text : Program → List ℕ
canonical_text p = lines_of (program_lines p)

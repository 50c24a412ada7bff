-- What the parser answers.
use Rattle.std.specs.Prelude.{◌≡◌, List, Some, Result, Ok, Err}
use Rattle.fut_tokens.specs.declared.token.Token.{Token}
use Rattle.fut_syntax.specs.declared.tree.Item.{Item}
use Rattle.fut_syntax.specs.declared.parser.TokenFault.{TokenFault}
use Rattle.fut_syntax.specs.declared.parser.TokenFault.TheVariants as fault
use Rattle.fut_syntax.specs.Trees.{Program}
use Rattle.fut_syntax.specs.Views.{program_tree}
use Rattle.fut_syntax.specs.Faults.{IsFault, IsWhole}

-- the tree of some tokens, the first token that can't come, or want of memory
abbrev pub IsAnswer : List Token → Result (List Item) TokenFault → Type 0
IsAnswer xs (Ok is) = (tree : Program) × (program_tree is ≡ Some tree) × IsWhole xs tree
IsAnswer xs (Err (fault.Syntax left)) = IsFault xs left
IsAnswer xs (Err fault.NoMemory) = Unit {0}

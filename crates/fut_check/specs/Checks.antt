-- What the check of a program answers.
use Rattle.std.specs.Prelude.{◌≡◌, ℕ, ◌<◌, ◌^◌, Bool, true, length, slice_get, Option, Some, None, IsSomeAnd}
use Rattle.fut_tokens.specs.declared.token.Position.{Position}
use Rattle.fut_syntax.specs.declared.tree.Program as declared
use Rattle.fut_syntax.specs.Trees as trees
use Rattle.fut_syntax.specs.Tokens.{program_tokens}
use Rattle.fut_syntax.specs.Views.{program_tree}
use Rattle.fut_rules.specs.declared.fault.Fault.{Fault}
use Rattle.fut_rules.specs.Faults.{rule_number}
use Rattle.fut_check.specs.Numbers.{numbers_fit}
use Rattle.fut_check.specs.Items.{faults_of, IsWellTyped, IsFirstFault}

-- the tree has a place for each of its tokens, and its numbers have 63 bits
pub record HasPlaces (p : declared.Program) : Type 0 where
  pub tree : trees.Program
  pub is : program_tree p.items ≡ Some tree
  pub places : length p.places ≡ length (program_tokens tree)
  pub few : length p.places < 2 ^ 32
  pub numbers : numbers_fit tree ≡ true

-- how many faults a tree has; where there is no tree, that is one
abbrev pub fault_count : Option trees.Program → ℕ
fault_count None = 1
fault_count (Some P) = length (faults_of P)

-- the numbers of a tree have 63 bits, if there is a tree
abbrev pub some_fit : Option trees.Program → Bool
some_fit None = true
some_fit (Some P) = numbers_fit P

-- the tree breaks no rule
abbrev pub IsChecked : declared.Program → Type 0
IsChecked p = IsSomeAnd (program_tree p.items) IsWellTyped

-- the first fault of the tree breaks the rule of this number, and its token stands here
pub record IsFaultOf (p : declared.Program) (number : ℕ) (place : Position) : Type 0 where
  pub tree : trees.Program
  pub is : program_tree p.items ≡ Some tree
  pub fault : Fault
  pub first : IsFirstFault tree fault
  pub rule : number ≡ rule_number fault.rule
  pub stands : slice_get p.places fault.token ≡ Some place

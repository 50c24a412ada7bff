-- Laws over the machine and the grammar.
use Rattle.std.specs.Prelude.{◌≡◌, ℕ, ◌⊎◌, false, List, [], ◌∷◌, Some, Result, Ok, Err}
use Rattle.fut_tokens.specs.declared.token.Token.{Token}
use Rattle.fut_tokens.specs.declared.token.Token.TheVariants as t
use Rattle.fut_syntax.specs.declared.tree.Item.{Item}
use Rattle.fut_syntax.specs.declared.parser.TokenFault.{TokenFault}
use Rattle.fut_syntax.specs.declared.parser.TokenFault.TheVariants as fault
use Rattle.fut_syntax.specs.Trees.{Program}
use Rattle.fut_syntax.specs.Tokens.{program_tokens}
use Rattle.fut_syntax.specs.Views.{program_tree}
use Rattle.fut_syntax.specs.Lines.{program_lines}
use Rattle.fut_tokens.specs.Spelling.{tokens_in_lines, has_scrap}
use Rattle.fut_syntax.specs.Machine.{Symbol, First, walk, run64}
use Rattle.fut_tokens.specs.Ended.{IsEnded}
use Rattle.fut_syntax.specs.Faults.{IsBegun, IsFault, IsWhole}
use Rattle.fut_syntax.specs.Answers.{IsAnswer}

-- what the machine goes through is the beginning of a program, which goes on with simple tokens
abbrev pub Completions : Type 0
Completions = (xs : List Token) (s : List Symbol) → walk (First ∷ []) xs ≡ Some s → IsBegun xs

-- where the run stops is the fault
abbrev pub StopIsFault : Type 0
StopIsFault = (xs : List Token) (left : ℕ) → run64 (First ∷ []) 0 xs ≡ Some left → IsFault xs left

-- a list of tokens has at most one tree
abbrev pub OneTree : Type 0
OneTree = (x y : Program) → program_tokens x ≡ program_tokens y → x ≡ y

-- a list has one fault at most
abbrev pub OneFault : Type 0
OneFault = (xs : List Token) (left other : ℕ) → IsFault xs left → IsFault xs other → left ≡ other

-- a list of tokens with a tree has no fault
abbrev pub NoFault : Type 0
NoFault = (xs : List Token) (p : Program) (left : ℕ) → IsWhole xs p → IsFault xs left → ⊥

-- tokens with an end token have a tree or a fault
abbrev pub EitherOne : Type 0
EitherOne = (xs : List Token) → IsEnded xs → ((p : Program) × IsWhole xs p) ⊎ ((left : ℕ) × IsFault xs left)

-- the lines of a program have its tokens
abbrev pub LinesSpell : Type 0
LinesSpell = (p : Program) → tokens_in_lines (program_lines p) ≡ program_tokens p

-- no program has a scrap
abbrev pub NoScrap : Type 0
NoScrap = (p : Program) → has_scrap (program_tokens p) ≡ false

-- this program was read, or there was no memory
abbrev pub Gives : Program → Result (List Item) TokenFault → Type 0
Gives p (Ok is) = program_tree is ≡ Some p
Gives p (Err (fault.Syntax left)) = ⊥
Gives p (Err fault.NoMemory) = Unit {0}

-- reading what a tree spells gives this tree, unless memory ran out
abbrev pub ReadsAgain : Type 0
ReadsAgain = (p : Program) (r : Result (List Item) TokenFault) → IsWhole (program_tokens p) p → IsAnswer (program_tokens p) r → Gives p r

-- the second operator of an expression is a fault
abbrev pub SecondOperator : Type 0
SecondOperator = (w : List ℕ)
    → IsFault (t.Task ∷ t.Word w ∷ t.LeftParen ∷ t.RightParen ∷ t.Int ∷ t.LeftBrace ∷ t.Return ∷ t.Number 1 ∷ t.Plus ∷ t.Number 1
    ∷ t.Plus ∷ t.Number 1 ∷ t.Semicolon ∷ t.RightBrace ∷ t.End ∷ []) 4

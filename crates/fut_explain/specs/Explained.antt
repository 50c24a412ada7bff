-- What is told of a program text.
use Rattle.std.specs.Prelude.{◌≡◌, ℕ, List, [], ◌∷◌, ◌++◌, length, Ok, codes, decimal, nat_eq, Option, if◌then◌else◌}
use Rattle.fut_tokens.specs.declared.token.Token.{Token}
use Rattle.fut_tokens.specs.declared.token.Position.{Position}
use Rattle.fut_syntax.specs.declared.tree.Program as declared
use Rattle.fut_syntax.specs.Texts.{IsFaultPlace, Parses}
use Rattle.fut_check.specs.Checks.{IsChecked, IsFaultOf}
use Rattle.fut_causes.specs.declared.cause.Cause.{Cause}
use Rattle.fut_causes.specs.Answers.{IsCauseOf}
use Rattle.fut_explain.specs.declared.explained.Verdict.{Verdict}
use Rattle.fut_explain.specs.declared.explained.Verdict.TheVariants as verdict
use Rattle.fut_explain.specs.declared.kind.Kind.{Kind}
use Rattle.fut_explain.specs.declared.mark.Marked.{Marked}
use Rattle.fut_explain.specs.Causes.{cause_text}
use Rattle.fut_explain.specs.Kinds.{all_kinds, kind_name}
use Rattle.fut_explain.specs.Lines.{IsMarked, marked_text}
use Rattle.fut_explain.specs.Standing.{IsBehind, AreStanding}

-- where a fault stands
abbrev pub place_text : Position → List ℕ
place_text place = codes "line " ++ (decimal place.line ++ (codes ", column " ++ decimal place.column))

-- a line with the name of a kind
abbrev pub kind_line : Kind → List ℕ
kind_line k = codes "    " ++ (kind_name k ++ codes "\n")

-- a line for each kind
abbrev pub kind_lines : List Kind → List ℕ
kind_lines [] = []
kind_lines (k ∷ ks) = kind_line k ++ kind_lines ks

-- the first fault of a text that is no program: its place, its line with a mark, and the kinds that can stand there
abbrev pub syntax_text : Position → Marked → List Kind → List ℕ
syntax_text place m found =
    place_text place ++ (codes ": no program goes on so\n" ++ (marked_text m ++ (codes "what can stand here:\n" ++ kind_lines found)))

-- a type rule in words
abbrev pub rule_words : ℕ → List ℕ
rule_words n =
    if nat_eq n 1 then codes "unknown name: no visible variable, array or task of the kind that is due here"
    else (if nat_eq n 2 then codes "doubled name: this name is declared already"
    else (if nat_eq n 3 then codes "wrong number of arguments"
    else (if nat_eq n 4 then codes "a number where a handle is due"
    else (if nat_eq n 5 then codes "a handle where a number is due"
    else (if nat_eq n 6 then codes "the handle has another depth than its place needs, or more than eight fut"
    else (if nat_eq n 7 then codes "array of handles: its length is not from 1 to 64, or an array stands where none is due, or the other way round"
    else (if nat_eq n 8 then codes "the value returned is not of the task's result type, or a task that gives a handle does not end with return"
    else (if nat_eq n 9 then codes "no task is named main"
    else (if nat_eq n 10 then codes "main has parameters"
    else (if nat_eq n 11 then codes "a handle is declared without a value"
    else codes "a limit of cells, tasks, parameters, arguments or slots is exceeded"))))))))))

-- the first fault of a program that breaks a type rule: its place, the rule, its line with a mark, and the types
-- or counts that were found and are due, if they are its cause
abbrev pub type_text : Position → ℕ → Marked → Option Cause → List ℕ
type_text place rule m cause =
    place_text place ++ (codes ": type rule " ++ (decimal rule ++ (codes ": " ++ (rule_words rule ++ (codes "\n" ++ (marked_text m ++ cause_text cause))))))

-- a program that breaks no type rule
abbrev pub clean_text : List ℕ
clean_text = codes "a program that breaks no type rule\n"

-- a text that is no program, and what is told of it: where its first token stands that can't come, and which can
pub record TellsSyntax (text out : List ℕ) : Type 0 where
  pub place : Position
  pub mark : Marked
  pub found : List Kind
  pub fault : IsFaultPlace text place
  pub marked : IsMarked text place mark
  pub standing : (before : List Token) → IsBehind text (length before) before → AreStanding before all_kinds found
  pub is : out ≡ syntax_text place mark found

-- a program that breaks a type rule, and what is told of it: where its first fault stands, which rule that breaks, and by what
-- types or counts
pub record TellsType (text out : List ℕ) : Type 0 where
  pub program : declared.Program
  pub place : Position
  pub rule : ℕ
  pub mark : Marked
  pub cause : Option Cause
  pub parsed : Parses text (Ok program)
  pub fault : IsFaultOf program rule place
  pub marked : IsMarked text place mark
  pub caused : IsCauseOf program rule place cause
  pub is : out ≡ type_text place rule mark cause

-- a program that breaks no type rule, and what is told of it
pub record TellsClean (text out : List ℕ) : Type 0 where
  pub program : declared.Program
  pub parsed : Parses text (Ok program)
  pub checked : IsChecked program
  pub is : out ≡ clean_text

-- what a program text is, and what is told of it
abbrev pub Explains : List ℕ → Verdict → List ℕ → Type 0
Explains text verdict.NoProgram out = TellsSyntax text out
Explains text verdict.IllTyped out = TellsType text out
Explains text verdict.WellTyped out = TellsClean text out

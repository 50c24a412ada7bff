-- The grammar as a machine with a stack, one token at a time.
use Rattle.std.specs.Prelude.{ℕ, Bool, false, List, [], ◌∷◌, ◌++◌, length, Option, Some, None, cond}
use Rattle.fut_tokens.specs.declared.token.Token.{Token}
use Rattle.fut_tokens.specs.declared.token.Token.TheVariants as t
use Rattle.fut_syntax.specs.Trees.{Op, Add, Subtract, Multiply, Divide, Remainder, BitAnd, BitOr, Equal, Unequal, Less, AtMost, Greater, AtLeast}
use Rattle.fut_syntax.specs.Faults.{is_full, open_by}

-- what is still due
pub data Symbol : Type 0 where
  -- items
  First : Symbol
  More : Symbol
  Params : Symbol
  ParamsTail : Symbol
  -- types
  Type' : Symbol
  Length : Symbol
  -- statements
  Block' : Symbol
  Stmts : Symbol
  Else' : Symbol
  VarInit : Symbol
  WordStmt : Symbol
  -- inits
  Init' : Symbol
  InitTail : Symbol
  Args : Symbol
  ArgsTail : Symbol
  -- expressions
  Expr' : Symbol
  ExprTail : Symbol
  Operand' : Symbol
  Primary' : Symbol
  -- single tokens
  Word' : Symbol
  Number' : Symbol
  LeftParen' : Symbol
  RightParen' : Symbol
  LeftSquare' : Symbol
  RightSquare' : Symbol
  Semicolon' : Symbol
  Colon' : Symbol
  Equals' : Symbol

-- what a symbol does at a token: it takes it and leaves other symbols, or it was nothing, or it stops
pub data Answer : Type 0 where
  Takes : List Symbol → Answer
  Passes : Answer
  Stops : Answer

-- an answer, with more due behind what it takes
abbrev pub then_due : Answer → List Symbol → Answer
then_due (Takes s) k = Takes (s ++ k)
then_due Passes k = Passes
then_due Stops k = Stops

-- the rules of the symbols: what each makes of the next token
abbrev pub primary_rule : Token → Answer
primary_rule (t.Word w) = Takes []
primary_rule (t.Number n) = Takes []
primary_rule t.LeftParen = Takes (Expr' ∷ RightParen' ∷ [])
primary_rule _ = Stops

abbrev pub operand_rule : Token → Answer
operand_rule t.Minus = Takes (Primary' ∷ [])
operand_rule t.Bang = Takes (Primary' ∷ [])
operand_rule x = primary_rule x

abbrev pub expr_rule : Token → Answer
expr_rule x = then_due (operand_rule x) (ExprTail ∷ [])

-- the operator that a token is
abbrev pub op_of : Token → Option Op
op_of t.Plus = Some Add
op_of t.Minus = Some Subtract
op_of t.Star = Some Multiply
op_of t.Slash = Some Divide
op_of t.Percent = Some Remainder
op_of t.Ampersand = Some BitAnd
op_of t.Bar = Some BitOr
op_of t.EqualEqual = Some Equal
op_of t.BangEqual = Some Unequal
op_of t.Less = Some Less
op_of t.LessEqual = Some AtMost
op_of t.Greater = Some Greater
op_of t.GreaterEqual = Some AtLeast
op_of _ = None

-- what is due behind an operator
abbrev pub after_op : Option Op → Answer
after_op (Some op) = Takes (Operand' ∷ [])
after_op None = Passes

abbrev pub expr_tail_rule : Token → Answer
expr_tail_rule x = after_op (op_of x)

abbrev pub args_tail_rule : Token → Answer
args_tail_rule t.Comma = Takes (Expr' ∷ ArgsTail ∷ [])
args_tail_rule t.RightParen = Takes []
args_tail_rule _ = Stops

abbrev pub args_rule : Token → Answer
args_rule t.RightParen = Takes []
args_rule x = then_due (expr_rule x) (ArgsTail ∷ [])

abbrev pub init_rule : Token → Answer
init_rule t.Get = Takes (Word' ∷ [])
init_rule t.Create = Takes (Word' ∷ LeftParen' ∷ Args ∷ [])
init_rule (t.Word w) = Takes (InitTail ∷ [])
init_rule x = expr_rule x

abbrev pub init_tail_rule : Token → Answer
init_tail_rule t.LeftSquare = Takes (Expr' ∷ RightSquare' ∷ [])
init_tail_rule x = expr_tail_rule x

abbrev pub type_rule : Token → Answer
type_rule t.Fut = Takes (Type' ∷ [])
type_rule t.Int = Takes []
type_rule _ = Stops

abbrev pub length_rule : Token → Answer
length_rule t.LeftSquare = Takes (Number' ∷ RightSquare' ∷ [])
length_rule _ = Passes

abbrev pub var_init_rule : Token → Answer
var_init_rule t.Equals = Takes (Init' ∷ [])
var_init_rule _ = Passes

abbrev pub word_stmt_rule : Token → Answer
word_stmt_rule t.Equals = Takes (Init' ∷ [])
word_stmt_rule t.LeftSquare = Takes (Expr' ∷ RightSquare' ∷ Equals' ∷ Expr' ∷ [])
word_stmt_rule _ = Stops

abbrev pub stmts_rule : Token → Answer
stmts_rule t.RightBrace = Takes []
stmts_rule t.Var = Takes (Word' ∷ Colon' ∷ Type' ∷ Length ∷ VarInit ∷ Semicolon' ∷ Stmts ∷ [])
stmts_rule (t.Word w) = Takes (WordStmt ∷ Semicolon' ∷ Stmts ∷ [])
stmts_rule t.Spawn = Takes (Word' ∷ LeftParen' ∷ Args ∷ Semicolon' ∷ Stmts ∷ [])
stmts_rule t.Sync = Takes (Semicolon' ∷ Stmts ∷ [])
stmts_rule t.If = Takes (Expr' ∷ Block' ∷ Else' ∷ Stmts ∷ [])
stmts_rule t.While = Takes (Expr' ∷ Block' ∷ Stmts ∷ [])
stmts_rule t.Return = Takes (Expr' ∷ Semicolon' ∷ Stmts ∷ [])
stmts_rule _ = Stops

abbrev pub block_rule : Token → Answer
block_rule t.LeftBrace = Takes (Stmts ∷ [])
block_rule _ = Stops

abbrev pub else_rule : Token → Answer
else_rule t.Else = Takes (Block' ∷ [])
else_rule _ = Passes

abbrev pub params_tail_rule : Token → Answer
params_tail_rule t.Comma = Takes (Word' ∷ Colon' ∷ Type' ∷ Length ∷ ParamsTail ∷ [])
params_tail_rule t.RightParen = Takes []
params_tail_rule _ = Stops

abbrev pub params_rule : Token → Answer
params_rule (t.Word w) = Takes (Colon' ∷ Type' ∷ Length ∷ ParamsTail ∷ [])
params_rule t.RightParen = Takes []
params_rule _ = Stops

abbrev pub first_rule : Token → Answer
first_rule t.Cells = Takes (Word' ∷ LeftSquare' ∷ Number' ∷ RightSquare' ∷ Semicolon' ∷ More ∷ [])
first_rule t.Task = Takes (Word' ∷ LeftParen' ∷ Params ∷ Type' ∷ Block' ∷ More ∷ [])
first_rule _ = Stops

abbrev pub more_rule : Token → Answer
more_rule t.End = Takes []
more_rule x = first_rule x

abbrev pub word_rule : Token → Answer
word_rule (t.Word w) = Takes []
word_rule _ = Stops

abbrev pub number_rule : Token → Answer
number_rule (t.Number n) = Takes []
number_rule _ = Stops

abbrev pub left_paren_rule : Token → Answer
left_paren_rule t.LeftParen = Takes []
left_paren_rule _ = Stops

abbrev pub right_paren_rule : Token → Answer
right_paren_rule t.RightParen = Takes []
right_paren_rule _ = Stops

abbrev pub left_square_rule : Token → Answer
left_square_rule t.LeftSquare = Takes []
left_square_rule _ = Stops

abbrev pub right_square_rule : Token → Answer
right_square_rule t.RightSquare = Takes []
right_square_rule _ = Stops

abbrev pub semicolon_rule : Token → Answer
semicolon_rule t.Semicolon = Takes []
semicolon_rule _ = Stops

abbrev pub colon_rule : Token → Answer
colon_rule t.Colon = Takes []
colon_rule _ = Stops

abbrev pub equals_rule : Token → Answer
equals_rule t.Equals = Takes []
equals_rule _ = Stops

-- what a symbol makes of the next token
abbrev pub rule : Symbol → Token → Answer
rule First x = first_rule x
rule More x = more_rule x
rule Params x = params_rule x
rule ParamsTail x = params_tail_rule x
rule Type' x = type_rule x
rule Length x = length_rule x
rule Block' x = block_rule x
rule Stmts x = stmts_rule x
rule Else' x = else_rule x
rule VarInit x = var_init_rule x
rule WordStmt x = word_stmt_rule x
rule Init' x = init_rule x
rule InitTail x = init_tail_rule x
rule Args x = args_rule x
rule ArgsTail x = args_tail_rule x
rule Expr' x = expr_rule x
rule ExprTail x = expr_tail_rule x
rule Operand' x = operand_rule x
rule Primary' x = primary_rule x
rule Word' x = word_rule x
rule Number' x = number_rule x
rule LeftParen' x = left_paren_rule x
rule RightParen' x = right_paren_rule x
rule LeftSquare' x = left_square_rule x
rule RightSquare' x = right_square_rule x
rule Semicolon' x = semicolon_rule x
rule Colon' x = colon_rule x
rule Equals' x = equals_rule x

-- what is due after a token, where the rest would be due after it so
abbrev pub by_answer : Answer → List Symbol → Option (List Symbol) → Option (List Symbol)
by_answer (Takes s) k passed = Some (s ++ k)
by_answer Passes k passed = passed
by_answer Stops k passed = None

-- what is due after the next token, where it is taken
abbrev pub next : List Symbol → Token → Option (List Symbol)
next [] x = None
next (a ∷ k) x = by_answer (rule a x) k (next k x)

-- goes on where something is due
abbrev pub go_on : Option (List Symbol) → (List Symbol → Option (List Symbol)) → Option (List Symbol)
go_on None f = None
go_on (Some s) f = f s

-- what is due after some tokens
abbrev pub walk : List Symbol → List Token → Option (List Symbol)
walk s [] = Some s
walk s (x ∷ xs) = go_on (next s x) (λ s. walk s xs)

-- The run on tokens: none, or how many tokens are left behind the one where it stops. It stops at a token that can't
-- come, and at one that is full at the count so far; by counts on.
abbrev pub run_on : Option (List Symbol) → Bool → ℕ → (List Symbol → Option ℕ) → Option ℕ
run_on None full left f = Some left
run_on (Some s) full left f = cond full (Some left) (f s)

-- how many tokens are left behind the one where the run stops, or none where it stops nowhere
abbrev pub run : (ℕ → Token → Bool) → (Token → ℕ → ℕ) → List Symbol → ℕ → List Token → Option ℕ
run full by s d [] = None
run full by s d (x ∷ xs) = run_on (next s x) (full d x) (length xs) (λ s. run full by s (by x d) xs)

-- with no more than 64 brackets open
abbrev pub run64 : List Symbol → ℕ → List Token → Option ℕ
run64 s d xs = run is_full open_by s d xs

-- with any brackets
abbrev pub free : List Symbol → List Token → Option ℕ
free s xs = run (λ d x. false) (λ x d. d) s 0 xs

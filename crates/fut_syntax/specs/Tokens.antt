-- The tokens of a tree, in front of other tokens.
use Rattle.std.specs.Prelude.{ℕ, zero, suc, List, [], ◌∷◌, Option, Some, None}
use Rattle.fut_tokens.specs.declared.token.Token.{Token}
use Rattle.fut_tokens.specs.declared.token.Token.TheVariants as t
use Rattle.fut_syntax.specs.Trees.{Sign, NoSign, Negative, Inverted, Op, Add, Subtract, Multiply, Divide, Remainder, BitAnd, BitOr, Equal, Unequal}
use Rattle.fut_syntax.specs.Trees.{Less, AtMost, Greater, AtLeast, Expr, Alone, Pair, Operand, Signed, Primary, Literal, Name, Bracket, Init}
use Rattle.fut_syntax.specs.Trees.{GetOf, CreateOf, Index, Value, VarType, Plain, Array, Stmt, Declare, Define, Assign, Store, SpawnOf, SyncAll}
use Rattle.fut_syntax.specs.Trees.{If', While', Return', Block, Done, Then, Tail, NoElse, ElseOf, Param, Item, CellsOf, TaskOf, Program}

-- the token of an operator
abbrev pub op_token : Op → Token
op_token Add = t.Plus
op_token Subtract = t.Minus
op_token Multiply = t.Star
op_token Divide = t.Slash
op_token Remainder = t.Percent
op_token BitAnd = t.Ampersand
op_token BitOr = t.Bar
op_token Equal = t.EqualEqual
op_token Unequal = t.BangEqual
op_token Less = t.Less
op_token AtMost = t.LessEqual
op_token Greater = t.Greater
op_token AtLeast = t.GreaterEqual

-- the tokens of a sign, and those behind it
abbrev pub sign_before : Sign → List Token → List Token
sign_before NoSign r = r
sign_before Negative r = t.Minus ∷ r
sign_before Inverted r = t.Bang ∷ r

-- the tokens of an expression, and those behind them
abbrev mutual
  pub expr_before : Expr → List Token → List Token
  expr_before (Alone x) r = operand_before x r
  expr_before (Pair x op y) r = operand_before x (op_token op ∷ operand_before y r)

  pub operand_before : Operand → List Token → List Token
  operand_before (Signed s p) r = sign_before s (primary_before p r)

  pub primary_before : Primary → List Token → List Token
  primary_before (Literal n) r = t.Number n ∷ r
  primary_before (Name w) r = t.Word w ∷ r
  primary_before (Bracket e) r = t.LeftParen ∷ expr_before e (t.RightParen ∷ r)

-- arguments after the first, and the closing bracket
abbrev pub more_before : List Expr → List Token → List Token
more_before [] r = t.RightParen ∷ r
more_before (e ∷ es) r = t.Comma ∷ expr_before e (more_before es r)

-- arguments and the closing bracket
abbrev pub args_before : List Expr → List Token → List Token
args_before [] r = t.RightParen ∷ r
args_before (e ∷ es) r = expr_before e (more_before es r)

-- a called word and its arguments in brackets
abbrev pub call_before : List ℕ → List Expr → List Token → List Token
call_before w es r = t.Word w ∷ t.LeftParen ∷ args_before es r

-- the tokens of what a variable is set to, and those behind them
abbrev pub init_before : Init → List Token → List Token
init_before (GetOf w) r = t.Get ∷ t.Word w ∷ r
init_before (CreateOf w es) r = t.Create ∷ call_before w es r
init_before (Index w e) r = t.Word w ∷ t.LeftSquare ∷ expr_before e (t.RightSquare ∷ r)
init_before (Value e) r = expr_before e r

-- `int` behind so many `fut`
abbrev pub type_before : ℕ → List Token → List Token
type_before zero r = t.Int ∷ r
type_before (suc d) r = t.Fut ∷ type_before d r

-- the length of an array in its brackets, if there is one
abbrev pub length_before : Option ℕ → List Token → List Token
length_before None r = r
length_before (Some n) r = t.LeftSquare ∷ t.Number n ∷ t.RightSquare ∷ r

-- the tokens of a type, and those behind them
abbrev pub var_type_before : VarType → List Token → List Token
var_type_before (Plain d) r = type_before d r
var_type_before (Array d n) r = type_before d (t.LeftSquare ∷ t.Number n ∷ t.RightSquare ∷ r)

-- what a variable is set to where it is declared, if anything
abbrev pub var_init_before : Option Init → List Token → List Token
var_init_before None r = r
var_init_before (Some i) r = t.Equals ∷ init_before i r

-- the tokens of a statement, a block or another branch, and those behind them
abbrev mutual
  pub stmt_before : Stmt → List Token → List Token
  stmt_before (Declare w v) r = t.Var ∷ t.Word w ∷ t.Colon ∷ var_type_before v (t.Semicolon ∷ r)
  stmt_before (Define w v i) r = t.Var ∷ t.Word w ∷ t.Colon ∷ var_type_before v (t.Equals ∷ init_before i (t.Semicolon ∷ r))
  stmt_before (Assign w i) r = t.Word w ∷ t.Equals ∷ init_before i (t.Semicolon ∷ r)
  stmt_before (Store w e f) r = t.Word w ∷ t.LeftSquare ∷ expr_before e (t.RightSquare ∷ t.Equals ∷ expr_before f (t.Semicolon ∷ r))
  stmt_before (SpawnOf w es) r = t.Spawn ∷ call_before w es (t.Semicolon ∷ r)
  stmt_before SyncAll r = t.Sync ∷ t.Semicolon ∷ r
  stmt_before (If' e b o) r = t.If ∷ expr_before e (t.LeftBrace ∷ block_before b (tail_before o r))
  stmt_before (While' e b) r = t.While ∷ expr_before e (t.LeftBrace ∷ block_before b r)
  stmt_before (Return' e) r = t.Return ∷ expr_before e (t.Semicolon ∷ r)

  -- the statements of a block and its closing bracket
  pub block_before : Block → List Token → List Token
  block_before Done r = t.RightBrace ∷ r
  block_before (Then s b) r = stmt_before s (block_before b r)

  pub tail_before : Tail → List Token → List Token
  tail_before NoElse r = r
  tail_before (ElseOf b) r = t.Else ∷ t.LeftBrace ∷ block_before b r

-- the tokens of a parameter, and those behind them
abbrev pub param_before : Param → List Token → List Token
param_before p r = t.Word p.name ∷ t.Colon ∷ var_type_before p.type r

-- parameters after the first, and the closing bracket
abbrev pub more_params_before : List Param → List Token → List Token
more_params_before [] r = t.RightParen ∷ r
more_params_before (p ∷ ps) r = t.Comma ∷ param_before p (more_params_before ps r)

-- parameters and the closing bracket
abbrev pub params_before : List Param → List Token → List Token
params_before [] r = t.RightParen ∷ r
params_before (p ∷ ps) r = param_before p (more_params_before ps r)

-- the tokens of an item, and those behind them
abbrev pub item_before : Item → List Token → List Token
item_before (CellsOf w n) r = t.Cells ∷ t.Word w ∷ t.LeftSquare ∷ t.Number n ∷ t.RightSquare ∷ t.Semicolon ∷ r
item_before (TaskOf w ps d b) r = t.Task ∷ t.Word w ∷ t.LeftParen ∷ params_before ps (type_before d (t.LeftBrace ∷ block_before b r))

-- items and the end token
abbrev pub items_before : List Item → List Token → List Token
items_before [] r = t.End ∷ r
items_before (i ∷ is) r = item_before i (items_before is r)

-- the tokens of a program, and those behind them
abbrev pub program_before : Program → List Token → List Token
program_before p r = item_before p.first (items_before p.others r)

-- the tokens of a program, the end token included
abbrev pub program_tokens : Program → List Token
program_tokens p = program_before p []

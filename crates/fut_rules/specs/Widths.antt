-- How many tokens the parts of a program have.
use Rattle.std.specs.Prelude.{ℕ, ◌+◌, List, [], ◌∷◌}
use Rattle.fut_syntax.specs.Trees.{Sign, NoSign, Negative, Inverted, Expr, Alone, Pair, Operand, Signed, Primary, Literal, Name, Bracket}
use Rattle.fut_syntax.specs.Trees.{Init, GetOf, CreateOf, Index, Value, VarType, Plain, Array, Stmt, Declare, Define, Assign, Store, SpawnOf}
use Rattle.fut_syntax.specs.Trees.{SyncAll, If', While', Return', Block, Done, Then, Tail, NoElse, ElseOf, Param, Item, CellsOf, TaskOf}

-- of a sign
abbrev pub sign_width : Sign → ℕ
sign_width NoSign = 0
sign_width Negative = 1
sign_width Inverted = 1

-- of an expression and its parts
abbrev mutual
  pub expr_width : Expr → ℕ
  expr_width (Alone x) = operand_width x
  expr_width (Pair x o y) = operand_width x + 1 + operand_width y

  pub operand_width : Operand → ℕ
  operand_width (Signed s p) = sign_width s + primary_width p

  pub primary_width : Primary → ℕ
  primary_width (Literal n) = 1
  primary_width (Name w) = 1
  primary_width (Bracket e) = 1 + expr_width e + 1

-- expressions, each with a comma or the closing bracket behind it
abbrev pub each_width : List Expr → ℕ
each_width [] = 0
each_width (e ∷ es) = expr_width e + 1 + each_width es

-- arguments and the closing bracket
abbrev pub args_width : List Expr → ℕ
args_width [] = 1
args_width (e ∷ es) = each_width (e ∷ es)

-- a called word and its arguments in brackets
abbrev pub call_width : List Expr → ℕ
call_width es = 2 + args_width es

-- of what a variable is set to
abbrev pub init_width : Init → ℕ
init_width (GetOf w) = 2
init_width (CreateOf w es) = 1 + call_width es
init_width (Index w e) = 2 + expr_width e + 1
init_width (Value e) = expr_width e

-- of a type
abbrev pub type_width : VarType → ℕ
type_width (Plain d) = d + 1
type_width (Array d n) = d + 4

-- of a statement, a block and another branch
abbrev mutual
  pub stmt_width : Stmt → ℕ
  stmt_width (Declare w v) = 3 + type_width v + 1
  stmt_width (Define w v i) = 3 + type_width v + 1 + init_width i + 1
  stmt_width (Assign w i) = 2 + init_width i + 1
  stmt_width (Store w e f) = 2 + expr_width e + 2 + expr_width f + 1
  stmt_width (SpawnOf w es) = 1 + call_width es + 1
  stmt_width SyncAll = 2
  stmt_width (If' e b o) = 1 + expr_width e + 1 + block_width b + 1 + tail_width o
  stmt_width (While' e b) = 1 + expr_width e + 1 + block_width b + 1
  stmt_width (Return' e) = 1 + expr_width e + 1

  -- the statements of a block, without its brackets
  pub block_width : Block → ℕ
  block_width Done = 0
  block_width (Then s b) = stmt_width s + block_width b

  pub tail_width : Tail → ℕ
  tail_width NoElse = 0
  tail_width (ElseOf b) = 2 + block_width b + 1

-- a parameter and the comma or the closing bracket behind it
abbrev pub param_width : Param → ℕ
param_width p = 2 + type_width p.type + 1

-- of parameters, without their commas
abbrev pub each_param_width : List Param → ℕ
each_param_width [] = 0
each_param_width (p ∷ ps) = param_width p + each_param_width ps

-- parameters and the closing bracket
abbrev pub params_width : List Param → ℕ
params_width [] = 1
params_width (p ∷ ps) = each_param_width (p ∷ ps)

-- of an item
abbrev pub item_width : Item → ℕ
item_width (CellsOf w n) = 6
item_width (TaskOf w ps d b) = 3 + params_width ps + d + 2 + block_width b + 1

-- of items
abbrev pub items_width : List Item → ℕ
items_width [] = 0
items_width (i ∷ is) = item_width i + items_width is

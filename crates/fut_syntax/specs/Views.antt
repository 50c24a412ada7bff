-- The tree that a value of the code is.
use Rattle.std.specs.Prelude.{ℕ, List, [], ◌∷◌, map, Option, Some, None}
use Rattle.fut_syntax.specs.declared.tree.Sign.TheVariants as s
use Rattle.fut_syntax.specs.declared.tree.Sign.{Sign}
use Rattle.fut_syntax.specs.declared.tree.Operator.TheVariants as op
use Rattle.fut_syntax.specs.declared.tree.Operator.{Operator}
use Rattle.fut_syntax.specs.declared.tree.Expr.{Expr, Alone, Pair}
use Rattle.fut_syntax.specs.declared.tree.Operand.{Operand, Signed}
use Rattle.fut_syntax.specs.declared.tree.Primary.{Primary, Number, Word, Bracket', more_of-Expr}
use Rattle.fut_syntax.specs.declared.tree.Init.TheVariants as init
use Rattle.fut_syntax.specs.declared.tree.Init.{Init}
use Rattle.fut_syntax.specs.declared.tree.VarType.TheVariants as kind
use Rattle.fut_syntax.specs.declared.tree.VarType.{VarType}
use Rattle.fut_syntax.specs.declared.tree.Stmt.{Stmt, Declare, Define, Assign, Store, Spawn, Sync, If', While', Return, Row_of-Stmt, end_of-Stmt, more_of-Stmt}
use Rattle.fut_syntax.specs.declared.tree.Tail.{Tail, Else'}
use Rattle.fut_syntax.specs.declared.tree.Tail as tail
use Rattle.fut_syntax.specs.declared.tree.Param.{Param}
use Rattle.fut_syntax.specs.declared.tree.Item.TheVariants as item
use Rattle.fut_syntax.specs.declared.tree.Item.{Item}
use Rattle.fut_syntax.specs.declared.inits.Called.{Called}
use Rattle.fut_syntax.specs.Trees as trees

-- a sign, as a definition sees it
abbrev pub sign_tree : Sign → trees.Sign
sign_tree s.None = trees.NoSign
sign_tree s.Negative = trees.Negative
sign_tree s.Inverted = trees.Inverted

-- an operator, as a definition sees it
abbrev pub op_tree : Operator → trees.Op
op_tree op.Add = trees.Add
op_tree op.Subtract = trees.Subtract
op_tree op.Multiply = trees.Multiply
op_tree op.Divide = trees.Divide
op_tree op.Remainder = trees.Remainder
op_tree op.BitAnd = trees.BitAnd
op_tree op.BitOr = trees.BitOr
op_tree op.Equal = trees.Equal
op_tree op.Unequal = trees.Unequal
op_tree op.Less = trees.Less
op_tree op.AtMost = trees.AtMost
op_tree op.Greater = trees.Greater
op_tree op.AtLeast = trees.AtLeast

-- an expression and its parts, as a definition sees them
abbrev mutual
  pub expr_tree : Expr → trees.Expr
  expr_tree (Alone o) = trees.Alone (operand_tree o)
  expr_tree (Pair x o y) = trees.Pair (operand_tree x) (op_tree o) (operand_tree y)

  pub operand_tree : Operand → trees.Operand
  operand_tree (Signed s p) = trees.Signed (sign_tree s) (primary_tree p)

  pub primary_tree : Primary → trees.Primary
  primary_tree (Number n) = trees.Literal n
  primary_tree (Word w) = trees.Name w
  primary_tree (Bracket' p (more_of-Expr e _)) = trees.Bracket (expr_tree e)

-- arguments, as a definition sees them
abbrev pub args_tree : List Expr → List trees.Expr
args_tree es = map expr_tree es

-- a called word and its arguments
abbrev pub call_tree : Called → (List ℕ × List trees.Expr)
call_tree c = (c.name, args_tree c.given)

-- what a variable is set to, as a definition sees it
abbrev pub init_tree : Init → trees.Init
init_tree (init.Get w) = trees.GetOf w
init_tree (init.Create w es) = trees.CreateOf w (args_tree es)
init_tree (init.Index w e) = trees.Index w (expr_tree e)
init_tree (init.Value e) = trees.Value (expr_tree e)

-- the same, where the variable is set
abbrev pub var_init_tree : Option Init → Option trees.Init
var_init_tree None = None
var_init_tree (Some i) = Some (init_tree i)

-- a type, as a definition sees it
abbrev pub type_tree : VarType → trees.VarType
type_tree (kind.Plain d) = trees.Plain d
type_tree (kind.Array d n) = trees.Array d n

-- a statement and its parts, as a definition sees them
abbrev mutual
  pub stmt_tree : Stmt → trees.Stmt
  stmt_tree (Declare w v) = trees.Declare w (type_tree v)
  stmt_tree (Define w v i) = trees.Define w (type_tree v) (init_tree i)
  stmt_tree (Assign w i) = trees.Assign w (init_tree i)
  stmt_tree (Store w e f) = trees.Store w (expr_tree e) (expr_tree f)
  stmt_tree (Spawn w es) = trees.SpawnOf w (args_tree es)
  stmt_tree Sync = trees.SyncAll
  stmt_tree (If' e shape b o) = trees.If' (expr_tree e) (row_tree b) (tail_tree o)
  stmt_tree (While' e shape b) = trees.While' (expr_tree e) (row_tree b)
  stmt_tree (Return e) = trees.Return' (expr_tree e)

  pub row_tree : {m : _} → Row_of-Stmt m → trees.Block
  row_tree end_of-Stmt = trees.Done
  row_tree (more_of-Stmt s rest) = trees.Then (stmt_tree s) (row_tree rest)

  pub tail_tree : Tail → trees.Tail
  tail_tree tail.None = trees.NoElse
  tail_tree (Else' shape b) = trees.ElseOf (row_tree b)

-- a block, as a definition sees it
abbrev pub block_tree : List Stmt → trees.Block
block_tree [] = trees.Done
block_tree (s ∷ b) = trees.Then (stmt_tree s) (block_tree b)

-- statements in front of others
abbrev pub joined : List Stmt → trees.Block → trees.Block
joined [] rest = rest
joined (s ∷ b) rest = trees.Then (stmt_tree s) (joined b rest)

-- a parameter, as a definition sees it
abbrev pub param_tree : Param → trees.Param
param_tree p = record { name = p.name; type = type_tree p.kind }

-- parameters, as a definition sees them
abbrev pub params_tree : List Param → List trees.Param
params_tree ps = map param_tree ps

-- an item, as a definition sees it
abbrev pub item_tree : Item → trees.Item
item_tree (item.Cells w n) = trees.CellsOf w n
item_tree (item.Task w ps d b) = trees.TaskOf w (params_tree ps) d (block_tree b)

-- items, as a definition sees them
abbrev pub items_tree : List Item → List trees.Item
items_tree is = map item_tree is

-- the tree of some items, of which there is one
abbrev pub program_tree : List Item → Option trees.Program
program_tree [] = None
program_tree (i ∷ is) = Some (record { first = item_tree i; others = items_tree is })

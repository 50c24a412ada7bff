-- Whether the numbers of a program have 63 bits, as those of each text have.
use Rattle.std.specs.Prelude.{Bool, true, ◌&&◌, nat_le, List, [], ◌∷◌}
use Rattle.fut_syntax.specs.Trees.{Expr, Alone, Pair, Operand, Signed, Primary, Literal, Name, Bracket, Init, GetOf}
use Rattle.fut_syntax.specs.Trees.{CreateOf, Index, Value, Stmt, Declare, Define, Assign, Store, SpawnOf, SyncAll, If'}
use Rattle.fut_syntax.specs.Trees.{While', Return', Block, Done, Then, Tail, NoElse, ElseOf, Item, CellsOf, TaskOf, Program}
use Rattle.fut_check.specs.Items.{items_of}

-- the numbers of an expression fit
abbrev mutual
  pub expr_fits : Expr → Bool
  expr_fits (Alone x) = operand_fits x
  expr_fits (Pair x o y) = operand_fits x && operand_fits y

  pub operand_fits : Operand → Bool
  operand_fits (Signed s p) = primary_fits p

  pub primary_fits : Primary → Bool
  primary_fits (Literal n) = nat_le n 9223372036854775807
  primary_fits (Name w) = true
  primary_fits (Bracket e) = expr_fits e

-- so do those of each
abbrev pub each_fits : List Expr → Bool
each_fits [] = true
each_fits (e ∷ es) = expr_fits e && each_fits es

-- so do those of what a variable is set to
abbrev pub init_fits : Init → Bool
init_fits (GetOf w) = true
init_fits (CreateOf w es) = each_fits es
init_fits (Index w e) = expr_fits e
init_fits (Value e) = expr_fits e

-- so do those of a statement, a block and another branch
abbrev mutual
  pub stmt_fits : Stmt → Bool
  stmt_fits (Declare w v) = true
  stmt_fits (Define w v i) = init_fits i
  stmt_fits (Assign w i) = init_fits i
  stmt_fits (Store w e f) = expr_fits e && expr_fits f
  stmt_fits (SpawnOf w es) = each_fits es
  stmt_fits SyncAll = true
  stmt_fits (If' e b o) = expr_fits e && block_fits b && tail_fits o
  stmt_fits (While' e b) = expr_fits e && block_fits b
  stmt_fits (Return' e) = expr_fits e

  pub block_fits : Block → Bool
  block_fits Done = true
  block_fits (Then s b) = stmt_fits s && block_fits b

  pub tail_fits : Tail → Bool
  tail_fits NoElse = true
  tail_fits (ElseOf b) = block_fits b

-- the numbers in the bodies of the tasks among some items
abbrev pub items_fit : List Item → Bool
items_fit [] = true
items_fit (CellsOf w n ∷ is) = items_fit is
items_fit (TaskOf w ps d b ∷ is) = block_fits b && items_fit is

-- each number that the tasks of a program compute with is below 2^63
abbrev pub numbers_fit : Program → Bool
numbers_fit P = items_fit (items_of P)

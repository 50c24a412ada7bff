-- The widths of trees are the numbers of their tokens.
use Rattle.std.proofs.Common.{◌≡◌, ℕ, zero, suc, ◌+◌, List, [], ◌∷◌, length, arith}
use Rattle.fut_tokens.specs.declared.token.Token.{Token}
use Rattle.fut_syntax.specs.Trees.{Sign, NoSign, Negative, Inverted, Expr, Alone, Pair, Operand, Signed, Primary, Literal, Name, Bracket, Init}
use Rattle.fut_syntax.specs.Trees.{GetOf, CreateOf, Index, Value, VarType, Plain, Array, Stmt, Declare, Define, Assign, Store, SpawnOf, SyncAll}
use Rattle.fut_syntax.specs.Trees.{If', While', Return', Block, Done, Then, Tail, NoElse, ElseOf, Param, Item, CellsOf, TaskOf, Program}
use Rattle.fut_syntax.specs.Tokens.{op_token, sign_before, expr_before, operand_before, primary_before, more_before, args_before}
use Rattle.fut_syntax.specs.Tokens.{init_before, type_before, var_type_before, stmt_before, block_before, tail_before, param_before}
use Rattle.fut_syntax.specs.Tokens.{more_params_before, params_before, item_before, items_before, program_before}
use Rattle.fut_tokens.specs.declared.token.Token.TheVariants as t
use Rattle.fut_rules.specs.Widths.{sign_width, expr_width, operand_width, primary_width, each_width, args_width, init_width, type_width}
use Rattle.fut_rules.specs.Widths.{stmt_width, block_width, tail_width, each_param_width, params_width, item_width, items_width}
use Rattle.fut_check.specs.Items.{items_of}

sign_tokens : (s : Sign) (r : List Token) → length (sign_before s r) ≡ sign_width s + length r
sign_tokens NoSign r = omega arith
sign_tokens Negative r = omega arith
sign_tokens Inverted r = omega arith

mutual
  expr_tokens : (e : Expr) (r : List Token) → length (expr_before e r) ≡ expr_width e + length r
  expr_tokens (Alone x) r = operand_tokens x r
  expr_tokens (Pair x o y) r = omega (arith, operand_tokens x (op_token o ∷ operand_before y r), operand_tokens y r)

  operand_tokens : (x : Operand) (r : List Token) → length (operand_before x r) ≡ operand_width x + length r
  operand_tokens (Signed s p) r = omega (arith, sign_tokens s (primary_before p r), primary_tokens p r)

  primary_tokens : (p : Primary) (r : List Token) → length (primary_before p r) ≡ primary_width p + length r
  primary_tokens (Literal n) r = omega arith
  primary_tokens (Name w) r = omega arith
  primary_tokens (Bracket e) r = omega (arith, expr_tokens e (t.RightParen ∷ r))

more_tokens : (e : Expr) (es : List Expr) (r : List Token) → length (expr_before e (more_before es r)) ≡ each_width (e ∷ es) + length r
more_tokens e [] r = omega (arith, expr_tokens e (t.RightParen ∷ r))
more_tokens e (f ∷ es) r = omega (arith, expr_tokens e (t.Comma ∷ expr_before f (more_before es r)), more_tokens f es r)

args_tokens : (es : List Expr) (r : List Token) → length (args_before es r) ≡ args_width es + length r
args_tokens [] r = omega arith
args_tokens (e ∷ es) r = more_tokens e es r

init_tokens : (i : Init) (r : List Token) → length (init_before i r) ≡ init_width i + length r
init_tokens (GetOf w) r = omega arith
init_tokens (CreateOf w es) r = omega (arith, args_tokens es r)
init_tokens (Index w e) r = omega (arith, expr_tokens e (t.RightSquare ∷ r))
init_tokens (Value e) r = expr_tokens e r

type_tokens : (d : ℕ) (r : List Token) → length (type_before d r) ≡ d + 1 + length r
type_tokens zero r = omega arith
type_tokens (suc d) r = omega (arith, type_tokens d r)

var_type_tokens : (v : VarType) (r : List Token) → length (var_type_before v r) ≡ type_width v + length r
var_type_tokens (Plain d) r = type_tokens d r
var_type_tokens (Array d n) r = omega (arith, type_tokens d (t.LeftSquare ∷ t.Number n ∷ t.RightSquare ∷ r))

mutual
  stmt_tokens : (s : Stmt) (r : List Token) → length (stmt_before s r) ≡ stmt_width s + length r
  stmt_tokens (Declare w v) r = omega (arith, var_type_tokens v (t.Semicolon ∷ r))
  stmt_tokens (Define w v i) r = omega (arith, var_type_tokens v (t.Equals ∷ init_before i (t.Semicolon ∷ r)), init_tokens i (t.Semicolon ∷ r))
  stmt_tokens (Assign w i) r = omega (arith, init_tokens i (t.Semicolon ∷ r))
  stmt_tokens (Store w e f) r = omega (arith, expr_tokens e (t.RightSquare ∷ t.Equals ∷ expr_before f (t.Semicolon ∷ r)), expr_tokens f (t.Semicolon ∷ r))
  stmt_tokens (SpawnOf w es) r = omega (arith, args_tokens es (t.Semicolon ∷ r))
  stmt_tokens SyncAll r = omega arith
  stmt_tokens (If' e b o) r = omega (arith, expr_tokens e (t.LeftBrace ∷ block_before b (tail_before o r)), block_tokens b (tail_before o r), tail_tokens o r)
  stmt_tokens (While' e b) r = omega (arith, expr_tokens e (t.LeftBrace ∷ block_before b r), block_tokens b r)
  stmt_tokens (Return' e) r = omega (arith, expr_tokens e (t.Semicolon ∷ r))

  block_tokens : (b : Block) (r : List Token) → length (block_before b r) ≡ block_width b + 1 + length r
  block_tokens Done r = omega arith
  block_tokens (Then s b) r = omega (arith, stmt_tokens s (block_before b r), block_tokens b r)

  tail_tokens : (o : Tail) (r : List Token) → length (tail_before o r) ≡ tail_width o + length r
  tail_tokens NoElse r = omega arith
  tail_tokens (ElseOf b) r = omega (arith, block_tokens b r)

more_params_tokens : (p : Param) (ps : List Param) (r : List Token) → length (param_before p (more_params_before ps r)) ≡ each_param_width (p ∷ ps) + length r
more_params_tokens p [] r = omega (arith, var_type_tokens p.type (t.RightParen ∷ r))
more_params_tokens p (q ∷ ps) r = omega (arith, var_type_tokens p.type (t.Comma ∷ param_before q (more_params_before ps r)), more_params_tokens q ps r)

params_tokens : (ps : List Param) (r : List Token) → length (params_before ps r) ≡ params_width ps + length r
params_tokens [] r = omega arith
params_tokens (p ∷ ps) r = more_params_tokens p ps r

item_tokens : (i : Item) (r : List Token) → length (item_before i r) ≡ item_width i + length r
item_tokens (CellsOf w n) r = omega arith
item_tokens (TaskOf w ps d b) r =
    omega (arith, params_tokens ps (type_before d (t.LeftBrace ∷ block_before b r)), type_tokens d (t.LeftBrace ∷ block_before b r), block_tokens b r)

items_tokens : (is : List Item) (r : List Token) → length (items_before is r) ≡ items_width is + 1 + length r
items_tokens [] r = omega arith
items_tokens (i ∷ is) r = omega (arith, item_tokens i (items_before is r), items_tokens is r)

-- a program has as many tokens as its items, and the end token
pub program_width : (P : Program) → length (program_before P []) ≡ items_width (items_of P) + 1
program_width P = omega (arith, item_tokens P.first (items_before P.others []), items_tokens P.others [])

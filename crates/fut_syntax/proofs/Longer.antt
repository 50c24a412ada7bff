-- A part has tokens of its own.
use Rattle.std.proofs.Common.{ℕ, zero, suc, ◌<◌, ◌≤◌, List, [], ◌∷◌, length, arith}
use Rattle.fut_tokens.specs.declared.token.Token.{Token}
use Rattle.fut_tokens.specs.declared.token.Token.TheVariants as t
use Rattle.fut_syntax.specs.Trees.{Sign, NoSign, Negative, Inverted, Expr, Alone, Pair, Operand, Signed, Primary, Literal, Name, Bracket}
use Rattle.fut_syntax.specs.Trees.{Init, GetOf, CreateOf, Index, Value, VarType, Plain, Array, Stmt, Declare, Define, Assign, Store, SpawnOf}
use Rattle.fut_syntax.specs.Trees.{SyncAll, If', While', Return', Block, Done, Then, Tail, NoElse, ElseOf, Param, Item, CellsOf, TaskOf}
use Rattle.fut_syntax.specs.Tokens.{op_token, sign_before, expr_before, operand_before, primary_before, more_before, args_before, init_before, type_before}
use Rattle.fut_syntax.specs.Tokens.{var_type_before, stmt_before, block_before, tail_before, param_before, params_before, more_params_before, item_before}

sign_longer : (s : Sign) (r : List Token) → length r ≤ length (sign_before s r)
sign_longer NoSign r = omega arith
sign_longer Negative r = omega arith
sign_longer Inverted r = omega arith

mutual
  pub expr_longer : (e : Expr) (r : List Token) → length r ≤ length (expr_before e r)
  expr_longer (Alone o) r = operand_longer o r
  expr_longer (Pair o op y) r =
      let a = operand_longer o (op_token op ∷ operand_before y r) in
      let b = operand_longer y r in omega arith

  pub operand_longer : (o : Operand) (r : List Token) → length r ≤ length (operand_before o r)
  operand_longer (Signed s p) r =
      let a = sign_longer s (primary_before p r) in
      let b = primary_longer p r in omega arith

  primary_longer : (p : Primary) (r : List Token) → length r ≤ length (primary_before p r)
  primary_longer (Literal n) r = omega arith
  primary_longer (Name w) r = omega arith
  primary_longer (Bracket e) r = let a = expr_longer e (t.RightParen ∷ r) in omega arith

more_longer : (es : List Expr) (r : List Token) → length r ≤ length (more_before es r)
more_longer [] r = omega arith
more_longer (e ∷ es) r = let a = expr_longer e (more_before es r) in let b = more_longer es r in omega arith

args_longer : (es : List Expr) (r : List Token) → length r ≤ length (args_before es r)
args_longer [] r = omega arith
args_longer (e ∷ es) r = let a = expr_longer e (more_before es r) in let b = more_longer es r in omega arith

init_longer : (i : Init) (r : List Token) → length r ≤ length (init_before i r)
init_longer (GetOf w) r = omega arith
init_longer (CreateOf w es) r = let a = args_longer es r in omega arith
init_longer (Index w e) r = let a = expr_longer e (t.RightSquare ∷ r) in omega arith
init_longer (Value e) r = expr_longer e r

type_longer : (d : ℕ) (r : List Token) → length r < length (type_before d r)
type_longer zero r = omega arith
type_longer (suc d) r = let a = type_longer d r in omega arith

var_type_longer : (v : VarType) (r : List Token) → length r < length (var_type_before v r)
var_type_longer (Plain d) r = type_longer d r
var_type_longer (Array d n) r = let a = type_longer d (t.LeftSquare ∷ t.Number n ∷ t.RightSquare ∷ r) in omega arith

pub param_longer : (p : Param) (r : List Token) → length r < length (param_before p r)
param_longer p r = let a = var_type_longer p.type r in omega arith

more_params_longer : (ps : List Param) (r : List Token) → length r ≤ length (more_params_before ps r)
more_params_longer [] r = omega arith
more_params_longer (p ∷ ps) r = let a = param_longer p (more_params_before ps r) in let b = more_params_longer ps r in omega arith

params_longer : (ps : List Param) (r : List Token) → length r ≤ length (params_before ps r)
params_longer [] r = omega arith
params_longer (p ∷ ps) r = let a = param_longer p (more_params_before ps r) in let b = more_params_longer ps r in omega arith

mutual
  pub stmt_longer : (s : Stmt) (r : List Token) → length r < length (stmt_before s r)
  stmt_longer (Declare w v) r = let a = var_type_longer v (t.Semicolon ∷ r) in omega arith
  stmt_longer (Define w v i) r =
      let a = var_type_longer v (t.Equals ∷ init_before i (t.Semicolon ∷ r)) in
      let b = init_longer i (t.Semicolon ∷ r) in omega arith
  stmt_longer (Assign w i) r = let a = init_longer i (t.Semicolon ∷ r) in omega arith
  stmt_longer (Store w e f) r =
      let a = expr_longer e (t.RightSquare ∷ t.Equals ∷ expr_before f (t.Semicolon ∷ r)) in
      let b = expr_longer f (t.Semicolon ∷ r) in omega arith
  stmt_longer (SpawnOf w es) r = let a = args_longer es (t.Semicolon ∷ r) in omega arith
  stmt_longer SyncAll r = omega arith
  stmt_longer (If' e b o) r =
      let a = expr_longer e (t.LeftBrace ∷ block_before b (tail_before o r)) in
      let h = block_longer b (tail_before o r) in
      let k = tail_longer o r in omega arith
  stmt_longer (While' e b) r =
      let a = expr_longer e (t.LeftBrace ∷ block_before b r) in
      let h = block_longer b r in omega arith
  stmt_longer (Return' e) r = let a = expr_longer e (t.Semicolon ∷ r) in omega arith

  block_longer : (b : Block) (r : List Token) → length r < length (block_before b r)
  block_longer Done r = omega arith
  block_longer (Then s b) r = let a = stmt_longer s (block_before b r) in let h = block_longer b r in omega arith

  tail_longer : (o : Tail) (r : List Token) → length r ≤ length (tail_before o r)
  tail_longer NoElse r = omega arith
  tail_longer (ElseOf b) r = let h = block_longer b r in omega arith

pub item_longer : (i : Item) (r : List Token) → length r < length (item_before i r)
item_longer (CellsOf w n) r = omega arith
item_longer (TaskOf w ps d b) r =
    let a = params_longer ps (type_before d (t.LeftBrace ∷ block_before b r)) in
    let g = type_longer d (t.LeftBrace ∷ block_before b r) in
    let h = block_longer b r in omega arith

-- No program has a scrap.
use Rattle.std.proofs.Common.{◌≡◌, ℕ, zero, suc, false, List, [], ◌∷◌, refl, ap, ◌∙◌}
use Rattle.std.specs.Prelude.{◌||◌}
use Rattle.fut_tokens.specs.declared.token.Token.{Token}
use Rattle.fut_tokens.specs.declared.token.Token.TheVariants as t
use Rattle.fut_syntax.specs.Trees.{Sign, NoSign, Negative, Inverted, Op, Add, Subtract, Multiply, Divide, Remainder, BitAnd, BitOr, Equal, Unequal}
use Rattle.fut_syntax.specs.Trees.{Less, AtMost, Greater, AtLeast, Expr, Alone, Pair, Operand, Signed, Primary, Literal, Name, Bracket, Init}
use Rattle.fut_syntax.specs.Trees.{GetOf, CreateOf, Index, Value, VarType, Plain, Array, Stmt, Declare, Define, Assign, Store, SpawnOf, SyncAll}
use Rattle.fut_syntax.specs.Trees.{If', While', Return', Block, Done, Then, Tail, NoElse, ElseOf, Param, Item, CellsOf, TaskOf, Program}
use Rattle.fut_syntax.specs.Tokens.{op_token, sign_before, expr_before, operand_before, primary_before, more_before}
use Rattle.fut_syntax.specs.Tokens.{args_before, init_before, type_before, var_type_before, stmt_before, block_before}
use Rattle.fut_syntax.specs.Tokens.{tail_before, more_params_before, params_before, item_before, items_before, program_tokens}
use Rattle.fut_tokens.specs.Spelling.{is_scrap, has_scrap}

-- spelling in front of others adds no scrap
abbrev AddsNone : (List Token → List Token) → Type 0
AddsNone before = (r : List Token) → has_scrap (before r) ≡ has_scrap r

op_none : (op : Op) → is_scrap (op_token op) ≡ false
op_none Add = refl
op_none Subtract = refl
op_none Multiply = refl
op_none Divide = refl
op_none Remainder = refl
op_none BitAnd = refl
op_none BitOr = refl
op_none Equal = refl
op_none Unequal = refl
op_none Less = refl
op_none AtMost = refl
op_none Greater = refl
op_none AtLeast = refl

sign_none : (a : Sign) → AddsNone (sign_before a)
sign_none NoSign r = refl
sign_none Negative r = refl
sign_none Inverted r = refl

mutual
  expr_none : (e : Expr) → AddsNone (expr_before e)
  expr_none (Alone o) r = operand_none o r
  expr_none (Pair o op y) r =
      operand_none o (op_token op ∷ operand_before y r) ∙ ap (λ b. b || has_scrap (operand_before y r)) (op_none op) ∙ operand_none y r

  operand_none : (o : Operand) → AddsNone (operand_before o)
  operand_none (Signed a p) r = sign_none a (primary_before p r) ∙ primary_none p r

  primary_none : (p : Primary) → AddsNone (primary_before p)
  primary_none (Literal n) r = refl
  primary_none (Name w) r = refl
  primary_none (Bracket e) r = expr_none e (t.RightParen ∷ r)

more_none : (es : List Expr) → AddsNone (more_before es)
more_none [] r = refl
more_none (e ∷ es) r = expr_none e (more_before es r) ∙ more_none es r

args_none : (es : List Expr) → AddsNone (args_before es)
args_none [] r = refl
args_none (e ∷ es) r = expr_none e (more_before es r) ∙ more_none es r

init_none : (i : Init) → AddsNone (init_before i)
init_none (GetOf w) r = refl
init_none (CreateOf w es) r = args_none es r
init_none (Index w e) r = expr_none e (t.RightSquare ∷ r)
init_none (Value e) r = expr_none e r

type_none : (d : ℕ) → AddsNone (type_before d)
type_none zero r = refl
type_none (suc d) r = type_none d r

var_type_none : (v : VarType) → AddsNone (var_type_before v)
var_type_none (Plain d) r = type_none d r
var_type_none (Array d n) r = type_none d (t.LeftSquare ∷ t.Number n ∷ t.RightSquare ∷ r)

mutual
  stmt_none : (x : Stmt) → AddsNone (stmt_before x)
  stmt_none (Declare w v) r = var_type_none v (t.Semicolon ∷ r)
  stmt_none (Define w v i) r = var_type_none v (t.Equals ∷ init_before i (t.Semicolon ∷ r)) ∙ init_none i (t.Semicolon ∷ r)
  stmt_none (Assign w i) r = init_none i (t.Semicolon ∷ r)
  stmt_none (Store w e f) r = expr_none e (t.RightSquare ∷ t.Equals ∷ expr_before f (t.Semicolon ∷ r)) ∙ expr_none f (t.Semicolon ∷ r)
  stmt_none (SpawnOf w es) r = args_none es (t.Semicolon ∷ r)
  stmt_none SyncAll r = refl
  stmt_none (If' e b o) r = expr_none e (t.LeftBrace ∷ block_before b (tail_before o r)) ∙ block_none b (tail_before o r) ∙ tail_none o r
  stmt_none (While' e b) r = expr_none e (t.LeftBrace ∷ block_before b r) ∙ block_none b r
  stmt_none (Return' e) r = expr_none e (t.Semicolon ∷ r)

  block_none : (b : Block) → AddsNone (block_before b)
  block_none Done r = refl
  block_none (Then x b) r = stmt_none x (block_before b r) ∙ block_none b r

  tail_none : (o : Tail) → AddsNone (tail_before o)
  tail_none NoElse r = refl
  tail_none (ElseOf b) r = block_none b r

more_params_none : (ps : List Param) → AddsNone (more_params_before ps)
more_params_none [] r = refl
more_params_none (p ∷ ps) r = var_type_none p.type (more_params_before ps r) ∙ more_params_none ps r

params_none : (ps : List Param) → AddsNone (params_before ps)
params_none [] r = refl
params_none (p ∷ ps) r = var_type_none p.type (more_params_before ps r) ∙ more_params_none ps r

item_none : (i : Item) → AddsNone (item_before i)
item_none (CellsOf w n) r = refl
item_none (TaskOf w ps d b) r = params_none ps (type_before d (t.LeftBrace ∷ block_before b r)) ∙ type_none d (t.LeftBrace ∷ block_before b r) ∙ block_none b r

items_none : (is : List Item) → AddsNone (items_before is)
items_none [] r = refl
items_none (i ∷ is) r = item_none i (items_before is r) ∙ items_none is r

pub program_none : (p : Program) → has_scrap (program_tokens p) ≡ false
program_none p = item_none p.first (items_before p.others []) ∙ items_none p.others []

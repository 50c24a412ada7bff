-- The tokens of a tree in front of others are its tokens and then the others.
use Rattle.std.proofs.Common.{◌≡◌, ℕ, zero, suc, List, [], ◌∷◌, ◌++◌, refl, sym, ap, ◌∙◌, map}
use Rattle.fut_tokens.specs.declared.token.Token.{Token}
use Rattle.fut_tokens.specs.declared.token.Token.TheVariants as t
use Rattle.fut_syntax.specs.Trees.{Sign, NoSign, Negative, Inverted, Expr, Alone, Pair, Operand, Signed, Primary, Literal, Name, Bracket, Init}
use Rattle.fut_syntax.specs.Trees.{GetOf, CreateOf, Index, Value, VarType, Plain, Array, Stmt, Declare, Define, Assign, Store, SpawnOf, SyncAll}
use Rattle.fut_syntax.specs.Trees.{If', While', Return', Block, Done, Then, Tail, NoElse, ElseOf, Param, Item, CellsOf, TaskOf, Program}
use Rattle.fut_syntax.specs.Tokens.{op_token, sign_before, expr_before, operand_before, primary_before, more_before, args_before}
use Rattle.fut_syntax.specs.Tokens.{init_before, type_before, var_type_before, stmt_before, block_before, tail_before, param_before}
use Rattle.fut_syntax.specs.Tokens.{more_params_before, params_before, item_before, items_before, program_tokens}
use Rattle.fut_syntax.specs.Lines.{item_tokens, program_lines}
use Rattle.fut_tokens.specs.Spelling.{tokens_in_lines}

-- spelling in front of others comes to the same as adding the others
abbrev Appends : (List Token → List Token) → Type 0
Appends before = (r s : List Token) → before (r ++ s) ≡ before r ++ s

sign_appends : (a : Sign) → Appends (sign_before a)
sign_appends NoSign r s = refl
sign_appends Negative r s = refl
sign_appends Inverted r s = refl

mutual
  expr_appends : (e : Expr) → Appends (expr_before e)
  expr_appends (Alone o) r s = operand_appends o r s
  expr_appends (Pair o op y) r s =
      ap (λ q. operand_before o (op_token op ∷ q)) (operand_appends y r s) ∙ operand_appends o (op_token op ∷ operand_before y r) s

  operand_appends : (o : Operand) → Appends (operand_before o)
  operand_appends (Signed a p) r s = ap (λ q. sign_before a q) (primary_appends p r s) ∙ sign_appends a (primary_before p r) s

  primary_appends : (p : Primary) → Appends (primary_before p)
  primary_appends (Literal n) r s = refl
  primary_appends (Name w) r s = refl
  primary_appends (Bracket e) r s = ap (λ q. t.LeftParen ∷ q) (expr_appends e (t.RightParen ∷ r) s)

more_appends : (es : List Expr) → Appends (more_before es)
more_appends [] r s = refl
more_appends (e ∷ es) r s = ap (λ q. t.Comma ∷ q) (ap (λ q. expr_before e q) (more_appends es r s) ∙ expr_appends e (more_before es r) s)

args_appends : (es : List Expr) → Appends (args_before es)
args_appends [] r s = refl
args_appends (e ∷ es) r s = ap (λ q. expr_before e q) (more_appends es r s) ∙ expr_appends e (more_before es r) s

init_appends : (i : Init) → Appends (init_before i)
init_appends (GetOf w) r s = refl
init_appends (CreateOf w es) r s = ap (λ q. t.Create ∷ t.Word w ∷ t.LeftParen ∷ q) (args_appends es r s)
init_appends (Index w e) r s = ap (λ q. t.Word w ∷ t.LeftSquare ∷ q) (expr_appends e (t.RightSquare ∷ r) s)
init_appends (Value e) r s = expr_appends e r s

type_appends : (d : ℕ) → Appends (type_before d)
type_appends zero r s = refl
type_appends (suc d) r s = ap (λ q. t.Fut ∷ q) (type_appends d r s)

var_type_appends : (v : VarType) → Appends (var_type_before v)
var_type_appends (Plain d) r s = type_appends d r s
var_type_appends (Array d n) r s = type_appends d (t.LeftSquare ∷ t.Number n ∷ t.RightSquare ∷ r) s

mutual
  stmt_appends : (x : Stmt) → Appends (stmt_before x)
  stmt_appends (Declare w v) r s = ap (λ q. t.Var ∷ t.Word w ∷ t.Colon ∷ q) (var_type_appends v (t.Semicolon ∷ r) s)
  stmt_appends (Define w v i) r s =
      ap (λ q. t.Var ∷ t.Word w ∷ t.Colon ∷ q)
      (ap (λ q. var_type_before v (t.Equals ∷ q)) (init_appends i (t.Semicolon ∷ r) s) ∙ var_type_appends v (t.Equals ∷ init_before i (t.Semicolon ∷ r)) s)
  stmt_appends (Assign w i) r s = ap (λ q. t.Word w ∷ t.Equals ∷ q) (init_appends i (t.Semicolon ∷ r) s)
  stmt_appends (Store w e f) r s =
      ap (λ q. t.Word w ∷ t.LeftSquare ∷ q)
      (ap (λ q. expr_before e (t.RightSquare ∷ t.Equals ∷ q)) (expr_appends f (t.Semicolon ∷ r) s)
      ∙ expr_appends e (t.RightSquare ∷ t.Equals ∷ expr_before f (t.Semicolon ∷ r)) s)
  stmt_appends (SpawnOf w es) r s = ap (λ q. t.Spawn ∷ t.Word w ∷ t.LeftParen ∷ q) (args_appends es (t.Semicolon ∷ r) s)
  stmt_appends SyncAll r s = refl
  stmt_appends (If' e b o) r s =
      ap (λ q. t.If ∷ q)
      (ap (λ q. expr_before e (t.LeftBrace ∷ q)) (ap (λ q. block_before b q) (tail_appends o r s) ∙ block_appends b (tail_before o r) s)
      ∙ expr_appends e (t.LeftBrace ∷ block_before b (tail_before o r)) s)
  stmt_appends (While' e b) r s =
      ap (λ q. t.While ∷ q) (ap (λ q. expr_before e (t.LeftBrace ∷ q)) (block_appends b r s) ∙ expr_appends e (t.LeftBrace ∷ block_before b r) s)
  stmt_appends (Return' e) r s = ap (λ q. t.Return ∷ q) (expr_appends e (t.Semicolon ∷ r) s)

  block_appends : (b : Block) → Appends (block_before b)
  block_appends Done r s = refl
  block_appends (Then x b) r s = ap (λ q. stmt_before x q) (block_appends b r s) ∙ stmt_appends x (block_before b r) s

  tail_appends : (o : Tail) → Appends (tail_before o)
  tail_appends NoElse r s = refl
  tail_appends (ElseOf b) r s = ap (λ q. t.Else ∷ t.LeftBrace ∷ q) (block_appends b r s)

param_appends : (p : Param) → Appends (param_before p)
param_appends p r s = ap (λ q. t.Word p.name ∷ t.Colon ∷ q) (var_type_appends p.type r s)

more_params_appends : (ps : List Param) → Appends (more_params_before ps)
more_params_appends [] r s = refl
more_params_appends (p ∷ ps) r s = ap (λ q. t.Comma ∷ q) (ap (λ q. param_before p q) (more_params_appends ps r s) ∙ param_appends p (more_params_before ps r) s)

params_appends : (ps : List Param) → Appends (params_before ps)
params_appends [] r s = refl
params_appends (p ∷ ps) r s = ap (λ q. param_before p q) (more_params_appends ps r s) ∙ param_appends p (more_params_before ps r) s

item_appends : (i : Item) → Appends (item_before i)
item_appends (CellsOf w n) r s = refl
item_appends (TaskOf w ps d b) r s =
    ap (λ q. t.Task ∷ t.Word w ∷ t.LeftParen ∷ q)
    (ap (λ q. params_before ps q) (ap (λ q. type_before d (t.LeftBrace ∷ q)) (block_appends b r s) ∙ type_appends d (t.LeftBrace ∷ block_before b r) s)
    ∙ params_appends ps (type_before d (t.LeftBrace ∷ block_before b r)) s)

items_ended : (is : List Item) → items_before is [] ≡ tokens_in_lines (map item_tokens is)
items_ended [] = refl
items_ended (i ∷ is) = ap (λ q. item_before i q) (items_ended is) ∙ item_appends i [] (tokens_in_lines (map item_tokens is))

-- the lines of a program have its tokens
pub program_ended : (p : Program) → tokens_in_lines (program_lines p) ≡ program_tokens p
program_ended p = sym (ap (λ q. item_before p.first q) (items_ended p.others) ∙ item_appends p.first [] (tokens_in_lines (map item_tokens p.others)))

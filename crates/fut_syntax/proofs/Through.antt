-- The tokens of a tree go through the machine.
use Rattle.std.proofs.Common.{◌≡◌, ℕ, zero, suc, false, List, [], ◌∷◌, refl, ap, ◌∙◌, length}
use Rattle.std.specs.Prelude.{Option, Some, None}
use Rattle.fut_tokens.specs.declared.token.Token.{Token}
use Rattle.fut_tokens.specs.declared.token.Token.TheVariants as t
use Rattle.fut_syntax.specs.Trees.{NoSign, Negative, Inverted, Op, Add, Subtract, Multiply, Divide, Remainder, BitAnd, BitOr, Equal, Unequal}
use Rattle.fut_syntax.specs.Trees.{Less, AtMost, Greater, AtLeast, Expr, Alone, Pair, Operand, Signed, Primary, Literal, Name, Bracket, Init}
use Rattle.fut_syntax.specs.Trees.{GetOf, CreateOf, Index, Value, VarType, Plain, Array, Stmt, Declare, Define, Assign, Store, SpawnOf, SyncAll}
use Rattle.fut_syntax.specs.Trees.{If', While', Return', Block, Done, Then, Tail, NoElse, ElseOf, Param, Item, CellsOf, TaskOf, Program}
use Rattle.fut_syntax.specs.Tokens.{op_token, expr_before, operand_before, primary_before, more_before, args_before, init_before, type_before, var_type_before}
use Rattle.fut_syntax.specs.Tokens.{stmt_before, block_before, tail_before, params_before, more_params_before, item_before, items_before, program_tokens}
use Rattle.fut_syntax.specs.Machine.{Symbol, First, More, Params, ParamsTail, Type', Length, Block', Stmts, Else', VarInit, Init', InitTail, Args}
use Rattle.fut_syntax.specs.Machine.{ArgsTail, Expr', ExprTail, Operand', Primary', RightParen', RightSquare', Semicolon', Equals', Passes, op_of}
use Rattle.fut_syntax.specs.Machine.{after_op, expr_tail_rule, init_tail_rule, length_rule, else_rule, rule, by_answer, next, run_on, free}
use Rattle.fut_syntax.proofs.Splits as splits

split_expr : (k : List Symbol) (xs : List Token) → free (Expr' ∷ k) xs ≡ free (Operand' ∷ ExprTail ∷ k) xs
split_expr k xs = splits.expr_split (λ d x. false) (λ x d. d) k 0 xs

passing : (a : Symbol) (k : List Symbol) (x : Token) (xs : List Token) → rule a x ≡ Passes → free (a ∷ k) (x ∷ xs) ≡ free k (x ∷ xs)
passing a k x xs e = splits.passes (λ d x. false) (λ x d. d) a k 0 x xs e

-- what may follow an expression
abbrev pub EndsExpr : List Token → Type 0
EndsExpr [] = Unit {0}
EndsExpr (x ∷ xs) = expr_tail_rule x ≡ Passes

-- what may follow a type
abbrev pub EndsType : List Token → Type 0
EndsType [] = Unit {0}
EndsType (x ∷ xs) = length_rule x ≡ Passes

-- what may follow a statement
abbrev pub NoElseFirst : List Token → Type 0
NoElseFirst [] = Unit {0}
NoElseFirst (x ∷ xs) = else_rule x ≡ Passes

no_tail : (k : List Symbol) (r : List Token) → EndsExpr r → free (ExprTail ∷ k) r ≡ free k r
no_tail k [] h = refl
no_tail k (x ∷ xs) h = passing ExprTail k x xs h

no_length : (k : List Symbol) (r : List Token) → EndsType r → free (Length ∷ k) r ≡ free k r
no_length k [] h = refl
no_length k (x ∷ xs) h = passing Length k x xs h

no_else : (k : List Symbol) (r : List Token) → NoElseFirst r → free (Else' ∷ k) r ≡ free k r
no_else k [] h = refl
no_else k (x ∷ xs) h = passing Else' k x xs h

-- the token of an operator is this operator's
pub op_known : (op : Op) → op_of (op_token op) ≡ Some op
op_known Add = refl
op_known Subtract = refl
op_known Multiply = refl
op_known Divide = refl
op_known Remainder = refl
op_known BitAnd = refl
op_known BitOr = refl
op_known Equal = refl
op_known Unequal = refl
op_known Less = refl
op_known AtMost = refl
op_known Greater = refl
op_known AtLeast = refl

init_tail_op : (op : Op) → init_tail_rule (op_token op) ≡ expr_tail_rule (op_token op)
init_tail_op Add = refl
init_tail_op Subtract = refl
init_tail_op Multiply = refl
init_tail_op Divide = refl
init_tail_op Remainder = refl
init_tail_op BitAnd = refl
init_tail_op BitOr = refl
init_tail_op Equal = refl
init_tail_op Unequal = refl
init_tail_op Less = refl
init_tail_op AtMost = refl
init_tail_op Greater = refl
init_tail_op AtLeast = refl

op_through : (op : Op) (k : List Symbol) (m : List Token) → free (ExprTail ∷ k) (op_token op ∷ m) ≡ free (Operand' ∷ k) m
op_through op k m = ap (λ (o : Option Op). run_on (by_answer (after_op o) k (next k (op_token op))) false (length m) (λ s. free s m)) (op_known op)

bare : (p : Primary) (k : List Symbol) (r : List Token) → free (Operand' ∷ k) (primary_before p r) ≡ free (Primary' ∷ k) (primary_before p r)
bare (Literal n) k r = refl
bare (Name w) k r = refl
bare (Bracket e) k r = refl

mutual
  pub expr_through : (e : Expr) (k : List Symbol) (r : List Token) → EndsExpr r → free (Expr' ∷ k) (expr_before e r) ≡ free k r
  expr_through (Alone o) k r h = split_expr k (operand_before o r) ∙ operand_through o (ExprTail ∷ k) r ∙ no_tail k r h
  expr_through (Pair o op y) k r h =
      split_expr k (operand_before o (op_token op ∷ operand_before y r)) ∙ operand_through o (ExprTail ∷ k) (op_token op ∷ operand_before y r)
      ∙ op_through op k (operand_before y r) ∙ operand_through y k r

  pub operand_through : (o : Operand) (k : List Symbol) (r : List Token) → free (Operand' ∷ k) (operand_before o r) ≡ free k r
  operand_through (Signed NoSign p) k r = bare p k r ∙ primary_through p k r
  operand_through (Signed Negative p) k r = primary_through p k r
  operand_through (Signed Inverted p) k r = primary_through p k r

  pub primary_through : (p : Primary) (k : List Symbol) (r : List Token) → free (Primary' ∷ k) (primary_before p r) ≡ free k r
  primary_through (Literal n) k r = refl
  primary_through (Name w) k r = refl
  primary_through (Bracket e) k r = expr_through e (RightParen' ∷ k) (t.RightParen ∷ r) refl

pub more_ends : (es : List Expr) (r : List Token) → EndsExpr (more_before es r)
more_ends [] r = refl
more_ends (e ∷ es) r = refl

more_through : (es : List Expr) (k : List Symbol) (r : List Token) → free (ArgsTail ∷ k) (more_before es r) ≡ free k r
more_through [] k r = refl
more_through (e ∷ es) k r = expr_through e (ArgsTail ∷ k) (more_before es r) (more_ends es r) ∙ more_through es k r

-- the first argument begins as an expression
args_operand : (o : Operand) (k : List Symbol) (m : List Token) → free (Args ∷ k) (operand_before o m) ≡ free (Expr' ∷ ArgsTail ∷ k) (operand_before o m)
args_operand (Signed NoSign (Literal n)) k m = refl
args_operand (Signed NoSign (Name w)) k m = refl
args_operand (Signed NoSign (Bracket e)) k m = refl
args_operand (Signed Negative p) k m = refl
args_operand (Signed Inverted p) k m = refl

args_first : (e : Expr) (k : List Symbol) (m : List Token) → free (Args ∷ k) (expr_before e m) ≡ free (Expr' ∷ ArgsTail ∷ k) (expr_before e m)
args_first (Alone o) k m = args_operand o k m
args_first (Pair o op y) k m = args_operand o k (op_token op ∷ operand_before y m)

args_through : (es : List Expr) (k : List Symbol) (r : List Token) → free (Args ∷ k) (args_before es r) ≡ free k r
args_through [] k r = refl
args_through (e ∷ es) k r = args_first e k (more_before es r) ∙ expr_through e (ArgsTail ∷ k) (more_before es r) (more_ends es r) ∙ more_through es k r

word_tail : (op : Op) (k : List Symbol) (m : List Token) → free (InitTail ∷ k) (op_token op ∷ m) ≡ free (Operand' ∷ k) m
word_tail op k m =
    splits.same_next (λ d x. false) (λ x d. d) (InitTail ∷ k) (ExprTail ∷ k) 0 (op_token op) m
    (ap (λ b. by_answer b k (next k (op_token op))) (init_tail_op op))
    ∙ op_through op k m

init_through : (i : Init) (k : List Symbol) (r : List Token) → free (Init' ∷ k) (init_before i (t.Semicolon ∷ r)) ≡ free k (t.Semicolon ∷ r)
init_through (GetOf w) k r = refl
init_through (CreateOf w es) k r = args_through es k (t.Semicolon ∷ r)
init_through (Index w e) k r = expr_through e (RightSquare' ∷ k) (t.RightSquare ∷ t.Semicolon ∷ r) refl
init_through (Value (Alone (Signed NoSign (Name w)))) k r = refl
init_through (Value (Pair (Signed NoSign (Name w)) op y)) k r = word_tail op k (operand_before y (t.Semicolon ∷ r)) ∙ operand_through y k (t.Semicolon ∷ r)
init_through (Value e) k r = expr_through e k (t.Semicolon ∷ r) refl

type_through : (d : ℕ) (k : List Symbol) (r : List Token) → free (Type' ∷ k) (type_before d r) ≡ free k r
type_through zero k r = refl
type_through (suc d) k r = type_through d k r

var_type_through : (v : VarType) (k : List Symbol) (r : List Token) → EndsType r → free (Type' ∷ Length ∷ k) (var_type_before v r) ≡ free k r
var_type_through (Plain d) k r h = type_through d (Length ∷ k) r ∙ no_length k r h
var_type_through (Array d n) k r h = type_through d (Length ∷ k) (t.LeftSquare ∷ t.Number n ∷ t.RightSquare ∷ r)

stmt_no_else : (s : Stmt) (r : List Token) → NoElseFirst (stmt_before s r)
stmt_no_else (Declare w v) r = refl
stmt_no_else (Define w v i) r = refl
stmt_no_else (Assign w i) r = refl
stmt_no_else (Store w e f) r = refl
stmt_no_else (SpawnOf w es) r = refl
stmt_no_else SyncAll r = refl
stmt_no_else (If' e b o) r = refl
stmt_no_else (While' e b) r = refl
stmt_no_else (Return' e) r = refl

pub block_no_else : (b : Block) (r : List Token) → NoElseFirst (block_before b r)
block_no_else Done r = refl
block_no_else (Then s b) r = stmt_no_else s (block_before b r)

mutual
  stmt_through : (s : Stmt) (k : List Symbol) (r : List Token) → NoElseFirst r → free (Stmts ∷ k) (stmt_before s r) ≡ free (Stmts ∷ k) r
  stmt_through (Declare w v) k r h = var_type_through v (VarInit ∷ Semicolon' ∷ Stmts ∷ k) (t.Semicolon ∷ r) refl
  stmt_through (Define w v i) k r h =
      var_type_through v (VarInit ∷ Semicolon' ∷ Stmts ∷ k) (t.Equals ∷ init_before i (t.Semicolon ∷ r)) refl ∙ init_through i (Semicolon' ∷ Stmts ∷ k) r
  stmt_through (Assign w i) k r h = init_through i (Semicolon' ∷ Stmts ∷ k) r
  stmt_through (Store w e f) k r h =
      expr_through e (RightSquare' ∷ Equals' ∷ Expr' ∷ Semicolon' ∷ Stmts ∷ k) (t.RightSquare ∷ t.Equals ∷ expr_before f (t.Semicolon ∷ r)) refl
      ∙ expr_through f (Semicolon' ∷ Stmts ∷ k) (t.Semicolon ∷ r) refl
  stmt_through (SpawnOf w es) k r h = args_through es (Semicolon' ∷ Stmts ∷ k) (t.Semicolon ∷ r)
  stmt_through SyncAll k r h = refl
  stmt_through (If' e b o) k r h =
      expr_through e (Block' ∷ Else' ∷ Stmts ∷ k) (t.LeftBrace ∷ block_before b (tail_before o r)) refl
      ∙ block_through b (Else' ∷ Stmts ∷ k) (tail_before o r) ∙ tail_through o (Stmts ∷ k) r h
  stmt_through (While' e b) k r h =
      expr_through e (Block' ∷ Stmts ∷ k) (t.LeftBrace ∷ block_before b r) refl ∙ block_through b (Stmts ∷ k) r
  stmt_through (Return' e) k r h = expr_through e (Semicolon' ∷ Stmts ∷ k) (t.Semicolon ∷ r) refl

  block_through : (b : Block) (k : List Symbol) (r : List Token) → free (Stmts ∷ k) (block_before b r) ≡ free k r
  block_through Done k r = refl
  block_through (Then s b) k r = stmt_through s k (block_before b r) (block_no_else b r) ∙ block_through b k r

  tail_through : (o : Tail) (k : List Symbol) (r : List Token) → NoElseFirst r → free (Else' ∷ k) (tail_before o r) ≡ free k r
  tail_through NoElse k r h = no_else k r h
  tail_through (ElseOf b) k r h = block_through b k r

pub params_end : (ps : List Param) (r : List Token) → EndsType (more_params_before ps r)
params_end [] r = refl
params_end (p ∷ ps) r = refl

more_params_through : (ps : List Param) (k : List Symbol) (r : List Token) → free (ParamsTail ∷ k) (more_params_before ps r) ≡ free k r
more_params_through [] k r = refl
more_params_through (p ∷ ps) k r = var_type_through p.type (ParamsTail ∷ k) (more_params_before ps r) (params_end ps r) ∙ more_params_through ps k r

params_through : (ps : List Param) (k : List Symbol) (r : List Token) → free (Params ∷ k) (params_before ps r) ≡ free k r
params_through [] k r = refl
params_through (p ∷ ps) k r = var_type_through p.type (ParamsTail ∷ k) (more_params_before ps r) (params_end ps r) ∙ more_params_through ps k r

-- a task behind its word and the bracket of its parameters
task_through : (ps : List Param) (d : ℕ) (b : Block) (k : List Symbol) (r : List Token)
    → free (Params ∷ Type' ∷ Block' ∷ More ∷ k) (params_before ps (type_before d (t.LeftBrace ∷ block_before b r))) ≡ free (More ∷ k) r
task_through ps d b k r =
    params_through ps (Type' ∷ Block' ∷ More ∷ k) (type_before d (t.LeftBrace ∷ block_before b r))
    ∙ type_through d (Block' ∷ More ∷ k) (t.LeftBrace ∷ block_before b r) ∙ block_through b (More ∷ k) r

items_through : (is : List Item) (k : List Symbol) (r : List Token) → free (More ∷ k) (items_before is r) ≡ free k r
items_through [] k r = refl
items_through (CellsOf w n ∷ is) k r = items_through is k r
items_through (TaskOf w ps d b ∷ is) k r = task_through ps d b k (items_before is r) ∙ items_through is k r

first_through : (i : Item) (k : List Symbol) (r : List Token) → free (First ∷ k) (item_before i r) ≡ free (More ∷ k) r
first_through (CellsOf w n) k r = refl
first_through (TaskOf w ps d b) k r = task_through ps d b k r

-- the tokens of a program go through
pub program_through : (p : Program) → free (First ∷ []) (program_tokens p) ≡ None
program_through p = first_through p.first [] (items_before p.others []) ∙ items_through p.others [] []

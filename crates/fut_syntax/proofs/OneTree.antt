-- Each list of tokens has at most one tree.
use Rattle.std.proofs.Common.{◌≡◌, ℕ, zero, suc, Bool, true, false, List, [], ◌∷◌, refl, sym, subst, ap, ◌∙◌}
use Rattle.std.specs.Prelude.{Some, None}
use Rattle.fut_tokens.specs.declared.token.Token.{Token}
use Rattle.fut_tokens.specs.declared.token.Token.TheVariants as t
use Rattle.fut_syntax.specs.Trees.{Sign, NoSign, Negative, Inverted, Op, Expr, Alone, Pair, Operand, Signed, Primary, Literal, Name, Bracket}
use Rattle.fut_syntax.specs.Trees.{Init, GetOf, CreateOf, Index, Value, VarType, Plain, Array, Stmt, Declare, Define, Assign, Store, SpawnOf}
use Rattle.fut_syntax.specs.Trees.{SyncAll, If', While', Return', Block, Done, Then, Tail, NoElse, ElseOf, Param, Item, CellsOf, TaskOf, Program}
use Rattle.fut_syntax.specs.Tokens.{op_token, sign_before, expr_before, operand_before, primary_before, more_before}
use Rattle.fut_syntax.specs.Tokens.{args_before, init_before, type_before, var_type_before, stmt_before, block_before}
use Rattle.fut_syntax.specs.Tokens.{tail_before, params_before, more_params_before, item_before, items_before, program_tokens}
use Rattle.fut_syntax.specs.Machine.{Number', RightSquare', Operand', Block', Takes, Passes, op_of, after_op}
use Rattle.fut_syntax.proofs.Through.{EndsExpr, EndsType, NoElseFirst, op_known, more_ends, params_end, block_no_else}

-- one tree and one rest
abbrev Once : {A : Type 0} → A → A → List Token → List Token → Type 0
Once x y r s = (x ≡ y) × (r ≡ s)

-- what ends an expression is no operator
no_op : (op : Op) (m r : List Token) → EndsExpr r → r ≡ op_token op ∷ m → ⊥
no_op op m r h e =
    let k : after_op (op_of (op_token op)) ≡ Passes = subst EndsExpr e h in
    let l : after_op (op_of (op_token op)) ≡ Takes (Operand' ∷ []) = ap after_op (op_known op) in
    absurd (cc)

op_once : (x y : Op) (m n : List Token) → op_token x ∷ m ≡ op_token y ∷ n → Once x y m n
op_once x y m n e =
    let token : op_token x ≡ op_token y = cc in
    let known : Some x ≡ Some y = sym (op_known x) ∙ ap op_of token ∙ op_known y in
    (cc, cc)

no_sign : (p : Primary) (r m : List Token) → (primary_before p r ≡ t.Minus ∷ m → ⊥) × (primary_before p r ≡ t.Bang ∷ m → ⊥)
no_sign (Literal n) r m = (λ e. absurd (cc), λ e. absurd (cc))
no_sign (Name n) r m = (λ e. absurd (cc), λ e. absurd (cc))
no_sign (Bracket x) r m = (λ e. absurd (cc), λ e. absurd (cc))

sign_once : (a b : Sign) (p q : Primary) (r s : List Token) → sign_before a (primary_before p r) ≡ sign_before b (primary_before q s)
    → Once a b (primary_before p r) (primary_before q s)
sign_once NoSign NoSign p q r s e = (refl, e)
sign_once NoSign Negative p q r s e = absurd ((no_sign p r _).0 e)
sign_once NoSign Inverted p q r s e = absurd ((no_sign p r _).1 e)
sign_once Negative NoSign p q r s e = absurd ((no_sign q s _).0 (sym e))
sign_once Negative Negative p q r s e = (refl, cc)
sign_once Negative Inverted p q r s e = absurd (cc)
sign_once Inverted NoSign p q r s e = absurd ((no_sign q s _).1 (sym e))
sign_once Inverted Negative p q r s e = absurd (cc)
sign_once Inverted Inverted p q r s e = (refl, cc)

mutual
  expr_once : (x y : Expr) (r s : List Token) → EndsExpr r → EndsExpr s → expr_before x r ≡ expr_before y s → Once x y r s
  expr_once (Alone o) (Alone p) r s hr hs e = let h = operand_once o p r s e in (cc, cc)
  expr_once (Alone o) (Pair p op q) r s hr hs e = let h =
      operand_once o p r (op_token op ∷ operand_before q s) e in absurd (no_op op (operand_before q s) r hr h.1)
  expr_once (Pair o op q) (Alone p) r s hr hs e = let h =
      operand_once o p (op_token op ∷ operand_before q r) s e in absurd (no_op op (operand_before q r) s hs (sym h.1))
  expr_once (Pair o op q) (Pair p op' q') r s hr hs e =
      let h = operand_once o p (op_token op ∷ operand_before q r) (op_token op' ∷ operand_before q' s) e in
      let same = op_once op op' (operand_before q r) (operand_before q' s) h.1 in
      let k = operand_once q q' r s same.1 in (cc, cc)

  operand_once : (x y : Operand) (r s : List Token) → operand_before x r ≡ operand_before y s → Once x y r s
  operand_once (Signed a p) (Signed b q) r s e =
      let h = sign_once a b p q r s e in
      let k = primary_once p q r s h.1 in (cc, cc)

  primary_once : (x y : Primary) (r s : List Token) → primary_before x r ≡ primary_before y s → Once x y r s
  primary_once (Literal n) (Literal m) r s e = (cc, cc)
  primary_once (Name n) (Name m) r s e = (cc, cc)
  primary_once (Bracket x) (Bracket y) r s e = let h = expr_once x y (t.RightParen ∷ r) (t.RightParen ∷ s) refl refl (cc) in (cc, cc)
  primary_once (Literal n) (Name m) r s e = absurd (cc)
  primary_once (Literal n) (Bracket y) r s e = absurd (cc)
  primary_once (Name n) (Literal m) r s e = absurd (cc)
  primary_once (Name n) (Bracket y) r s e = absurd (cc)
  primary_once (Bracket x) (Literal m) r s e = absurd (cc)
  primary_once (Bracket x) (Name m) r s e = absurd (cc)

-- a token that begins an expression
abbrev begins_expr : Token → Bool
begins_expr (t.Word w) = true
begins_expr (t.Number n) = true
begins_expr t.LeftParen = true
begins_expr t.Minus = true
begins_expr t.Bang = true
begins_expr _ = false

operand_head : (o : Operand) (m : List Token) (x : Token) (n : List Token) → operand_before o m ≡ x ∷ n → begins_expr x ≡ true
operand_head (Signed NoSign (Literal k)) m x n e = let same : t.Number k ≡ x = cc in ap begins_expr (sym same)
operand_head (Signed NoSign (Name k)) m x n e = let same : t.Word k ≡ x = cc in ap begins_expr (sym same)
operand_head (Signed NoSign (Bracket k)) m x n e = let same : t.LeftParen ≡ x = cc in ap begins_expr (sym same)
operand_head (Signed Negative k) m x n e = let same : t.Minus ≡ x = cc in ap begins_expr (sym same)
operand_head (Signed Inverted k) m x n e = let same : t.Bang ≡ x = cc in ap begins_expr (sym same)

expr_head : (o : Expr) (m : List Token) (x : Token) (n : List Token) → expr_before o m ≡ x ∷ n → begins_expr x ≡ true
expr_head (Alone o) m x n e = operand_head o m x n e
expr_head (Pair o op q) m x n e = operand_head o (op_token op ∷ operand_before q m) x n e

more_once : (x y : List Expr) (r s : List Token) → more_before x r ≡ more_before y s → Once x y r s
more_once [] [] r s e = (refl, cc)
more_once [] (b ∷ y) r s e = absurd (cc)
more_once (a ∷ x) [] r s e = absurd (cc)
more_once (a ∷ x) (b ∷ y) r s e =
    let h = expr_once a b (more_before x r) (more_before y s) (more_ends x r) (more_ends y s) (cc) in
    let k = more_once x y r s h.1 in (cc, cc)

args_once : (x y : List Expr) (r s : List Token) → args_before x r ≡ args_before y s → Once x y r s
args_once [] [] r s e = (refl, cc)
args_once [] (b ∷ y) r s e = let k : false ≡ true = expr_head b (more_before y s) t.RightParen r (sym e) in absurd (cc)
args_once (a ∷ x) [] r s e = let k : false ≡ true = expr_head a (more_before x r) t.RightParen s e in absurd (cc)
args_once (a ∷ x) (b ∷ y) r s e =
    let h = expr_once a b (more_before x r) (more_before y s) (more_ends x r) (more_ends y s) e in
    let k = more_once x y r s h.1 in (cc, cc)

no_index : (x : Expr) (w : List ℕ) (m r : List Token) → expr_before x (t.Semicolon ∷ r) ≡ t.Word w ∷ t.LeftSquare ∷ m → ⊥
no_index (Alone (Signed NoSign (Literal k))) w m r e = absurd (cc)
no_index (Alone (Signed NoSign (Name k))) w m r e = absurd (cc)
no_index (Alone (Signed NoSign (Bracket k))) w m r e = absurd (cc)
no_index (Alone (Signed Negative k)) w m r e = absurd (cc)
no_index (Alone (Signed Inverted k)) w m r e = absurd (cc)
no_index (Pair (Signed NoSign (Literal k)) op y) w m r e = absurd (cc)
no_index (Pair (Signed NoSign (Name k)) op y) w m r e =
    let token : op_token op ≡ t.LeftSquare = cc in
    let known : Some op ≡ None = sym (op_known op) ∙ ap op_of token in
    absurd (cc)
no_index (Pair (Signed NoSign (Bracket k)) op y) w m r e = absurd (cc)
no_index (Pair (Signed Negative k) op y) w m r e = absurd (cc)
no_index (Pair (Signed Inverted k) op y) w m r e = absurd (cc)

init_once : (x y : Init) (r s : List Token) → init_before x (t.Semicolon ∷ r) ≡ init_before y (t.Semicolon ∷ s) → Once x y r s
init_once (GetOf w) (GetOf v) r s e = (cc, cc)
init_once (GetOf w) (CreateOf v y) r s e = absurd (cc)
init_once (GetOf w) (Index v y) r s e = absurd (cc)
init_once (GetOf w) (Value y) r s e = let k : false ≡ true = expr_head y (t.Semicolon ∷ s) t.Get _ (sym e) in absurd (cc)
init_once (CreateOf w x) (CreateOf v y) r s e = let h = args_once x y (t.Semicolon ∷ r) (t.Semicolon ∷ s) (cc) in (cc, cc)
init_once (CreateOf w x) (GetOf v) r s e = absurd (cc)
init_once (CreateOf w x) (Index v y) r s e = absurd (cc)
init_once (CreateOf w x) (Value y) r s e = let k : false ≡ true = expr_head y (t.Semicolon ∷ s) t.Create _ (sym e) in absurd (cc)
init_once (Index w x) (Index v y) r s e = let h = expr_once x y (t.RightSquare ∷ t.Semicolon ∷ r) (t.RightSquare ∷ t.Semicolon ∷ s) refl refl (cc) in (cc, cc)
init_once (Index w x) (GetOf v) r s e = absurd (cc)
init_once (Index w x) (CreateOf v y) r s e = absurd (cc)
init_once (Index w x) (Value y) r s e = absurd (no_index y w _ s (sym e))
init_once (Value x) (Value y) r s e = let h = expr_once x y (t.Semicolon ∷ r) (t.Semicolon ∷ s) refl refl e in (cc, cc)
init_once (Value x) (GetOf v) r s e = let k : false ≡ true = expr_head x (t.Semicolon ∷ r) t.Get _ e in absurd (cc)
init_once (Value x) (CreateOf v y) r s e = let k : false ≡ true = expr_head x (t.Semicolon ∷ r) t.Create _ e in absurd (cc)
init_once (Value x) (Index v y) r s e = absurd (no_index x v _ r e)

type_once : (d e : ℕ) (r s : List Token) → type_before d r ≡ type_before e s → Once d e r s
type_once zero zero r s h = (refl, cc)
type_once (suc d) (suc e) r s h = let k = type_once d e r s (cc) in (ap suc k.0, k.1)
type_once zero (suc e) r s h = absurd (cc)
type_once (suc d) zero r s h = absurd (cc)

no_length : (n : ℕ) (m r : List Token) → EndsType r → r ≡ t.LeftSquare ∷ t.Number n ∷ m → ⊥
no_length n m r h e = let k : Takes (Number' ∷ RightSquare' ∷ []) ≡ Passes = subst EndsType e h in absurd (cc)

var_type_once : (v w : VarType) (r s : List Token) → EndsType r → EndsType s → var_type_before v r ≡ var_type_before w s → Once v w r s
var_type_once (Plain d) (Plain e) r s hr hs h = let k = type_once d e r s h in (cc, cc)
var_type_once (Array d n) (Array e m) r s hr hs h =
    let k = type_once d e (t.LeftSquare ∷ t.Number n ∷ t.RightSquare ∷ r) (t.LeftSquare ∷ t.Number m ∷ t.RightSquare ∷ s) h in (cc, cc)
var_type_once (Plain d) (Array e m) r s hr hs h =
    let k = type_once d e r (t.LeftSquare ∷ t.Number m ∷ t.RightSquare ∷ s) h in absurd (no_length m (t.RightSquare ∷ s) r hr k.1)
var_type_once (Array d n) (Plain e) r s hr hs h =
    let k = type_once d e (t.LeftSquare ∷ t.Number n ∷ t.RightSquare ∷ r) s h in absurd (no_length n (t.RightSquare ∷ r) s hs (sym k.1))

stmt_no_close : (x : Stmt) (r m : List Token) → stmt_before x r ≡ t.RightBrace ∷ m → ⊥
stmt_no_close (Declare w v) r m e = absurd (cc)
stmt_no_close (Define w v i) r m e = absurd (cc)
stmt_no_close (Assign w i) r m e = absurd (cc)
stmt_no_close (Store w a b) r m e = absurd (cc)
stmt_no_close (SpawnOf w es) r m e = absurd (cc)
stmt_no_close SyncAll r m e = absurd (cc)
stmt_no_close (If' a b o) r m e = absurd (cc)
stmt_no_close (While' a b) r m e = absurd (cc)
stmt_no_close (Return' a) r m e = absurd (cc)

no_else_first : (r m : List Token) → NoElseFirst r → r ≡ t.Else ∷ m → ⊥
no_else_first r m h e = let k : Takes (Block' ∷ []) ≡ Passes = subst NoElseFirst e h in absurd (cc)

-- the two forms of `var`
declare_define : (v v' : VarType) (i : Init) (r s : List Token) → var_type_before v (t.Semicolon ∷ r)
    ≡ var_type_before v' (t.Equals ∷ init_before i (t.Semicolon ∷ s)) → ⊥
declare_define v v' i r s e =
    let k = var_type_once v v' (t.Semicolon ∷ r) (t.Equals ∷ init_before i (t.Semicolon ∷ s)) refl refl e in
    let l = k.1 in absurd (cc)

mutual
  stmt_once : (x y : Stmt) (r s : List Token) → NoElseFirst r → NoElseFirst s → stmt_before x r ≡ stmt_before y s → Once x y r s
  stmt_once (Declare w v) (Declare w' v') r s hr hs e = let h = var_type_once v v' (t.Semicolon ∷ r) (t.Semicolon ∷ s) refl refl (cc) in (cc, cc)
  stmt_once (Declare w v) (Define w' v' i) r s hr hs e = absurd (declare_define v v' i r s (cc))
  stmt_once (Define w v i) (Declare w' v') r s hr hs e = absurd (declare_define v' v i s r (cc))
  stmt_once (Define w v i) (Define w' v' j) r s hr hs e =
      let h = var_type_once v v' (t.Equals ∷ init_before i (t.Semicolon ∷ r)) (t.Equals ∷ init_before j (t.Semicolon ∷ s)) refl refl (cc) in
      let k = init_once i j r s (cc) in (cc, cc)
  stmt_once (Assign w i) (Assign v j) r s hr hs e = let h = init_once i j r s (cc) in (cc, cc)
  stmt_once (Store w a b) (Store w' a' b') r s hr hs e =
      let h = expr_once a a' (t.RightSquare ∷ t.Equals ∷ expr_before b (t.Semicolon ∷ r))
      (t.RightSquare ∷ t.Equals ∷ expr_before b' (t.Semicolon ∷ s)) refl refl (cc) in
      let k = expr_once b b' (t.Semicolon ∷ r) (t.Semicolon ∷ s) refl refl (cc) in (cc, cc)
  stmt_once (SpawnOf w es) (SpawnOf v fs) r s hr hs e = let h = args_once es fs (t.Semicolon ∷ r) (t.Semicolon ∷ s) (cc) in (cc, cc)
  stmt_once SyncAll SyncAll r s hr hs e = (refl, cc)
  stmt_once (If' a b o) (If' a' b' o') r s hr hs e =
      let h = expr_once a a' (t.LeftBrace ∷ block_before b (tail_before o r)) (t.LeftBrace ∷ block_before b' (tail_before o' s)) refl refl (cc) in
      let k = block_once b b' (tail_before o r) (tail_before o' s) (cc) in
      let l = tail_once o o' r s hr hs k.1 in (cc, cc)
  stmt_once (While' a b) (While' a' b') r s hr hs e =
      let h = expr_once a a' (t.LeftBrace ∷ block_before b r) (t.LeftBrace ∷ block_before b' s) refl refl (cc) in
      let k = block_once b b' r s (cc) in (cc, cc)
  stmt_once (Return' a) (Return' b) r s hr hs e = let h = expr_once a b (t.Semicolon ∷ r) (t.Semicolon ∷ s) refl refl (cc) in (cc, cc)
  stmt_once _ _ r s hr hs e = absurd (cc)

  block_once : (x y : Block) (r s : List Token) → block_before x r ≡ block_before y s → Once x y r s
  block_once Done Done r s e = (refl, cc)
  block_once Done (Then b y) r s e = absurd (stmt_no_close b (block_before y s) r (sym e))
  block_once (Then a x) Done r s e = absurd (stmt_no_close a (block_before x r) s e)
  block_once (Then a x) (Then b y) r s e =
      let h = stmt_once a b (block_before x r) (block_before y s) (block_no_else x r) (block_no_else y s) e in
      let k = block_once x y r s h.1 in (cc, cc)

  tail_once : (x y : Tail) (r s : List Token) → NoElseFirst r → NoElseFirst s → tail_before x r ≡ tail_before y s → Once x y r s
  tail_once NoElse NoElse r s hr hs e = (refl, e)
  tail_once NoElse (ElseOf y) r s hr hs e = absurd (no_else_first r _ hr e)
  tail_once (ElseOf x) NoElse r s hr hs e = absurd (no_else_first s _ hs (sym e))
  tail_once (ElseOf x) (ElseOf y) r s hr hs e = let h = block_once x y r s (cc) in (cc, cc)

abbrev param : List ℕ → VarType → Param
param w v = record { name = w; type = v }

-- a parameter of the same word and type
param_once : (p q : Param) → p.name ≡ q.name → p.type ≡ q.type → p ≡ q
param_once p q n v = ap (λ (w : List ℕ). param w p.type) n ∙ ap (λ (k : VarType). param q.name k) v

more_params_once : (x y : List Param) (r s : List Token) → more_params_before x r ≡ more_params_before y s → Once x y r s
more_params_once [] [] r s e = (refl, cc)
more_params_once [] (b ∷ y) r s e = absurd (cc)
more_params_once (a ∷ x) [] r s e = absurd (cc)
more_params_once (a ∷ x) (b ∷ y) r s e =
    let h = var_type_once a.type b.type (more_params_before x r) (more_params_before y s) (params_end x r) (params_end y s) (cc) in
    let k = more_params_once x y r s h.1 in
    let same = param_once a b (cc) h.0 in (cc, cc)

params_once : (x y : List Param) (r s : List Token) → params_before x r ≡ params_before y s → Once x y r s
params_once [] [] r s e = (refl, cc)
params_once [] (b ∷ y) r s e = absurd (cc)
params_once (a ∷ x) [] r s e = absurd (cc)
params_once (a ∷ x) (b ∷ y) r s e =
    let h = var_type_once a.type b.type (more_params_before x r) (more_params_before y s) (params_end x r) (params_end y s) (cc) in
    let k = more_params_once x y r s h.1 in
    let same = param_once a b (cc) h.0 in (cc, cc)

item_once : (x y : Item) (r s : List Token) → item_before x r ≡ item_before y s → Once x y r s
item_once (CellsOf w n) (CellsOf v m) r s e = (cc, cc)
item_once (CellsOf w n) (TaskOf v ps d b) r s e = absurd (cc)
item_once (TaskOf w ps d b) (CellsOf v m) r s e = absurd (cc)
item_once (TaskOf w ps d x) (TaskOf v qs g y) r s e =
    let h = params_once ps qs (type_before d (t.LeftBrace ∷ block_before x r)) (type_before g (t.LeftBrace ∷ block_before y s)) (cc) in
    let k = type_once d g (t.LeftBrace ∷ block_before x r) (t.LeftBrace ∷ block_before y s) h.1 in
    let l = block_once x y r s (cc) in (cc, cc)

items_once : (x y : List Item) (r s : List Token) → items_before x r ≡ items_before y s → Once x y r s
items_once [] [] r s e = (refl, cc)
items_once [] (CellsOf w n ∷ y) r s e = absurd (cc)
items_once [] (TaskOf w ps d b ∷ y) r s e = absurd (cc)
items_once (CellsOf w n ∷ x) [] r s e = absurd (cc)
items_once (TaskOf w ps d b ∷ x) [] r s e = absurd (cc)
items_once (a ∷ x) (b ∷ y) r s e =
    let h = item_once a b (items_before x r) (items_before y s) e in
    let k = items_once x y r s h.1 in (cc, cc)

abbrev made : Item → List Item → Program
made i is = record { first = i; others = is }

-- a list of tokens has at most one tree
pub program_once : (x y : Program) → program_tokens x ≡ program_tokens y → x ≡ y
program_once x y e =
    let h = item_once x.first y.first (items_before x.others []) (items_before y.others []) e in
    let k = items_once x.others y.others [] [] h.1 in
    ap (λ (i : Item). made i x.others) h.0 ∙ ap (λ (is : List Item). made y.first is) k.0

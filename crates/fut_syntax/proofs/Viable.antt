-- What the machine goes through is the beginning of a program.
use Rattle.std.proofs.Common.{◌≡◌, ℕ, zero, suc, true, List, [], ◌∷◌, ◌++◌, inl, inr, refl, sym, subst, ap, ◌∙◌}
use Rattle.std.specs.Prelude.{Option, Some, None}
use Rattle.fut_tokens.specs.declared.token.Token.{Token}
use Rattle.fut_tokens.specs.declared.token.Token.TheVariants as t
use Rattle.fut_syntax.specs.Trees.{NoSign, Negative, Inverted, Add, Subtract, Multiply, Divide, Remainder, BitAnd, BitOr, Equal}
use Rattle.fut_syntax.specs.Trees.{Unequal, Less, AtMost, Greater, AtLeast, Expr, Alone, Pair, Operand, Signed, Literal, Name}
use Rattle.fut_syntax.specs.Trees.{Bracket, GetOf, CreateOf, Index, Value, VarType, Plain, Array, Stmt, Declare, Define, Assign}
use Rattle.fut_syntax.specs.Trees.{Store, SpawnOf, SyncAll, If', While', Return', Done, Then, NoElse, ElseOf, Param, CellsOf, TaskOf}
use Rattle.fut_syntax.specs.Tokens.{expr_before, operand_before, type_before, var_type_before, stmt_before, program_before}
use Rattle.fut_syntax.specs.Machine.{Symbol, First, More, Params, ParamsTail, Type', Length, Block', Stmts, Else', VarInit, WordStmt, Init'}
use Rattle.fut_syntax.specs.Machine.{InitTail, Args, ArgsTail, Expr', ExprTail, Operand', Primary', Word', Number', LeftParen', RightParen'}
use Rattle.fut_syntax.specs.Machine.{LeftSquare', RightSquare', Semicolon', Colon', Equals', Answer, Takes, Passes, Stops, then_due, primary_rule}
use Rattle.fut_syntax.specs.Machine.{operand_rule, expr_rule, expr_tail_rule, args_tail_rule, args_rule, init_rule, init_tail_rule, type_rule}
use Rattle.fut_syntax.specs.Machine.{length_rule, var_init_rule, word_stmt_rule, stmts_rule, block_rule, else_rule, params_rule, params_tail_rule}
use Rattle.fut_syntax.specs.Machine.{first_rule, more_rule, word_rule, number_rule, left_paren_rule, right_paren_rule, left_square_rule}
use Rattle.fut_syntax.specs.Machine.{right_square_rule, semicolon_rule, colon_rule, equals_rule, rule, by_answer, next, go_on, walk}
use Rattle.fut_syntax.specs.Phrases.{Phrase, Phrases, IsExprTail, IsLength, IsVarInit, IsWordStmt}
use Rattle.fut_syntax.specs.Faults.{IsBegun, all_simple}
use Rattle.fut_syntax.proofs.Splits.{IsFirm, expr_firm}

-- a rule's answer makes phrases of the symbol
abbrev Builds : Symbol → Token → Answer → Type 0
Builds a x (Takes s) = (xs r : List Token) → Phrases s xs r → Phrase a (x ∷ xs) r
Builds a x Passes = (r : List Token) → Phrase a r r
Builds a x Stops = Unit {0}

split : (s k : List Symbol) (xs r : List Token) → Phrases (s ++ k) xs r → (m : List Token) × Phrases s xs m × Phrases k m r
split [] k xs r h = (xs, refl, h)
split (a ∷ s) k xs r h = let rest = split s k h.0 r h.2 in (rest.0, (h.0, h.1, rest.1), rest.2)

primary_builds : (x : Token) → Builds Primary' x (primary_rule x)
primary_builds (t.Word w) = λ xs r h. (Name w, cc)
primary_builds (t.Number n) = λ xs r h. (Literal n, cc)
primary_builds t.LeftParen = λ xs r h. (Bracket h.1.0, cc)
primary_builds _ = tt

operand_builds : (x : Token) → Builds Operand' x (operand_rule x)
operand_builds t.Minus = λ xs r h. (Signed Negative h.1.0, cc)
operand_builds t.Bang = λ xs r h. (Signed Inverted h.1.0, cc)
operand_builds (t.Word w) = λ xs r h. (Signed NoSign (Name w), cc)
operand_builds (t.Number n) = λ xs r h. (Signed NoSign (Literal n), cc)
operand_builds t.LeftParen = λ xs r h. (Signed NoSign (Bracket h.1.0), cc)
operand_builds _ = tt

expr_of : (o : Operand) (xs m r : List Token) → xs ≡ operand_before o m → IsExprTail m r → Phrase Expr' xs r
expr_of o xs m r e (inl same) = (Alone o, cc)
expr_of o xs m r e (inr tail) = (Pair o tail.0 tail.1, cc)

expr_lift : (x : Token) (a : Answer) → Builds Operand' x a → Builds Expr' x (then_due a (ExprTail ∷ []))
expr_lift x (Takes s) h = λ xs r ph.
    let two = split s (ExprTail ∷ []) xs r ph in
    let o = h xs two.0 two.1 in
    expr_of o.0 (x ∷ xs) two.0 r o.1 (subst (λ q. IsExprTail two.0 q) two.2.2 two.2.1)
expr_lift x Passes h = λ r. let o = h r in (Alone o.0, o.1)
expr_lift x Stops h = tt

expr_builds : (x : Token) → Builds Expr' x (expr_rule x)
expr_builds x = expr_lift x (operand_rule x) (operand_builds x)

expr_tail_builds : (x : Token) → Builds ExprTail x (expr_tail_rule x)
expr_tail_builds t.Plus = λ xs r h. inr (Add, h.1.0, cc)
expr_tail_builds t.Minus = λ xs r h. inr (Subtract, h.1.0, cc)
expr_tail_builds t.Star = λ xs r h. inr (Multiply, h.1.0, cc)
expr_tail_builds t.Slash = λ xs r h. inr (Divide, h.1.0, cc)
expr_tail_builds t.Percent = λ xs r h. inr (Remainder, h.1.0, cc)
expr_tail_builds t.Ampersand = λ xs r h. inr (BitAnd, h.1.0, cc)
expr_tail_builds t.Bar = λ xs r h. inr (BitOr, h.1.0, cc)
expr_tail_builds t.EqualEqual = λ xs r h. inr (Equal, h.1.0, cc)
expr_tail_builds t.BangEqual = λ xs r h. inr (Unequal, h.1.0, cc)
expr_tail_builds t.Less = λ xs r h. inr (Less, h.1.0, cc)
expr_tail_builds t.LessEqual = λ xs r h. inr (AtMost, h.1.0, cc)
expr_tail_builds t.Greater = λ xs r h. inr (Greater, h.1.0, cc)
expr_tail_builds t.GreaterEqual = λ xs r h. inr (AtLeast, h.1.0, cc)
expr_tail_builds _ = λ r. inl refl

args_tail_builds : (x : Token) → Builds ArgsTail x (args_tail_rule x)
args_tail_builds t.Comma = λ xs r h. (h.1.0 ∷ h.2.1.0, cc)
args_tail_builds t.RightParen = λ xs r h. ([], cc)
args_tail_builds _ = tt

args_lift : (x : Token) (a : Answer) → IsFirm a → Builds Expr' x a → Builds Args x (then_due a (ArgsTail ∷ []))
args_lift x (Takes s) firm h = λ xs r ph.
    let two = split s (ArgsTail ∷ []) xs r ph in
    let e = h xs two.0 two.1 in
    (e.0 ∷ two.2.1.0, cc)
args_lift x Passes firm h = absurd firm
args_lift x Stops firm h = tt

args_builds : (x : Token) → Builds Args x (args_rule x)
args_builds t.RightParen = λ xs r h. ([], cc)
args_builds x = args_lift x (expr_rule x) (expr_firm x) (expr_builds x)

init_lift : (x : Token) (a : Answer) → IsFirm a → Builds Expr' x a → Builds Init' x a
init_lift x (Takes s) firm h = λ xs r ph. let e = h xs r ph in (Value e.0, e.1)
init_lift x Passes firm h = absurd firm
init_lift x Stops firm h = tt

init_of : (w : List ℕ) (xs m r : List Token) → Phrase InitTail xs m → m ≡ r → Phrase Init' (t.Word w ∷ xs) r
init_of w xs m r (inl tail) e = let v = expr_of (Signed NoSign (Name w)) (t.Word w ∷ xs) xs m refl tail in (Value v.0, v.1 ∙ ap (λ q. expr_before v.0 q) e)
init_of w xs m r (inr at) e = (Index w at.0, cc)

init_builds : (x : Token) → Builds Init' x (init_rule x)
init_builds t.Get = λ xs r h. (GetOf h.1.0, cc)
init_builds t.Create = λ xs r h. (CreateOf h.1.0 h.2.2.1.0, cc)
init_builds (t.Word w) = λ xs r h. init_of w xs h.0 r h.1 h.2
init_builds x = init_lift x (expr_rule x) (expr_firm x) (expr_builds x)

init_tail_lift : (x : Token) (a : Answer) → Builds ExprTail x a → Builds InitTail x a
init_tail_lift x (Takes s) h = λ xs r ph. inl (h xs r ph)
init_tail_lift x Passes h = λ r. inl (h r)
init_tail_lift x Stops h = tt

init_tail_builds : (x : Token) → Builds InitTail x (init_tail_rule x)
init_tail_builds t.LeftSquare = λ xs r h. inr (h.1.0, cc)
init_tail_builds x = init_tail_lift x (expr_tail_rule x) (expr_tail_builds x)

type_builds : (x : Token) → Builds Type' x (type_rule x)
type_builds t.Fut = λ xs r h. (suc h.1.0, cc)
type_builds t.Int = λ xs r h. (zero, cc)
type_builds _ = tt

length_builds : (x : Token) → Builds Length x (length_rule x)
length_builds t.LeftSquare = λ xs r h. inr (h.1.0, cc)
length_builds _ = λ r. inl refl

var_type_of : (d : ℕ) (xs m r : List Token) → xs ≡ type_before d m → IsLength m r → (v : VarType) × (xs ≡ var_type_before v r)
var_type_of d xs m r e (inl same) = (Plain d, cc)
var_type_of d xs m r e (inr n) = (Array d n.0, cc)

var_init_builds : (x : Token) → Builds VarInit x (var_init_rule x)
var_init_builds t.Equals = λ xs r h. inr (h.1.0, cc)
var_init_builds _ = λ r. inl refl

word_stmt_builds : (x : Token) → Builds WordStmt x (word_stmt_rule x)
word_stmt_builds t.Equals = λ xs r h. inl (h.1.0, cc)
word_stmt_builds t.LeftSquare = λ xs r h. inr (h.1.0, h.2.2.2.1.0, cc)
word_stmt_builds _ = tt

var_stmt_of : (w : List ℕ) (v : VarType) (xs m r : List Token) → xs ≡ t.Word w ∷ t.Colon ∷ var_type_before v m → IsVarInit m (t.Semicolon ∷ r)
    → (s : Stmt) × (t.Var ∷ xs ≡ stmt_before s r)
var_stmt_of w v xs m r e (inl same) = (Declare w v, cc)
var_stmt_of w v xs m r e (inr i) = (Define w v i.0, cc)

word_stmt_of : (w : List ℕ) (xs r : List Token) → IsWordStmt xs (t.Semicolon ∷ r) → (s : Stmt) × (t.Word w ∷ xs ≡ stmt_before s r)
word_stmt_of w xs r (inl i) = (Assign w i.0, cc)
word_stmt_of w xs r (inr e) = (Store w e.0 e.1, cc)

stmts_builds : (x : Token) → Builds Stmts x (stmts_rule x)
stmts_builds t.RightBrace = λ xs r h. (Done, cc)
stmts_builds t.Var = λ xs r h.
    let v = var_type_of h.2.2.1.0 h.2.0 h.2.2.0 h.2.2.2.0 h.2.2.1.1 h.2.2.2.1 in
    let s = var_stmt_of h.1.0 v.0 xs h.2.2.2.0 h.2.2.2.2.2.0 (cc) (subst (λ q. IsVarInit h.2.2.2.0 q) h.2.2.2.2.2.1 h.2.2.2.2.1) in
    (Then s.0 h.2.2.2.2.2.2.1.0, cc)
stmts_builds (t.Word w) = λ xs r h.
    let s = word_stmt_of w xs h.2.0 (subst (λ q. IsWordStmt xs q) h.2.1 h.1) in
    (Then s.0 h.2.2.1.0, cc)
stmts_builds t.Spawn = λ xs r h. (Then (SpawnOf h.1.0 h.2.2.1.0) h.2.2.2.2.1.0, cc)
stmts_builds t.Sync = λ xs r h. (Then SyncAll h.2.1.0, cc)
stmts_builds t.If = λ xs r h. (Then (If' h.1.0 h.2.1.0 h.2.2.1.0) h.2.2.2.1.0, cc)
stmts_builds t.While = λ xs r h. (Then (While' h.1.0 h.2.1.0) h.2.2.1.0, cc)
stmts_builds t.Return = λ xs r h. (Then (Return' h.1.0) h.2.2.1.0, cc)
stmts_builds _ = tt

block_builds : (x : Token) → Builds Block' x (block_rule x)
block_builds t.LeftBrace = λ xs r h. (h.1.0, cc)
block_builds _ = tt

else_builds : (x : Token) → Builds Else' x (else_rule x)
else_builds t.Else = λ xs r h. (ElseOf h.1.0, cc)
else_builds _ = λ r. (NoElse, refl)

abbrev param : List ℕ → VarType → Param
param w v = record { name = w; type = v }

params_builds : (x : Token) → Builds Params x (params_rule x)
params_builds (t.Word w) = λ xs r h.
    let v = var_type_of h.2.1.0 h.0 h.2.0 h.2.2.0 h.2.1.1 h.2.2.1 in
    (param w v.0 ∷ h.2.2.2.1.0, cc)
params_builds t.RightParen = λ xs r h. ([], cc)
params_builds _ = tt

params_tail_builds : (x : Token) → Builds ParamsTail x (params_tail_rule x)
params_tail_builds t.Comma = λ xs r h.
    let v = var_type_of h.2.2.1.0 h.2.0 h.2.2.0 h.2.2.2.0 h.2.2.1.1 h.2.2.2.1 in
    (param h.1.0 v.0 ∷ h.2.2.2.2.1.0, cc)
params_tail_builds t.RightParen = λ xs r h. ([], cc)
params_tail_builds _ = tt

first_builds : (x : Token) → Builds First x (first_rule x)
first_builds t.Cells = λ xs r h. (record { first = CellsOf h.1.0 h.2.2.1.0; others = h.2.2.2.2.2.1.0 }, cc)
first_builds t.Task = λ xs r h. (record { first = TaskOf h.1.0 h.2.2.1.0 h.2.2.2.1.0 h.2.2.2.2.1.0; others = h.2.2.2.2.2.1.0 }, cc)
first_builds _ = tt

more_builds : (x : Token) → Builds More x (more_rule x)
more_builds t.End = λ xs r h. ([], cc)
more_builds t.Cells = λ xs r h. (CellsOf h.1.0 h.2.2.1.0 ∷ h.2.2.2.2.2.1.0, cc)
more_builds t.Task = λ xs r h. (TaskOf h.1.0 h.2.2.1.0 h.2.2.2.1.0 h.2.2.2.2.1.0 ∷ h.2.2.2.2.2.1.0, cc)
more_builds _ = tt

word_builds : (x : Token) → Builds Word' x (word_rule x)
word_builds (t.Word w) = λ xs r h. (w, cc)
word_builds _ = tt

number_builds : (x : Token) → Builds Number' x (number_rule x)
number_builds (t.Number n) = λ xs r h. (n, cc)
number_builds _ = tt

left_paren_builds : (x : Token) → Builds LeftParen' x (left_paren_rule x)
left_paren_builds t.LeftParen = λ xs r h. cc
left_paren_builds _ = tt

right_paren_builds : (x : Token) → Builds RightParen' x (right_paren_rule x)
right_paren_builds t.RightParen = λ xs r h. cc
right_paren_builds _ = tt

left_square_builds : (x : Token) → Builds LeftSquare' x (left_square_rule x)
left_square_builds t.LeftSquare = λ xs r h. cc
left_square_builds _ = tt

right_square_builds : (x : Token) → Builds RightSquare' x (right_square_rule x)
right_square_builds t.RightSquare = λ xs r h. cc
right_square_builds _ = tt

semicolon_builds : (x : Token) → Builds Semicolon' x (semicolon_rule x)
semicolon_builds t.Semicolon = λ xs r h. cc
semicolon_builds _ = tt

colon_builds : (x : Token) → Builds Colon' x (colon_rule x)
colon_builds t.Colon = λ xs r h. cc
colon_builds _ = tt

equals_builds : (x : Token) → Builds Equals' x (equals_rule x)
equals_builds t.Equals = λ xs r h. cc
equals_builds _ = tt

builds : (a : Symbol) (x : Token) → Builds a x (rule a x)
builds First x = first_builds x
builds More x = more_builds x
builds Params x = params_builds x
builds ParamsTail x = params_tail_builds x
builds Type' x = type_builds x
builds Length x = length_builds x
builds Block' x = block_builds x
builds Stmts x = stmts_builds x
builds Else' x = else_builds x
builds VarInit x = var_init_builds x
builds WordStmt x = word_stmt_builds x
builds Init' x = init_builds x
builds InitTail x = init_tail_builds x
builds Args x = args_builds x
builds ArgsTail x = args_tail_builds x
builds Expr' x = expr_builds x
builds ExprTail x = expr_tail_builds x
builds Operand' x = operand_builds x
builds Primary' x = primary_builds x
builds Word' x = word_builds x
builds Number' x = number_builds x
builds LeftParen' x = left_paren_builds x
builds RightParen' x = right_paren_builds x
builds LeftSquare' x = left_square_builds x
builds RightSquare' x = right_square_builds x
builds Semicolon' x = semicolon_builds x
builds Colon' x = colon_builds x
builds Equals' x = equals_builds x

-- from here on no symbol is named

abbrev StepsBack : List Symbol → Token → List Symbol → Type 0
StepsBack s x s' = (xs r : List Token) → Phrases s' xs r → Phrases s (x ∷ xs) r

answer_back : (a : Symbol) (k : List Symbol) (x : Token) (answer : Answer) (passed : Option (List Symbol)) → Builds a x answer →
    ((s' : List Symbol) → passed ≡ Some s' → StepsBack k x s') → (s' : List Symbol) → by_answer answer k passed ≡ Some s' → StepsBack (a ∷ k) x s'
answer_back a k x (Takes s) passed h ih s' e = λ xs r ph.
    let same : s' ≡ s ++ k = cc in
    let two = split s k xs r (subst (λ (q : List Symbol). Phrases q xs r) same ph) in
    (two.0, h xs two.0 two.1, two.2)
answer_back a k x Passes passed h ih s' e = λ xs r ph. (x ∷ xs, h (x ∷ xs), ih s' e xs r ph)
answer_back a k x Stops passed h ih s' e = absurd (cc)

next_back : (s : List Symbol) (x : Token) (s' : List Symbol) → next s x ≡ Some s' → StepsBack s x s'
next_back [] x s' e = absurd (cc)
next_back (a ∷ k) x s' e = answer_back a k x (rule a x) (next k x) (builds a x) (next_back k x) s' e

pub walk_some : (xs : List Token) (o : Option (List Symbol)) (s' : List Symbol) → go_on o (λ s. walk s xs) ≡ Some s'
    → (m : List Symbol) × (o ≡ Some m) × (walk m xs ≡ Some s')
walk_some xs None s' e = absurd (cc)
walk_some xs (Some m) s' e = (m, refl, e)

-- what is due after some tokens completes them
pub walk_back : (xs : List Token) (s s' : List Symbol) → walk s xs ≡ Some s' → (ys r : List Token) → Phrases s' ys r → Phrases s (xs ++ ys) r
walk_back [] s s' e ys r h = let same : s ≡ s' = cc in subst (λ (q : List Symbol). Phrases q ys r) (sym same) h
walk_back (x ∷ xs) s s' e ys r h =
    let m = walk_some xs (next s x) s' e in
    next_back s x m.0 m.1 (xs ++ ys) r (walk_back xs m.0 s' m.2 ys r h)

abbrev nought : Expr
nought = Alone (Signed NoSign (Literal 0))

-- a simple phrase of each symbol
shortest : (a : Symbol) (r : List Token) → all_simple r ≡ true → (c : List Token) × Phrase a c r × (all_simple c ≡ true)
shortest First r h = (_, (record { first = CellsOf (97 ∷ []) 1; others = [] }, refl), h)
shortest More r h = (_, ([], refl), h)
shortest Params r h = (_, ([], refl), h)
shortest ParamsTail r h = (_, ([], refl), h)
shortest Type' r h = (_, (zero, refl), h)
shortest Length r h = (_, inl refl, h)
shortest Block' r h = (_, (Done, refl), h)
shortest Stmts r h = (_, (Done, refl), h)
shortest Else' r h = (_, (NoElse, refl), h)
shortest VarInit r h = (_, inl refl, h)
shortest WordStmt r h = (_, inl (Value nought, refl), h)
shortest Init' r h = (_, (Value nought, refl), h)
shortest InitTail r h = (_, inl (inl refl), h)
shortest Args r h = (_, ([], refl), h)
shortest ArgsTail r h = (_, ([], refl), h)
shortest Expr' r h = (_, (nought, refl), h)
shortest ExprTail r h = (_, inl refl, h)
shortest Operand' r h = (_, (Signed NoSign (Literal 0), refl), h)
shortest Primary' r h = (_, (Literal 0, refl), h)
shortest Word' r h = (_, (97 ∷ [], refl), h)
shortest Number' r h = (_, (0, refl), h)
shortest LeftParen' r h = (_, refl, h)
shortest RightParen' r h = (_, refl, h)
shortest LeftSquare' r h = (_, refl, h)
shortest RightSquare' r h = (_, refl, h)
shortest Semicolon' r h = (_, refl, h)
shortest Colon' r h = (_, refl, h)
shortest Equals' r h = (_, refl, h)

pub completion : (s : List Symbol) (r : List Token) → all_simple r ≡ true → (c : List Token) × Phrases s c r × (all_simple c ≡ true)
completion [] r h = (r, refl, h)
completion (a ∷ k) r h =
    let rest = completion k r h in
    let front = shortest a rest.0 rest.2 in
    (front.0, (rest.0, front.1, rest.1), front.2)

-- what the machine goes through is begun
pub begins : (xs : List Token) (s : List Symbol) → walk (First ∷ []) xs ≡ Some s → IsBegun xs
begins xs s e =
    let c = completion s [] refl in
    let h = walk_back xs (First ∷ []) s e c.0 [] c.1 in
    (h.1.0, c.0, sym (h.1.1 ∙ ap (λ r. program_before h.1.0 r) h.2), c.2)

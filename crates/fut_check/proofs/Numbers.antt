-- The numbers of a text have 63 bits.
use Rattle.std.proofs.Common.{◌≡◌, ℕ, zero, suc, Bool, true, false, ◌&&◌, List, [], ◌∷◌, refl, subst}
use Rattle.std.specs.Prelude.{Option, Some, None, nat_le, nat_eq, bytes_eq, if◌then◌else◌}
use Rattle.std.proofs.lemmas.Option.{same_Some}
use Rattle.std.proofs.lemmas.Bool.{and_from}
use Rattle.fut_base.proofs.Cases.{by_bool}
use Rattle.fut_tokens.specs.declared.token.Token.{Token}
use Rattle.fut_tokens.specs.declared.token.Token.TheVariants as t
use Rattle.fut_tokens.specs.declared.kind.Mark.{Mark}
use Rattle.fut_tokens.specs.declared.kind.Mark.TheVariants.{Alone as Lone, Paired}
use Rattle.fut_tokens.specs.Cut.{Class, Letter, Digit, Blank, Other, Piece, Space, Comment, Lexeme, IsCut, each, is_word, is_digit}
use Rattle.fut_tokens.specs.Cut.{look_up, keywords, symbols, keyword_of, mark_of, class_of, is_letter, is_blank, plain_word}
use Rattle.fut_tokens.specs.Cut.{word_or, word_token, value_from, has_leading_zero, in_range, number_token, token_by, token_of}
use Rattle.fut_tokens.specs.Lexed.{tokens_of}
use Rattle.fut_syntax.specs.Trees.{Sign, NoSign, Negative, Inverted, Expr, Alone, Pair, Operand, Signed, Primary, Literal, Name, Bracket, Init}
use Rattle.fut_syntax.specs.Trees.{GetOf, CreateOf, Index, Value, VarType, Plain, Array, Stmt, Declare, Define, Assign, Store, SpawnOf, SyncAll}
use Rattle.fut_syntax.specs.Trees.{If', While', Return', Block, Done, Then, Tail, NoElse, ElseOf, Param, Item, CellsOf, TaskOf, Program}
use Rattle.fut_syntax.specs.Tokens.{op_token, sign_before, expr_before, operand_before, primary_before, more_before}
use Rattle.fut_syntax.specs.Tokens.{args_before, init_before, type_before, var_type_before, stmt_before, block_before}
use Rattle.fut_syntax.specs.Tokens.{tail_before, param_before, more_params_before, params_before, items_before, program_tokens}
use Rattle.fut_check.specs.Numbers.{expr_fits, operand_fits, primary_fits, each_fits, init_fits, stmt_fits, block_fits, tail_fits, items_fit, numbers_fit}

abbrev pub is_in_range : Token → Bool
is_in_range (t.Number n) = nat_le n 9223372036854775807
is_in_range _ = true

abbrev pub AreInRange : List Token → Type 0
AreInRange [] = Unit {0}
AreInRange (x ∷ xs) = (is_in_range x ≡ true) × AreInRange xs

-- ---- tokens of a text

none_some : {X : Type 0} (x : X) → None ≡ Some x → ⊥
none_some x h = cc

-- what a table has is one of its entries
abbrev EachEntry : {K A : Type 0} → (A → Type 0) → List (K × A) → Type 0
EachEntry P [] = Unit {0}
EachEntry P (e ∷ table) = P e.1 × EachEntry P table

found_in : {K A : Type 0} (P : A → Type 0) (test : K → Bool) (table : List (K × A)) (x : A) → EachEntry P table → look_up test table ≡ Some x → P x
found_in P test [] x h e = absurd (none_some x e)
found_in P test (k ∷ table) x h e =
    by_bool (λ b. (if b then Some k.1 else look_up test table) ≡ Some x → P x) (test k.0)
    (λ t i. subst P (same_Some k.1 x i) h.0) (λ f i. found_in P test table x h.1 i) e

abbrev IsGood : Token → Type 0
IsGood x = is_in_range x ≡ true

keyword_good : (w : List ℕ) (x : Token) → keyword_of w ≡ Some x → IsGood x
unfolding keyword_of
keyword_good w x e = found_in IsGood (bytes_eq w) keywords x
    (refl, (refl, (refl, (refl, (refl, (refl, (refl, (refl, (refl, (refl, (refl, (refl, (refl, (refl, tt)))))))))))))) e

abbrev IsGoodMark : Mark → Type 0
IsGoodMark (Lone x) = IsGood x
IsGoodMark (Paired x y) = IsGood x × IsGood y

mark_good : (b : ℕ) (m : Mark) → mark_of b ≡ Some m → IsGoodMark m
unfolding mark_of
mark_good b m e =
    found_in IsGoodMark (nat_eq b) symbols m (
      refl,
      (
        refl,
        (
          refl,
          (
            refl,
            (
              refl,
              (
                refl,
                (
                  refl,
                  (refl, (refl, ((refl, refl), (refl, (refl, (refl, (refl, (refl, (refl, (refl, ((refl, refl), ((refl, refl), ((refl, refl), tt))))))))))))),
                ),
              ),
            ),
          ),
        ),
      ),
    ) e

plain_good : (w : List ℕ) → IsGood (plain_word w)
plain_good w = by_bool (λ b. IsGood (if b then t.Word w else t.Scrap)) (nat_le _ 32) (λ t. refl) (λ f. refl)

word_good : (w : List ℕ) → IsGood (word_token w)
word_good w = by (keyword_of w) refl
  where
    by : (o : Option Token) → keyword_of w ≡ o → IsGood (word_or o w)
    by None e = plain_good w
    by (Some x) e = keyword_good w x e

number_good : (ds : List ℕ) → IsGood (number_token ds)
number_good ds =
    by_bool (λ b. IsGood (if b then t.Scrap else in_range (value_from 0 ds))) (has_leading_zero ds) (λ t. refl)
    (λ f. ranged (value_from 0 ds))
  where
    ranged : (n : ℕ) → IsGood (in_range n)
    ranged n = by_bool (λ b. nat_le n 9223372036854775807 ≡ b → IsGood (if b then t.Number n else t.Scrap)) (nat_le n 9223372036854775807) (λ t e. e)
        (λ f e. refl) refl

abbrev IsGoodClass : Class → Type 0
IsGoodClass (Other (Some m)) = IsGoodMark m
IsGoodClass _ = Unit {0}

class_good : (b : ℕ) → IsGoodClass (class_of b)
class_good b =
    by_bool (λ c. IsGoodClass (if c then Letter else (if is_digit b then Digit else (if is_blank b then Blank else Other (mark_of b))))) (is_letter b) (λ t. tt)
    (λ f. by_bool (λ c. IsGoodClass (if c then Digit else (if is_blank b then Blank else Other (mark_of b)))) (is_digit b) (λ t. tt)
    (λ f. by_bool (λ c. IsGoodClass (if c then Blank else Other (mark_of b))) (is_blank b) (λ t. tt) (λ f. other (mark_of b) refl)))
  where
    other : (o : Option Mark) → mark_of b ≡ o → IsGoodClass (Other o)
    other None e = tt
    other (Some m) e = mark_good b m e

if_some : (c : Bool) (y x : Token) → (if c then Some y else None) ≡ Some x → y ≡ x
if_some true y x e = same_Some y x e
if_some false y x e = absurd (none_some x e)

token_good : (k : Class) (b : ℕ) (bs : List ℕ) (x : Token) → IsGoodClass k → token_by k b bs ≡ Some x → IsGood x
token_good Letter b bs x g e = subst IsGood (if_some (each is_word bs) (word_token (b ∷ bs)) x e) (word_good (b ∷ bs))
token_good Digit b bs x g e = subst IsGood (if_some (each is_digit bs) (number_token (b ∷ bs)) x e) (number_good (b ∷ bs))
token_good Blank b bs x g e = absurd (none_some x e)
token_good (Other None) b [] x g e = subst IsGood (same_Some t.Scrap x e) refl
token_good (Other None) b (c ∷ bs) x g e = absurd (none_some x e)
token_good (Other (Some (Lone y))) b [] x g e = subst IsGood (same_Some y x e) g
token_good (Other (Some (Lone y))) b (c ∷ bs) x g e = absurd (none_some x e)
token_good (Other (Some (Paired y z))) b [] x g e = subst IsGood (same_Some y x e) g.0
token_good (Other (Some (Paired y z))) b (c ∷ []) x g e = subst IsGood (if_some (nat_eq c 61) z x e) g.1
token_good (Other (Some (Paired y z))) b (c ∷ d ∷ bs) x g e = absurd (none_some x e)

lexeme_good : (bs : List ℕ) (x : Token) → token_of bs ≡ Some x → IsGood x
lexeme_good [] x e = absurd (none_some x e)
lexeme_good (b ∷ bs) x e = token_good (class_of b) b bs x (class_good b) e

pub cut_in_range : (ps : List Piece) (bytes : List ℕ) → IsCut bytes ps → AreInRange (tokens_of ps)
cut_in_range [] bytes h = (refl, tt)
cut_in_range (Space b ∷ ps) bytes (rest, is, fits, cut) = cut_in_range ps rest cut
cut_in_range (Comment c ∷ ps) bytes (rest, is, fits, cut) = cut_in_range ps rest cut
cut_in_range (Lexeme bs x ∷ ps) bytes (rest, is, fits, cut) = (lexeme_good bs x fits.0, cut_in_range ps rest cut)

-- ---- trees of such tokens

-- a part fits, and what stands behind it is in range
abbrev Fits : Bool → List Token → Type 0
Fits b r = (b ≡ true) × AreInRange r

sign_behind : (s : Sign) (r : List Token) → AreInRange (sign_before s r) → AreInRange r
sign_behind NoSign r h = h
sign_behind Negative r h = h.1
sign_behind Inverted r h = h.1

mutual
  fit_expr : (e : Expr) (r : List Token) → AreInRange (expr_before e r) → Fits (expr_fits e) r
  fit_expr (Alone x) r h = fit_operand x r h
  fit_expr (Pair x o y) r h =
      let a = fit_operand x (op_token o ∷ operand_before y r) h in
      let b = fit_operand y r a.1.1 in
      (and_from (operand_fits x) (operand_fits y) a.0 b.0, b.1)

  fit_operand : (x : Operand) (r : List Token) → AreInRange (operand_before x r) → Fits (operand_fits x) r
  fit_operand (Signed s p) r h = fit_primary p r (sign_behind s (primary_before p r) h)

  fit_primary : (p : Primary) (r : List Token) → AreInRange (primary_before p r) → Fits (primary_fits p) r
  fit_primary (Literal n) r h = h
  fit_primary (Name w) r h = (refl, h.1)
  fit_primary (Bracket e) r h = (let a = fit_expr e (t.RightParen ∷ r) h.1 in (a.0, a.1.1))

fit_more : (es : List Expr) (r : List Token) → AreInRange (more_before es r) → Fits (each_fits es) r
fit_more [] r h = (refl, h.1)
fit_more (e ∷ es) r h =
    let a = fit_expr e (more_before es r) h.1 in
    let b = fit_more es r a.1 in
    (and_from (expr_fits e) (each_fits es) a.0 b.0, b.1)

fit_args : (es : List Expr) (r : List Token) → AreInRange (args_before es r) → Fits (each_fits es) r
fit_args [] r h = (refl, h.1)
fit_args (e ∷ es) r h =
    let a = fit_expr e (more_before es r) h in
    let b = fit_more es r a.1 in
    (and_from (expr_fits e) (each_fits es) a.0 b.0, b.1)

fit_init : (i : Init) (r : List Token) → AreInRange (init_before i r) → Fits (init_fits i) r
fit_init (GetOf w) r h = (refl, h.1.1)
fit_init (CreateOf w es) r h = fit_args es r h.1.1.1
fit_init (Index w e) r h = let a = fit_expr e (t.RightSquare ∷ r) h.1.1 in (a.0, a.1.1)
fit_init (Value e) r h = fit_expr e r h

type_behind : (d : ℕ) (r : List Token) → AreInRange (type_before d r) → AreInRange r
type_behind zero r h = h.1
type_behind (suc d) r h = type_behind d r h.1

var_type_behind : (v : VarType) (r : List Token) → AreInRange (var_type_before v r) → AreInRange r
var_type_behind (Plain d) r h = type_behind d r h
var_type_behind (Array d n) r h = let a = type_behind d (t.LeftSquare ∷ t.Number n ∷ t.RightSquare ∷ r) h in a.1.1.1

mutual
  fit_stmt : (s : Stmt) (r : List Token) → AreInRange (stmt_before s r) → Fits (stmt_fits s) r
  fit_stmt (Declare w v) r h = (refl, (var_type_behind v (t.Semicolon ∷ r) h.1.1.1).1)
  fit_stmt (Define w v i) r h =
      (let a = fit_init i (t.Semicolon ∷ r) (var_type_behind v (t.Equals ∷ init_before i (t.Semicolon ∷ r)) h.1.1.1).1 in (a.0, a.1.1))
  fit_stmt (Assign w i) r h = (let a = fit_init i (t.Semicolon ∷ r) h.1.1 in (a.0, a.1.1))
  fit_stmt (Store w e f) r h =
      let a = fit_expr e (t.RightSquare ∷ t.Equals ∷ expr_before f (t.Semicolon ∷ r)) h.1.1 in
      let b = fit_expr f (t.Semicolon ∷ r) a.1.1.1 in
      (and_from (expr_fits e) (expr_fits f) a.0 b.0, b.1.1)
  fit_stmt (SpawnOf w es) r h = (let a = fit_args es (t.Semicolon ∷ r) h.1.1.1 in (a.0, a.1.1))
  fit_stmt SyncAll r h = (refl, h.1.1)
  fit_stmt (If' e b o) r h =
      let a = fit_expr e (t.LeftBrace ∷ block_before b (tail_before o r)) h.1 in
      let k = fit_block b (tail_before o r) a.1.1 in
      let l = fit_tail o r k.1 in
      (and_from (expr_fits e && block_fits b) (tail_fits o) (and_from (expr_fits e) (block_fits b) a.0 k.0) l.0, l.1)
  fit_stmt (While' e b) r h =
      let a = fit_expr e (t.LeftBrace ∷ block_before b r) h.1 in
      let k = fit_block b r a.1.1 in
      (and_from (expr_fits e) (block_fits b) a.0 k.0, k.1)
  fit_stmt (Return' e) r h = (let a = fit_expr e (t.Semicolon ∷ r) h.1 in (a.0, a.1.1))

  fit_block : (b : Block) (r : List Token) → AreInRange (block_before b r) → Fits (block_fits b) r
  fit_block Done r h = (refl, h.1)
  fit_block (Then s b) r h =
      let a = fit_stmt s (block_before b r) h in
      let k = fit_block b r a.1 in
      (and_from (stmt_fits s) (block_fits b) a.0 k.0, k.1)

  fit_tail : (o : Tail) (r : List Token) → AreInRange (tail_before o r) → Fits (tail_fits o) r
  fit_tail NoElse r h = (refl, h)
  fit_tail (ElseOf b) r h = fit_block b r h.1.1

param_behind : (p : Param) (r : List Token) → AreInRange (param_before p r) → AreInRange r
param_behind p r h = var_type_behind p.type r h.1.1

more_params_behind : (ps : List Param) (r : List Token) → AreInRange (more_params_before ps r) → AreInRange r
more_params_behind [] r h = h.1
more_params_behind (p ∷ ps) r h = more_params_behind ps r (param_behind p (more_params_before ps r) h.1)

params_behind : (ps : List Param) (r : List Token) → AreInRange (params_before ps r) → AreInRange r
params_behind [] r h = h.1
params_behind (p ∷ ps) r h = more_params_behind ps r (param_behind p (more_params_before ps r) h)

fit_items : (is : List Item) (r : List Token) → AreInRange (items_before is r) → items_fit is ≡ true
fit_items [] r h = refl
fit_items (CellsOf w n ∷ is) r h = fit_items is r h.1.1.1.1.1.1
fit_items (TaskOf w ps d b ∷ is) r h =
    let body = t.LeftBrace ∷ block_before b (items_before is r) in
    let a = fit_block b (items_before is r) (type_behind d body (params_behind ps (type_before d body) h.1.1.1)).1 in
    and_from (block_fits b) (items_fit is) a.0 (fit_items is r a.1)

pub fit_program : (P : Program) → AreInRange (program_tokens P) → numbers_fit P ≡ true
fit_program P h = fit_items (P.first ∷ P.others) [] h

-- What a program without faults is: names that differ, good types, and bodies without faults.
use Rattle.std.proofs.Common.{◌≡◌, ◌≢◌, ℕ, zero, suc, ◌+◌, Bool, true, false, not, ◌&&◌, List, [], ◌∷◌, ◌++◌}
use Rattle.std.proofs.Common.{append_assoc, inl, inr, refl, sym, ap, ◌∙◌, subst, arith, eq-eqb, append-nil, lt-ltb}
use Rattle.std.specs.Prelude.{Some, bytes_eq, nat_eq, nat_lt, slice_get}
use Rattle.std.proofs.lemmas.Bool.{not-false, or_parts, both_ways}
use Rattle.std.proofs.lemmas.Option.{same_Some}
use Rattle.fut_base.proofs.Members.{among_split, among_left, among_right}
use Rattle.fut_base.specs.Dag.{Among}
use Rattle.fut_syntax.specs.Trees as tree
use Rattle.fut_rules.specs.declared.kind.Kind.{Kind}
use Rattle.fut_rules.specs.declared.kind.Kind.TheVariants as kind
use Rattle.fut_rules.specs.declared.fault.Rule.TheVariants as rule
use Rattle.fut_rules.specs.declared.names.Variable.{Variable}
use Rattle.fut_rules.specs.Faults.{fault_if}
use Rattle.fut_rules.specs.Kinds.{kind_of, size, plain, init_need}
use Rattle.fut_rules.specs.Names.{Scope, declares, is_named, slots, variable, tasks, is_main}
use Rattle.fut_rules.specs.Exprs.{needed_faults, for_int}
use Rattle.fut_rules.specs.Inits.{init_faults}
use Rattle.fut_rules.specs.Widths.{expr_width, type_width, stmt_width, block_width, param_width, params_width, item_width}
use Rattle.fut_check.specs.Stmts.{type_faults, depth_faults, is_bad_length, is_doubled, declared_faults, is_handle, shown, declared_in, declared_in_block}
use Rattle.fut_check.specs.Stmts.{declared_in_tail, with_declared, scope_after, stmt_faults, block_faults, tail_faults, is_return, ends_with, ends_with_return}
use Rattle.fut_check.specs.Items.{items_of, param_variable, param_variables, is_over, param_faults, params_faults, has_params}
use Rattle.fut_check.specs.Items.{opening_scope, body_faults, head_faults, item_faults, items_faults, IsWellTyped}
use Rattle.task_machine.specs.Texts.{stmts_of}
use Rattle.task_types.specs.Typed.{Text, texts_from, text_at, variables_of, AllAmong, AllBreakNone, EndsWithReturn}
use Rattle.task_types.proofs.Slots.{no_some, nil_left, nil_right, nil_three, not_found, same_word}

-- an array has elements, and they are handles
abbrev pub IsGoodKind : Kind → Type 0
IsGoodKind kind.Int = Unit {0}
IsGoodKind (kind.Handle d) = Unit {0}
IsGoodKind (kind.Array d n) = (d ≢ 0) × (n ≢ 0)

-- variables whose names differ, and are no global names
pub record AreApart (globals : List tree.Item) (xs : List Variable) : Type 0 where
  pub one : (x y : Variable) → Among x xs → Among y xs → x.name ≡ y.name → x ≡ y
  pub local : (x : Variable) → Among x xs → declares globals x.name ≡ false
  pub good : (x : Variable) → Among x xs → IsGoodKind x.kind

not_named : (xs : List Variable) (w : List ℕ) (x : Variable) → is_named xs w ≡ false → Among x xs → x.name ≡ w → ⊥
not_named [] w x h a e = absurd a
not_named (y ∷ ys) w x h (inl same) e =
    both_ways (bytes_eq y.name w) (or_parts (bytes_eq y.name w) (is_named ys w) h).0 (same_word y.name w (ap (λ (z : Variable). z.name) same ∙ e))
not_named (y ∷ ys) w x h (inr a) e = not_named ys w x (or_parts (bytes_eq y.name w) (is_named ys w) h).1 a e

only_one : {X : Type 0} (x y : X) → Among x (y ∷ []) → y ≡ x
only_one x y (inl e) = e
only_one x y (inr a) = absurd a

pub one_more : (globals : List tree.Item) (xs : List Variable) (x : Variable) (n : ℕ) → AreApart globals xs → declared_faults globals xs n x ≡ []
    → IsGoodKind x.kind → AreApart globals (xs ++ x ∷ [])
one_more globals xs x n a f g =
    let doubled : is_doubled globals xs x.name ≡ false =
    not_found (is_doubled globals xs x.name) n rule.DoubledName
    (nil_left (fault_if (is_doubled globals xs x.name) n rule.DoubledName) (fault_if (nat_lt 80 (slots xs + size x.kind)) n rule.ConstantLimit) f) in
    let parts = or_parts (is_named xs x.name) (declares globals x.name) doubled in
    record {
      one = λ y z i j e. elim (among_split y xs (x ∷ []) i) [
        | inl l ↦ elim (among_split z xs (x ∷ []) j) [
          | inl m ↦ a.one y z l m e
          | inr m ↦ absurd (not_named xs x.name y parts.0 l (e ∙ ap (λ (q : Variable). q.name) (sym (only_one z x m))))
        ]
        | inr l ↦ elim (among_split z xs (x ∷ []) j) [
          | inl m ↦ absurd (not_named xs x.name z parts.0 m (sym e ∙ ap (λ (q : Variable). q.name) (sym (only_one y x l))))
          | inr m ↦ sym (only_one y x l) ∙ only_one z x m
        ]
      ];
      local = λ y i. elim (among_split y xs (x ∷ []) i) [
        | inl l ↦ a.local y l
        | inr l ↦ subst (λ (q : Variable). declares globals q.name ≡ false) (only_one y x l) parts.1
      ];
      good = λ y i. elim (among_split y xs (x ∷ []) i) [ inl l ↦ a.good y l | inr l ↦ subst (λ (q : Variable). IsGoodKind q.kind) (only_one y x l) g ];
    }

pub none_apart : (globals : List tree.Item) → AreApart globals []
none_apart globals = record { one = λ x y i j e. absurd i; local = λ x i. absurd i; good = λ x i. absurd i }

ne_of_test : (a b : ℕ) → nat_eq a b ≡ false → a ≢ b
ne_of_test a b h e = both_ways (nat_eq a b) h (eq-eqb a b e)

plain_good : (d : ℕ) → IsGoodKind (plain d)
plain_good zero = tt
plain_good (suc d) = tt

pub type_good : (n : ℕ) (v : tree.VarType) → type_faults n v ≡ [] → IsGoodKind (kind_of v)
type_good n (tree.Plain d) f = plain_good d
type_good n (tree.Array d m) f =
    let parts = nil_three (depth_faults n d) (fault_if (nat_eq d 0) (n + d) rule.IntForHandle) (fault_if (is_bad_length m) (n + d + 2) rule.ArrayLength) f in
    let bad = not_found (is_bad_length m) (n + d + 2) rule.ArrayLength parts.2 in
    (ne_of_test d 0 (not_found (nat_eq d 0) (n + d) rule.IntForHandle parts.1), ne_of_test m 0 (or_parts (nat_eq m 0) (nat_lt 64 m) bad).0)

-- ---- parameters

pub params_apart : (globals : List tree.Item) (before : List Variable) (n : ℕ) (ps : List tree.Param) → AreApart globals before
    → params_faults globals before n ps ≡ [] → AreApart globals (before ++ param_variables ps)
params_apart globals before n [] a f = subst (AreApart globals) (sym (append-nil before)) a
params_apart globals before n (p ∷ ps) a f =
    let own = nil_left (param_faults globals before n p) (params_faults globals (before ++ param_variable p ∷ []) (n + param_width p) ps) f in
    let rest = nil_right (param_faults globals before n p) (params_faults globals (before ++ param_variable p ∷ []) (n + param_width p) ps) f in
    let parts = nil_three (declared_faults globals before n (param_variable p)) (fault_if (is_over before (kind_of p.type)) n rule.ConstantLimit)
    (type_faults (n + 2) p.type) own in
    subst (AreApart globals) (append_assoc before (param_variable p ∷ []) (param_variables ps))
    (params_apart globals (before ++ param_variable p ∷ []) (n + param_width p) ps
    (one_more globals before (param_variable p) n a parts.0 (type_good (n + 2) p.type parts.2)) rest)

-- ---- bodies

-- the parts of an `if` without faults
pub record IfParts (globals : List tree.Item) (s : Scope) (n : ℕ) (e : tree.Expr) (b : tree.Block) (o : tree.Tail) : Type 0 where
  pub test : needed_faults s.visible (n + 1) for_int e ≡ []
  pub block : block_faults globals s (n + 1 + expr_width e + 1) b ≡ []
  pub tail : tail_faults globals (with_declared s (declared_in_block b)) (n + 1 + expr_width e + 1 + block_width b + 1) o ≡ []

pub if_parts : (globals : List tree.Item) (s : Scope) (n : ℕ) (e : tree.Expr) (b : tree.Block) (o : tree.Tail) → stmt_faults globals s n (tree.If' e b o) ≡ []
    → IfParts globals s n e b o
if_parts globals s n e b o f =
    let parts = nil_three (needed_faults s.visible (n + 1) for_int e) (block_faults globals s (n + 1 + expr_width e + 1) b)
    (tail_faults globals (with_declared s (declared_in_block b)) (n + 1 + expr_width e + 1 + block_width b + 1) o) f in
    record { test = parts.0; block = parts.1; tail = parts.2 }

pub while_block : (globals : List tree.Item) (s : Scope) (n : ℕ) (e : tree.Expr) (b : tree.Block) → stmt_faults globals s n (tree.While' e b) ≡ []
    → block_faults globals s (n + 1 + expr_width e + 1) b ≡ []
while_block globals s n e b f = nil_right (needed_faults s.visible (n + 1) for_int e) (block_faults globals s (n + 1 + expr_width e + 1) b) f

nothing_more : (globals : List tree.Item) (xs : List Variable) → AreApart globals xs → AreApart globals (xs ++ [])
nothing_more globals xs a = subst (AreApart globals) (sym (append-nil xs)) a

mutual
  pub stmt_apart : (globals : List tree.Item) (s : Scope) (n : ℕ) (x : tree.Stmt) → AreApart globals s.declared → stmt_faults globals s n x ≡ []
      → AreApart globals (s.declared ++ declared_in x)
  stmt_apart globals s n (tree.Declare w v) a f =
      (let parts = nil_three (declared_faults globals s.declared (n + 1) (variable w v)) (type_faults (n + 3) v)
      (fault_if (is_handle (kind_of v)) (n + 1) rule.NoValue) f in
      one_more globals s.declared (variable w v) (n + 1) a parts.0 (type_good (n + 3) v parts.1))
  stmt_apart globals s n (tree.Define w v i) a f =
      (let parts = nil_three (declared_faults globals s.declared (n + 1) (variable w v)) (type_faults (n + 3) v)
      (init_faults globals s.visible (n + 3 + type_width v + 1) (Some (init_need (kind_of v))) i) f in
      one_more globals s.declared (variable w v) (n + 1) a parts.0 (type_good (n + 3) v parts.1))
  stmt_apart globals s n (tree.Assign w i) a f = nothing_more globals s.declared a
  stmt_apart globals s n (tree.Store w e g) a f = nothing_more globals s.declared a
  stmt_apart globals s n (tree.SpawnOf w es) a f = nothing_more globals s.declared a
  stmt_apart globals s n tree.SyncAll a f = nothing_more globals s.declared a
  stmt_apart globals s n (tree.If' e b o) a f =
      let parts = if_parts globals s n e b o f in
      subst (AreApart globals) (append_assoc s.declared (declared_in_block b) (declared_in_tail o))
      (tail_apart globals (with_declared s (declared_in_block b)) (n + 1 + expr_width e + 1 + block_width b + 1) o
      (block_apart globals s (n + 1 + expr_width e + 1) b a parts.block) parts.tail)
  stmt_apart globals s n (tree.While' e b) a f = block_apart globals s (n + 1 + expr_width e + 1) b a (while_block globals s n e b f)
  stmt_apart globals s n (tree.Return' e) a f = nothing_more globals s.declared a

  pub block_apart : (globals : List tree.Item) (s : Scope) (n : ℕ) (b : tree.Block) → AreApart globals s.declared → block_faults globals s n b ≡ []
      → AreApart globals (s.declared ++ declared_in_block b)
  block_apart globals s n tree.Done a f = nothing_more globals s.declared a
  block_apart globals s n (tree.Then x b) a f =
      let own = nil_left (stmt_faults globals s n x) (block_faults globals (scope_after s x) (n + stmt_width x) b) f in
      let rest = nil_right (stmt_faults globals s n x) (block_faults globals (scope_after s x) (n + stmt_width x) b) f in
      subst (AreApart globals) (append_assoc s.declared (declared_in x) (declared_in_block b))
      (block_apart globals (scope_after s x) (n + stmt_width x) b (stmt_apart globals s n x a own) rest)

  pub tail_apart : (globals : List tree.Item) (s : Scope) (n : ℕ) (o : tree.Tail) → AreApart globals s.declared → tail_faults globals s n o ≡ []
      → AreApart globals (s.declared ++ declared_in_tail o)
  tail_apart globals s n tree.NoElse a f = nothing_more globals s.declared a
  tail_apart globals s n (tree.ElseOf b) a f = block_apart globals s (n + 2) b a f

-- the statements of a block without faults break no rule
pub block_none : (globals : List tree.Item) (t : Text) (s : Scope) (n : ℕ) (known : List Variable) (b : tree.Block) → s.returns ≡ t.depth
    → AllAmong s.visible known → AllAmong (declared_in_block b) (variables_of t) → block_faults globals s n b ≡ [] → AllBreakNone globals t known (stmts_of b)
block_none globals t s n known tree.Done r v d f = tt
block_none globals t s n known (tree.Then x b) r v d f =
    let own = nil_left (stmt_faults globals s n x) (block_faults globals (scope_after s x) (n + stmt_width x) b) f in
    let rest = nil_right (stmt_faults globals s n x) (block_faults globals (scope_after s x) (n + stmt_width x) b) f in (
      record { scope = s; at = n; returns = r; visible = v; declared = λ y i. d y (among_left y (declared_in x) (declared_in_block b) i); clean = own },
      block_none globals t (scope_after s x) (n + stmt_width x) (known ++ shown x) b r
          (λ y i. elim (among_split y s.visible (shown x) i) [ inl l ↦ among_left y known (shown x) (v y l) | inr l ↦ among_right y known (shown x) l ])
          (λ y i. d y (among_right y (declared_in x) (declared_in_block b) i)) rest,
    )

-- ---- the last statement

after_any : (b : tree.Block) (x : tree.Stmt) → ends_with (is_return x) b ≡ true → EndsWithReturn (x ∷ stmts_of b)
after_any tree.Done x h = h
after_any (tree.Then y b) x h = after_any b y h

pub body_ends : (b : tree.Block) → ends_with_return b ≡ true → EndsWithReturn (stmts_of b)
body_ends tree.Done h = absurd (let e : false ≡ true = h in cc)
body_ends (tree.Then x b) h = after_any b x h

-- ---- the tasks of a program

-- a task of a program without faults
pub record IsGoodText (globals : List tree.Item) (t : Text) : Type 0 where
  pub apart : AreApart globals (variables_of t)
  pub starts : AllBreakNone globals t (param_variables t.params) (stmts_of t.body)
  pub returns : t.depth ≢ 0 → EndsWithReturn (stmts_of t.body)
  pub at : ℕ
  pub params : params_faults globals [] at t.params ≡ []

and_false : (a b : Bool) → (a && b) ≡ false → a ≡ true → b ≡ false
and_false true b h e = h
and_false false b h e = absurd (let q : false ≡ true = e in cc)

positive : (d : ℕ) → d ≢ 0 → nat_lt 0 d ≡ true
positive d ne = lt-ltb 0 d (omega (arith, ne))

task_good : (globals before : List tree.Item) (n : ℕ) (w : List ℕ) (ps : List tree.Param) (d : ℕ) (b : tree.Block)
    → item_faults globals before n (tree.TaskOf w ps d b) ≡ [] → IsGoodText globals (record { params = ps; depth = d; body = b })
task_good globals before n w ps d b f =
    let head = nil_left (head_faults globals before n w ps d) (body_faults globals (opening_scope d ps) (n + 3 + params_width ps + d + 2) b) f in
    let body = nil_right (head_faults globals before n w ps d) (body_faults globals (opening_scope d ps) (n + 3 + params_width ps + d + 2) b) f in
    let names = fault_if (declares before w) (n + 1) rule.DoubledName ++ fault_if (nat_eq (tasks before) 256) (n + 1) rule.ConstantLimit in
    let mains = fault_if (is_main w && has_params ps) (n + 3) rule.MainParameters in
    let front = nil_left (names ++ mains ++ params_faults globals [] (n + 3) ps) (depth_faults (n + 3 + params_width ps) d) head in
    let params = nil_right (names ++ mains) (params_faults globals [] (n + 3) ps) front in
    let block = nil_left (block_faults globals (opening_scope d ps) (n + 3 + params_width ps + d + 2) b)
    (fault_if (nat_lt 0 d && not (ends_with_return b)) (n + 3 + params_width ps + d + 2 + block_width b) rule.ResultType) body in
    let last = not_found (nat_lt 0 d && not (ends_with_return b)) (n + 3 + params_width ps + d + 2 + block_width b) rule.ResultType
    (nil_right (block_faults globals (opening_scope d ps) (n + 3 + params_width ps + d + 2) b)
    (fault_if (nat_lt 0 d && not (ends_with_return b)) (n + 3 + params_width ps + d + 2 + block_width b) rule.ResultType) body) in
    let ps_apart = params_apart globals [] (n + 3) ps (none_apart globals) params in
    record {
      apart = block_apart globals (opening_scope d ps) (n + 3 + params_width ps + d + 2) b ps_apart block;
      starts = block_none globals (record { params = ps; depth = d; body = b }) (opening_scope d ps) (n + 3 + params_width ps + d + 2)
          (param_variables ps) b refl (λ x i. i) (λ x i. among_right x (param_variables ps) (declared_in_block b) i) block;
      returns = λ ne. body_ends b (not-false (ends_with_return b) (and_false (nat_lt 0 d) (not (ends_with_return b)) last (positive d ne)));
      at = n + 3;
      params = params;
    }

pub good_among : (globals before items : List tree.Item) (n which : ℕ) (t : Text) → items_faults globals before n items ≡ []
    → slice_get (texts_from items) which ≡ Some t → IsGoodText globals t
good_among globals before [] n which t f h = absurd (no_some t _ h refl)
good_among globals before (tree.CellsOf w m ∷ rest) n which t f h =
    good_among globals (before ++ tree.CellsOf w m ∷ []) rest (n + item_width (tree.CellsOf w m)) which t
    (nil_right (item_faults globals before n (tree.CellsOf w m))
    (items_faults globals (before ++ tree.CellsOf w m ∷ []) (n + item_width (tree.CellsOf w m)) rest) f) h
good_among globals before (tree.TaskOf w ps d b ∷ rest) n zero t f h =
    subst (IsGoodText globals) (same_Some _ t h)
    (task_good globals before n w ps d b
    (nil_left (item_faults globals before n (tree.TaskOf w ps d b))
    (items_faults globals (before ++ tree.TaskOf w ps d b ∷ []) (n + item_width (tree.TaskOf w ps d b)) rest) f))
good_among globals before (tree.TaskOf w ps d b ∷ rest) n (suc which) t f h =
    good_among globals (before ++ tree.TaskOf w ps d b ∷ []) rest (n + item_width (tree.TaskOf w ps d b)) which t
    (nil_right (item_faults globals before n (tree.TaskOf w ps d b))
    (items_faults globals (before ++ tree.TaskOf w ps d b ∷ []) (n + item_width (tree.TaskOf w ps d b)) rest) f) h

pub good_text : (P : tree.Program) (which : ℕ) (t : Text) → IsWellTyped P → text_at P which ≡ Some t → IsGoodText (items_of P) t
good_text P which t f h = good_among (items_of P) [] (items_of P) 0 which t f h

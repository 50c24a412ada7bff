-- Each fault of a rule that types or counts alone break has a cause.
use Rattle.std.proofs.Common.{◌≡◌, ℕ, ◌+◌, ◌⊎◌, inl, inr, List, [], ◌∷◌, ◌++◌, length, Option, Some, None, refl, sym, ap, Bool, true, false}
use Rattle.std.specs.Prelude.{◌&&◌, not, nat_eq, nat_lt, if◌then◌else◌}
use Rattle.fut_syntax.specs.Trees.{Expr, Alone, Pair, Operand, Signed, NoSign, Negative, Inverted, Primary, Literal, Name, Bracket}
use Rattle.fut_syntax.specs.Trees.{Init, GetOf, CreateOf, Index, Value, Stmt, Declare, Define, Assign, Store, SpawnOf, SyncAll, If', While', Return'}
use Rattle.fut_syntax.specs.Trees.{Block, Done, Then, Tail, NoElse, ElseOf, VarType, Plain, Array, Param, Item, CellsOf, TaskOf, Program, items_of}
use Rattle.fut_rules.specs.declared.kind.Kind.{Kind}
use Rattle.fut_rules.specs.declared.kind.Kind.TheVariants as kind
use Rattle.fut_rules.specs.declared.kind.Need.{Need}
use Rattle.fut_rules.specs.declared.kind.Need.TheVariants as need
use Rattle.fut_rules.specs.declared.fault.Fault.{Fault}
use Rattle.fut_rules.specs.declared.fault.Rule.{Rule}
use Rattle.fut_rules.specs.declared.fault.Rule.TheVariants as rule
use Rattle.fut_rules.specs.declared.names.Variable.{Variable}
use Rattle.fut_rules.specs.Faults.{broken, fault_if}
use Rattle.fut_rules.specs.Faults as faults
use Rattle.fut_rules.specs.Kinds.{unmet, need_rule, result_rule, kind_of, plain, argument_need, init_need, size}
use Rattle.fut_rules.specs.Names.{Scope, Signature, declaration, means_task, means_cells, kind_named, element, element_rule, variable, slots, tasks, declares, is_main, has_main}
use Rattle.fut_rules.specs.Exprs.{unknown, expr_kind, operand_kind, primary_kind, for_int, expr_faults, operand_faults, primary_faults, needed_faults}
use Rattle.fut_rules.specs.Inits.{call_rule, get_rule, tested_params, next_need, later, init_kind, args_faults, call_faults, inner_faults, init_faults}
use Rattle.fut_rules.specs.Widths.{expr_width, operand_width, type_width, stmt_width, block_width, param_width, params_width, item_width}
use Rattle.fut_check.specs.Items.{opening_scope, is_over, is_bad_array, has_params, param_variable, params_faults, head_faults, item_faults, items_faults, faults_of}
use Rattle.fut_check.specs.Stmts.{depth_faults, type_faults, declared_faults, is_bad_length, is_doubled, is_handle, assigned_rule, ends_with_return}
use Rattle.fut_check.specs.Stmts.{value_need, scope_after, with_declared, declared_in_block, stmt_faults, block_faults, tail_faults}
use Rattle.fut_causes.specs.declared.cause.Cause.{Cause}
use Rattle.fut_causes.specs.declared.cause.Cause.TheVariants as cause
use Rattle.fut_causes.specs.Answers.{IsAmong}
use Rattle.fut_causes.specs.Laws.{is_caused}
use Rattle.fut_causes.specs.Causes.{Caused, caused, mismatch, misreturned, miscounted, expr_causes, operand_causes, primary_causes}
use Rattle.fut_causes.specs.Causes.{needed_causes, args_causes, call_causes, inner_causes, init_causes, stmt_causes, block_causes, tail_causes}
use Rattle.fut_causes.specs.Causes.{item_causes, items_causes, causes_of}

-- each fault among some, whose rule is one of these, is that of one of some causes
record Covers (cs : List Caused) (fs : List Fault) : Type 0 where
  each : (f : Fault) → faults.IsAmong f fs → is_caused f.rule ≡ true → (c : Caused) × IsAmong c cs × (c.fault ≡ f)

none : (cs : List Caused) → Covers cs []
none cs = record { each = λ f m t. absurd m }

front : (cs ds : List Caused) (c : Caused) → IsAmong c cs → IsAmong c (cs ++ ds)
front [] ds c m = absurd m
front (x ∷ cs) ds c m = elim m [ inl e ↦ inl e | inr n ↦ inr (front cs ds c n) ]

behind : (cs ds : List Caused) (c : Caused) → IsAmong c ds → IsAmong c (cs ++ ds)
behind [] ds c m = m
behind (x ∷ cs) ds c m = inr (behind cs ds c m)

split : (fs gs : List Fault) (f : Fault) → faults.IsAmong f (fs ++ gs) → faults.IsAmong f fs ⊎ faults.IsAmong f gs
split [] gs f m = inr m
split (x ∷ fs) gs f m = elim m [ inl e ↦ inl (inl e) | inr n ↦ elim (split fs gs f n) [ inl a ↦ inl (inr a) | inr b ↦ inr b ] ]

both : {cs ds : List Caused} {fs gs : List Fault} → Covers cs fs → Covers ds gs → Covers (cs ++ ds) (fs ++ gs)
both {cs = cs} {ds = ds} {fs = fs} {gs = gs} h k =
    record {
      each = λ f m t. elim (split fs gs f m) [
        | inl a ↦ let (c, in', e) = h.each f a t in (c, front cs ds c in', e)
        | inr b ↦ let (c, in', e) = k.each f b t in (c, behind cs ds c in', e)
      ];
    }

-- faults of other rules, and then some that have causes
past : {cs : List Caused} {fs gs : List Fault} → Covers [] fs → Covers cs gs → Covers cs (fs ++ gs)
past {fs = fs} {gs = gs} h k =
    record { each = λ f m t. elim (split fs gs f m) [ inl a ↦ absurd (h.each f a t).1 | inr b ↦ k.each f b t ] }

-- some that have causes, and then faults of other rules
before : {cs : List Caused} {fs gs : List Fault} → Covers cs fs → Covers [] gs → Covers cs (fs ++ gs)
before {fs = fs} {gs = gs} h k =
    record { each = λ f m t. elim (split fs gs f m) [ inl a ↦ h.each f a t | inr b ↦ absurd (k.each f b t).1 ] }

other : (r : Rule) (n : ℕ) → is_caused r ≡ false → Covers [] (broken (Some r) n)
other r n un = record { each = λ f m t. elim m [ inl e ↦ let same : f.rule ≡ r = ap (λ (g : Fault). g.rule) e in cc | inr a ↦ absurd a ] }

other_if : (b : Bool) (n : ℕ) (r : Rule) → is_caused r ≡ false → Covers [] (fault_if b n r)
other_if true n r un = other r n un
other_if false n r un = none []

caused_in : (r : Option Rule) (n : ℕ) (x : Cause) → Covers (caused r n x) (broken r n)
caused_in None n x = none []
caused_in (Some r) n x = record { each = λ f m t. elim m [ inl e ↦ (_, inl refl, sym e) | inr a ↦ absurd a ] }

mismatch_in : (d : Option Need) (k : Option Kind) (n : ℕ) → Covers (mismatch d k n) (broken (unmet d k) n)
mismatch_in None k n = none []
mismatch_in (Some d) None n = none []
mismatch_in (Some d) (Some k) n = caused_in (need_rule d k) n (cause.Types d k)

got_in : (k : Option Kind) (n : ℕ) → Covers (mismatch (Some need.AnyHandle) k n) (broken (get_rule k) n)
got_in None n = other rule.UnknownName n refl
got_in (Some k) n = caused_in (need_rule need.AnyHandle k) n (cause.Types need.AnyHandle k)

returned_in : (d : ℕ) (k : Option Kind) (n : ℕ) → Covers (misreturned d k n) (broken (result_rule d k) n)
returned_in d None n = none []
returned_in d (Some k) n = caused_in (result_rule d (Some k)) n (cause.Types (argument_need (plain d)) k)

counted_by : (b : Bool) (n : ℕ) (x : Cause)
    → Covers (if b then [] else caused (Some rule.ArgumentCount) n x) (broken (if b then None else Some rule.ArgumentCount) n)
counted_by true n x = none []
counted_by false n x = caused_in (Some rule.ArgumentCount) n x

counted_in : (s : Option Signature) (count n : ℕ) → Covers (miscounted s count n) (broken (call_rule s count) n)
counted_in None count n = other rule.UnknownName n refl
counted_in (Some s) count n = counted_by (nat_eq (length s.params) count) n (cause.Counts (length s.params) count)

unknown_in : (k : Option Kind) (n : ℕ) → Covers [] (broken (unknown k) n)
unknown_in None n = other rule.UnknownName n refl
unknown_in (Some k) n = none []

element_in : (k : Option Kind) (b : Bool) (n : ℕ) → Covers [] (broken (element_rule k b) n)
element_in (Some kind.Int) b n = other rule.ArrayLength n refl
element_in (Some (kind.Handle d)) b n = other rule.ArrayLength n refl
element_in (Some (kind.Array d m)) b n = none []
element_in None true n = none []
element_in None false n = other rule.UnknownName n refl

assigned_in : (k : Option Kind) (n : ℕ) → Covers [] (broken (assigned_rule k) n)
assigned_in None n = other rule.UnknownName n refl
assigned_in (Some kind.Int) n = none []
assigned_in (Some (kind.Handle d)) n = none []
assigned_in (Some (kind.Array d m)) n = other rule.ArrayLength n refl

depth_in : (n d : ℕ) → Covers [] (depth_faults n d)
depth_in n d = other_if (nat_lt 8 d) (n + 8) rule.HandleDepth refl

type_in : (n : ℕ) (v : VarType) → Covers [] (type_faults n v)
type_in n (Plain d) = depth_in n d
type_in n (Array d m) =
    past (past (depth_in n d) (other_if (nat_eq d 0) (n + d) rule.IntForHandle refl)) (other_if (is_bad_length m) (n + d + 2) rule.ArrayLength refl)

declared_in' : (g : List Item) (xs : List Variable) (n : ℕ) (x : Variable) → Covers [] (declared_faults g xs n x)
declared_in' g xs n x =
    past (other_if (is_doubled g xs x.name) n rule.DoubledName refl) (other_if (nat_lt 80 (slots xs + size x.kind)) n rule.ConstantLimit refl)

params_in : (g : List Item) (xs : List Variable) (n : ℕ) (ps : List Param) → Covers [] (params_faults g xs n ps)
params_in g xs n [] = none []
params_in g xs n (p ∷ ps) =
    past
    (past (past (declared_in' g xs n (param_variable p)) (other_if (is_over xs (kind_of p.type)) n rule.ConstantLimit refl)) (type_in (n + 2) p.type))
    (params_in g (xs ++ param_variable p ∷ []) (n + param_width p) ps)

head_in : (g before : List Item) (n : ℕ) (w : List ℕ) (ps : List Param) (d : ℕ) → Covers [] (head_faults g before n w ps d)
head_in g before n w ps d =
    past
    (past
    (past
    (past (other_if (declares before w) (n + 1) rule.DoubledName refl) (other_if (nat_eq (tasks before) 256) (n + 1) rule.ConstantLimit refl))
    (other_if (is_main w && has_params ps) (n + 3) rule.MainParameters refl))
    (params_in g [] (n + 3) ps))
    (depth_in (n + 3 + params_width ps) d)

mutual
  expr_in : (vs : List Variable) (n : ℕ) (e : Expr) → Covers (expr_causes vs n e) (expr_faults vs n e)
  expr_in vs n (Alone x) = operand_in vs n x
  expr_in vs n (Pair x o y) =
      both (both (operand_in vs n x) (mismatch_in for_int (operand_kind vs x) n))
      (both (operand_in vs (n + operand_width x + 1) y) (mismatch_in for_int (operand_kind vs y) (n + operand_width x + 1)))

  operand_in : (vs : List Variable) (n : ℕ) (x : Operand) → Covers (operand_causes vs n x) (operand_faults vs n x)
  operand_in vs n (Signed NoSign p) = primary_in vs n p
  operand_in vs n (Signed Negative p) = both (primary_in vs (n + 1) p) (mismatch_in for_int (primary_kind vs p) (n + 1))
  operand_in vs n (Signed Inverted p) = both (primary_in vs (n + 1) p) (mismatch_in for_int (primary_kind vs p) (n + 1))

  primary_in : (vs : List Variable) (n : ℕ) (p : Primary) → Covers (primary_causes vs n p) (primary_faults vs n p)
  primary_in vs n (Literal m) = none []
  primary_in vs n (Name w) = unknown_in (kind_named vs w) n
  primary_in vs n (Bracket e) = expr_in vs (n + 1) e

needed_in : (vs : List Variable) (n : ℕ) (d : Option Need) (e : Expr) → Covers (needed_causes vs n d e) (needed_faults vs n d e)
needed_in vs n d e = both (expr_in vs n e) (mismatch_in d (expr_kind vs e) n)

args_in : (vs : List Variable) (n : ℕ) (ps : List Param) (es : List Expr) → Covers (args_causes vs n ps es) (args_faults vs n ps es)
args_in vs n ps [] = none []
args_in vs n ps (e ∷ es) = both (needed_in vs n (next_need ps) e) (args_in vs (n + expr_width e + 1) (later ps) es)

call_in : (g : List Item) (vs : List Variable) (n : ℕ) (w : List ℕ) (es : List Expr) → Covers (call_causes g vs n w es) (call_faults g vs n w es)
call_in g vs n w es =
    both (counted_in (means_task (declaration g w)) (length es) n)
    (args_in vs (n + 2) (tested_params (means_task (declaration g w)) (length es)) es)

inner_in : (g : List Item) (vs : List Variable) (n : ℕ) (i : Init) → Covers (inner_causes g vs n i) (inner_faults g vs n i)
inner_in g vs n (GetOf w) = got_in (kind_named vs w) (n + 1)
inner_in g vs n (CreateOf w es) = call_in g vs (n + 1) w es
inner_in g vs n (Index w e) = past (element_in (kind_named vs w) (means_cells (declaration g w)) n) (needed_in vs (n + 2) for_int e)
inner_in g vs n (Value e) = expr_in vs n e

init_in : (g : List Item) (vs : List Variable) (n : ℕ) (d : Option Need) (i : Init) → Covers (init_causes g vs n d i) (init_faults g vs n d i)
init_in g vs n d i = both (inner_in g vs n i) (mismatch_in d (init_kind g vs i) n)

mutual
  stmt_in : (g : List Item) (s : Scope) (n : ℕ) (x : Stmt) → Covers (stmt_causes g s n x) (stmt_faults g s n x)
  stmt_in g s n (Declare w v) =
      past (past (declared_in' g s.declared (n + 1) (variable w v)) (type_in (n + 3) v)) (other_if (is_handle (kind_of v)) (n + 1) rule.NoValue refl)
  stmt_in g s n (Define w v i) =
      past (past (declared_in' g s.declared (n + 1) (variable w v)) (type_in (n + 3) v))
      (init_in g s.visible (n + 3 + type_width v + 1) (Some (init_need (kind_of v))) i)
  stmt_in g s n (Assign w i) =
      past (assigned_in (kind_named s.visible w) n) (init_in g s.visible (n + 2) (value_need (kind_named s.visible w)) i)
  stmt_in g s n (Store w e f) =
      both (past (element_in (kind_named s.visible w) (means_cells (declaration g w)) n) (needed_in s.visible (n + 2) for_int e))
      (needed_in s.visible (n + 2 + expr_width e + 2) (value_need (element (kind_named s.visible w) (means_cells (declaration g w)))) f)
  stmt_in g s n (SpawnOf w es) = call_in g s.visible (n + 1) w es
  stmt_in g s n SyncAll = none []
  stmt_in g s n (If' e b o) =
      both (both (needed_in s.visible (n + 1) for_int e) (block_in g s (n + 1 + expr_width e + 1) b))
      (tail_in g (with_declared s (declared_in_block b)) (n + 1 + expr_width e + 1 + block_width b + 1) o)
  stmt_in g s n (While' e b) = both (needed_in s.visible (n + 1) for_int e) (block_in g s (n + 1 + expr_width e + 1) b)
  stmt_in g s n (Return' e) = both (expr_in s.visible (n + 1) e) (returned_in s.returns (expr_kind s.visible e) (n + 1))

  block_in : (g : List Item) (s : Scope) (n : ℕ) (b : Block) → Covers (block_causes g s n b) (block_faults g s n b)
  block_in g s n Done = none []
  block_in g s n (Then x b) = both (stmt_in g s n x) (block_in g (scope_after s x) (n + stmt_width x) b)

  tail_in : (g : List Item) (s : Scope) (n : ℕ) (o : Tail) → Covers (tail_causes g s n o) (tail_faults g s n o)
  tail_in g s n NoElse = none []
  tail_in g s n (ElseOf b) = block_in g s (n + 2) b

item_in : (g before : List Item) (n : ℕ) (i : Item) → Covers (item_causes g n i) (item_faults g before n i)
item_in g earlier n (CellsOf w m) =
    past (other_if (declares earlier w) (n + 1) rule.DoubledName refl) (other_if (is_bad_array earlier m) (n + 3) rule.ConstantLimit refl)
item_in g earlier n (TaskOf w ps d b) =
    past (head_in g earlier n w ps d)
    (before (block_in g (opening_scope d ps) (n + 3 + params_width ps + d + 2) b)
    (other_if (nat_lt 0 d && not (ends_with_return b)) (n + 3 + params_width ps + d + 2 + block_width b) rule.ResultType refl))

items_in : (g before : List Item) (n : ℕ) (is : List Item) → Covers (items_causes g n is) (items_faults g before n is)
items_in g earlier n [] = other_if (not (has_main g)) n rule.NoMain refl
items_in g earlier n (i ∷ is) = both (item_in g earlier n i) (items_in g (earlier ++ i ∷ []) (n + item_width i) is)

pub these_have_causes : (P : Program) (f : Fault) → faults.IsAmong f (faults_of P) → is_caused f.rule ≡ true
    → (c : Caused) × IsAmong c (causes_of P) × (c.fault ≡ f)
these_have_causes P = (items_in (items_of P) [] 0 (items_of P)).each

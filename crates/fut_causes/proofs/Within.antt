-- Where types or counts break a rule there is a fault of that rule.
use Rattle.std.proofs.Common.{ℕ, ◌+◌, ◌⊎◌, inl, inr, List, [], ◌∷◌, ◌++◌, length, Option, Some, None, ap, Bool, true, false}
use Rattle.std.specs.Prelude.{nat_eq, if◌then◌else◌}
use Rattle.fut_syntax.specs.Trees.{Expr, Alone, Pair, Operand, Signed, NoSign, Negative, Inverted, Primary, Literal, Name, Bracket}
use Rattle.fut_syntax.specs.Trees.{Init, GetOf, CreateOf, Index, Value, Stmt, Declare, Define, Assign, Store, SpawnOf, SyncAll, If', While', Return'}
use Rattle.fut_syntax.specs.Trees.{Block, Done, Then, Tail, NoElse, ElseOf, Param, Item, CellsOf, TaskOf, Program, items_of}
use Rattle.fut_rules.specs.declared.kind.Kind.{Kind}
use Rattle.fut_rules.specs.declared.kind.Need.{Need}
use Rattle.fut_rules.specs.declared.kind.Need.TheVariants as need
use Rattle.fut_rules.specs.declared.fault.Fault.{Fault}
use Rattle.fut_rules.specs.declared.fault.Rule.{Rule}
use Rattle.fut_rules.specs.declared.fault.Rule.TheVariants as rule
use Rattle.fut_rules.specs.declared.names.Variable.{Variable}
use Rattle.fut_rules.specs.Faults.{broken}
use Rattle.fut_rules.specs.Faults as faults
use Rattle.fut_rules.specs.Kinds.{unmet, need_rule, result_rule, kind_of, plain, argument_need, init_need}
use Rattle.fut_rules.specs.Names.{Scope, Signature, declaration, means_task, means_cells, kind_named, element}
use Rattle.fut_rules.specs.Exprs.{expr_kind, operand_kind, primary_kind, for_int, expr_faults, operand_faults, primary_faults, needed_faults}
use Rattle.fut_rules.specs.Inits.{call_rule, get_rule, tested_params, next_need, later, init_kind, args_faults, call_faults, inner_faults, init_faults}
use Rattle.fut_rules.specs.Widths.{expr_width, operand_width, type_width, stmt_width, block_width, params_width, item_width}
use Rattle.fut_check.specs.Items.{opening_scope, item_faults, items_faults, faults_of}
use Rattle.fut_check.specs.Stmts.{value_need, scope_after, with_declared, declared_in_block, stmt_faults, block_faults, tail_faults}
use Rattle.fut_causes.specs.declared.cause.Cause.{Cause}
use Rattle.fut_causes.specs.declared.cause.Cause.TheVariants as cause
use Rattle.fut_causes.specs.Answers.{IsAmong}
use Rattle.fut_causes.specs.Causes.{Caused, caused, mismatch, misreturned, miscounted, expr_causes, operand_causes, primary_causes}
use Rattle.fut_causes.specs.Causes.{needed_causes, args_causes, call_causes, inner_causes, init_causes, stmt_causes, block_causes, tail_causes}
use Rattle.fut_causes.specs.Causes.{item_causes, items_causes, causes_of}

-- the fault of each of some causes is among some faults
record Within (cs : List Caused) (fs : List Fault) : Type 0 where
  each : (c : Caused) → IsAmong c cs → faults.IsAmong c.fault fs

none : (fs : List Fault) → Within [] fs
none fs = record { each = λ c m. absurd m }

front : (fs gs : List Fault) (f : Fault) → faults.IsAmong f fs → faults.IsAmong f (fs ++ gs)
front [] gs f m = absurd m
front (x ∷ fs) gs f m = elim m [ inl e ↦ inl e | inr n ↦ inr (front fs gs f n) ]

behind : (fs gs : List Fault) (f : Fault) → faults.IsAmong f gs → faults.IsAmong f (fs ++ gs)
behind [] gs f m = m
behind (x ∷ fs) gs f m = inr (behind fs gs f m)

in_front : {cs : List Caused} {fs : List Fault} (gs : List Fault) → Within cs fs → Within cs (fs ++ gs)
in_front {fs = fs} gs h = record { each = λ c m. front fs gs c.fault (h.each c m) }

at_end : {cs : List Caused} {gs : List Fault} (fs : List Fault) → Within cs gs → Within cs (fs ++ gs)
at_end {gs = gs} fs h = record { each = λ c m. behind fs gs c.fault (h.each c m) }

split : (cs ds : List Caused) (c : Caused) → IsAmong c (cs ++ ds) → IsAmong c cs ⊎ IsAmong c ds
split [] ds c m = inr m
split (x ∷ cs) ds c m = elim m [ inl e ↦ inl (inl e) | inr n ↦ elim (split cs ds c n) [ inl a ↦ inl (inr a) | inr b ↦ inr b ] ]

both : {cs ds : List Caused} {fs gs : List Fault} → Within cs fs → Within ds gs → Within (cs ++ ds) (fs ++ gs)
both {cs = cs} {ds = ds} {fs = fs} {gs = gs} h k =
    record { each = λ c m. elim (split cs ds c m) [ inl a ↦ front fs gs c.fault (h.each c a) | inr b ↦ behind fs gs c.fault (k.each c b) ] }

caused_in : (r : Option Rule) (n : ℕ) (x : Cause) → Within (caused r n x) (broken r n)
caused_in None n x = none []
caused_in (Some r) n x = record { each = λ c m. elim m [ inl e ↦ inl (ap (λ (d : Caused). d.fault) e) | inr a ↦ absurd a ] }

mismatch_in : (d : Option Need) (k : Option Kind) (n : ℕ) → Within (mismatch d k n) (broken (unmet d k) n)
mismatch_in None k n = none []
mismatch_in (Some d) None n = none []
mismatch_in (Some d) (Some k) n = caused_in (need_rule d k) n (cause.Types d k)

got_in : (k : Option Kind) (n : ℕ) → Within (mismatch (Some need.AnyHandle) k n) (broken (get_rule k) n)
got_in None n = none (broken (get_rule None) n)
got_in (Some k) n = caused_in (need_rule need.AnyHandle k) n (cause.Types need.AnyHandle k)

returned_in : (d : ℕ) (k : Option Kind) (n : ℕ) → Within (misreturned d k n) (broken (result_rule d k) n)
returned_in d None n = none []
returned_in d (Some k) n = caused_in (result_rule d (Some k)) n (cause.Types (argument_need (plain d)) k)

counted_by : (b : Bool) (n : ℕ) (x : Cause)
    → Within (if b then [] else caused (Some rule.ArgumentCount) n x) (broken (if b then None else Some rule.ArgumentCount) n)
counted_by true n x = none []
counted_by false n x = caused_in (Some rule.ArgumentCount) n x

counted_in : (s : Option Signature) (count n : ℕ) → Within (miscounted s count n) (broken (call_rule s count) n)
counted_in None count n = none (broken (call_rule None count) n)
counted_in (Some s) count n = counted_by (nat_eq (length s.params) count) n (cause.Counts (length s.params) count)

mutual
  expr_in : (vs : List Variable) (n : ℕ) (e : Expr) → Within (expr_causes vs n e) (expr_faults vs n e)
  expr_in vs n (Alone x) = operand_in vs n x
  expr_in vs n (Pair x o y) =
      both (both (operand_in vs n x) (mismatch_in for_int (operand_kind vs x) n))
      (both (operand_in vs (n + operand_width x + 1) y) (mismatch_in for_int (operand_kind vs y) (n + operand_width x + 1)))

  operand_in : (vs : List Variable) (n : ℕ) (x : Operand) → Within (operand_causes vs n x) (operand_faults vs n x)
  operand_in vs n (Signed NoSign p) = primary_in vs n p
  operand_in vs n (Signed Negative p) = both (primary_in vs (n + 1) p) (mismatch_in for_int (primary_kind vs p) (n + 1))
  operand_in vs n (Signed Inverted p) = both (primary_in vs (n + 1) p) (mismatch_in for_int (primary_kind vs p) (n + 1))

  primary_in : (vs : List Variable) (n : ℕ) (p : Primary) → Within (primary_causes vs n p) (primary_faults vs n p)
  primary_in vs n (Literal m) = none []
  primary_in vs n (Name w) = none (primary_faults vs n (Name w))
  primary_in vs n (Bracket e) = expr_in vs (n + 1) e

needed_in : (vs : List Variable) (n : ℕ) (d : Option Need) (e : Expr) → Within (needed_causes vs n d e) (needed_faults vs n d e)
needed_in vs n d e = both (expr_in vs n e) (mismatch_in d (expr_kind vs e) n)

args_in : (vs : List Variable) (n : ℕ) (ps : List Param) (es : List Expr) → Within (args_causes vs n ps es) (args_faults vs n ps es)
args_in vs n ps [] = none []
args_in vs n ps (e ∷ es) = both (needed_in vs n (next_need ps) e) (args_in vs (n + expr_width e + 1) (later ps) es)

call_in : (g : List Item) (vs : List Variable) (n : ℕ) (w : List ℕ) (es : List Expr) → Within (call_causes g vs n w es) (call_faults g vs n w es)
call_in g vs n w es =
    both (counted_in (means_task (declaration g w)) (length es) n)
    (args_in vs (n + 2) (tested_params (means_task (declaration g w)) (length es)) es)

inner_in : (g : List Item) (vs : List Variable) (n : ℕ) (i : Init) → Within (inner_causes g vs n i) (inner_faults g vs n i)
inner_in g vs n (GetOf w) = got_in (kind_named vs w) (n + 1)
inner_in g vs n (CreateOf w es) = call_in g vs (n + 1) w es
inner_in g vs n (Index w e) = at_end _ (needed_in vs (n + 2) for_int e)
inner_in g vs n (Value e) = expr_in vs n e

init_in : (g : List Item) (vs : List Variable) (n : ℕ) (d : Option Need) (i : Init) → Within (init_causes g vs n d i) (init_faults g vs n d i)
init_in g vs n d i = both (inner_in g vs n i) (mismatch_in d (init_kind g vs i) n)

mutual
  stmt_in : (g : List Item) (s : Scope) (n : ℕ) (x : Stmt) → Within (stmt_causes g s n x) (stmt_faults g s n x)
  stmt_in g s n (Declare w v) = none (stmt_faults g s n (Declare w v))
  stmt_in g s n (Define w v i) =
      at_end _ (init_in g s.visible (n + 3 + type_width v + 1) (Some (init_need (kind_of v))) i)
  stmt_in g s n (Assign w i) = at_end _ (init_in g s.visible (n + 2) (value_need (kind_named s.visible w)) i)
  stmt_in g s n (Store w e f) =
      both (at_end _ (needed_in s.visible (n + 2) for_int e))
      (needed_in s.visible (n + 2 + expr_width e + 2) (value_need (element (kind_named s.visible w) (means_cells (declaration g w)))) f)
  stmt_in g s n (SpawnOf w es) = call_in g s.visible (n + 1) w es
  stmt_in g s n SyncAll = none []
  stmt_in g s n (If' e b o) =
      both (both (needed_in s.visible (n + 1) for_int e) (block_in g s (n + 1 + expr_width e + 1) b))
      (tail_in g (with_declared s (declared_in_block b)) (n + 1 + expr_width e + 1 + block_width b + 1) o)
  stmt_in g s n (While' e b) = both (needed_in s.visible (n + 1) for_int e) (block_in g s (n + 1 + expr_width e + 1) b)
  stmt_in g s n (Return' e) = both (expr_in s.visible (n + 1) e) (returned_in s.returns (expr_kind s.visible e) (n + 1))

  block_in : (g : List Item) (s : Scope) (n : ℕ) (b : Block) → Within (block_causes g s n b) (block_faults g s n b)
  block_in g s n Done = none []
  block_in g s n (Then x b) = both (stmt_in g s n x) (block_in g (scope_after s x) (n + stmt_width x) b)

  tail_in : (g : List Item) (s : Scope) (n : ℕ) (o : Tail) → Within (tail_causes g s n o) (tail_faults g s n o)
  tail_in g s n NoElse = none []
  tail_in g s n (ElseOf b) = block_in g s (n + 2) b

item_in : (g before : List Item) (n : ℕ) (i : Item) → Within (item_causes g n i) (item_faults g before n i)
item_in g before n (CellsOf w m) = none (item_faults g before n (CellsOf w m))
item_in g before n (TaskOf w ps d b) =
    at_end _ (in_front _ (block_in g (opening_scope d ps) (n + 3 + params_width ps + d + 2) b))

items_in : (g before : List Item) (n : ℕ) (is : List Item) → Within (items_causes g n is) (items_faults g before n is)
items_in g before n [] = none (items_faults g before n [])
items_in g before n (i ∷ is) = both (item_in g before n i) (items_in g (before ++ i ∷ []) (n + item_width i) is)

pub causes_are_faults : (P : Program) (c : Caused) → IsAmong c (causes_of P) → faults.IsAmong c.fault (faults_of P)
causes_are_faults P = (items_in (items_of P) [] 0 (items_of P)).each

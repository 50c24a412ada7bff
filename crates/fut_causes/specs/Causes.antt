-- What is due and what was found where types or counts break a rule.
use Rattle.std.specs.Prelude.{ℕ, ◌+◌, nat_eq, if◌then◌else◌, List, [], ◌∷◌, ◌++◌, length, Option, Some, None}
use Rattle.fut_syntax.specs.Trees.{Expr, Alone, Pair, Operand, Signed, NoSign, Negative, Inverted, Primary, Literal, Name, Bracket}
use Rattle.fut_syntax.specs.Trees.{Init, GetOf, CreateOf, Index, Value, Stmt, Declare, Define, Assign, Store, SpawnOf, SyncAll, If', While', Return'}
use Rattle.fut_syntax.specs.Trees.{Block, Done, Then, Tail, NoElse, ElseOf, Param, Item, CellsOf, TaskOf, Program, items_of}
use Rattle.fut_rules.specs.declared.kind.Kind.{Kind}
use Rattle.fut_rules.specs.declared.kind.Need.{Need}
use Rattle.fut_rules.specs.declared.kind.Need.TheVariants as need
use Rattle.fut_rules.specs.declared.fault.Fault.{Fault}
use Rattle.fut_rules.specs.declared.fault.Rule.{Rule}
use Rattle.fut_rules.specs.declared.fault.Rule.TheVariants as rule
use Rattle.fut_rules.specs.declared.names.Variable.{Variable}
use Rattle.fut_rules.specs.Kinds.{kind_of, plain, argument_need, init_need, need_rule, result_rule}
use Rattle.fut_rules.specs.Names.{Scope, Signature, declaration, means_task, means_cells, kind_named, element}
use Rattle.fut_rules.specs.Exprs.{expr_kind, operand_kind, primary_kind, for_int}
use Rattle.fut_rules.specs.Inits.{tested_params, next_need, later, init_kind}
use Rattle.fut_rules.specs.Widths.{expr_width, operand_width, type_width, stmt_width, block_width, params_width, item_width}
use Rattle.fut_check.specs.Items.{opening_scope}
use Rattle.fut_check.specs.Stmts.{value_need, scope_after, with_declared, declared_in_block}
use Rattle.fut_causes.specs.declared.cause.Cause.{Cause}
use Rattle.fut_causes.specs.declared.cause.Cause.TheVariants as cause

-- a fault, and what is due and was found there
pub record Caused : Type 0 where
  pub fault : Fault
  pub cause : Cause

-- a rule is broken at a token, if one is, for a cause
abbrev pub caused : Option Rule → ℕ → Cause → List Caused
caused None n c = []
caused (Some r) n c = record { fault = record { token = n; rule = r }; cause = c } ∷ []

-- at a token whose place has a need stands something of a type, and breaks a rule by it
abbrev pub mismatch : Option Need → Option Kind → ℕ → List Caused
mismatch None given n = []
mismatch (Some due) None n = []
mismatch (Some due) (Some given) n = caused (need_rule due given) n (cause.Types due given)

-- in a task whose result has so many `fut` something of a type is returned, and breaks a rule by it
abbrev pub misreturned : ℕ → Option Kind → ℕ → List Caused
misreturned d None n = []
misreturned d (Some given) n = caused (result_rule d (Some given)) n (cause.Types (argument_need (plain d)) given)

-- a called task has another number of parameters
abbrev pub miscounted : Option Signature → ℕ → ℕ → List Caused
miscounted None count n = []
miscounted (Some s) count n =
    if nat_eq (length s.params) count then [] else caused (Some rule.ArgumentCount) n (cause.Counts (length s.params) count)

-- in an expression whose first token has this number
abbrev mutual
  pub expr_causes : List Variable → ℕ → Expr → List Caused
  expr_causes vs n (Alone x) = operand_causes vs n x
  expr_causes vs n (Pair x o y) =
      (operand_causes vs n x ++ mismatch for_int (operand_kind vs x) n)
      ++ (operand_causes vs (n + operand_width x + 1) y ++ mismatch for_int (operand_kind vs y) (n + operand_width x + 1))

  pub operand_causes : List Variable → ℕ → Operand → List Caused
  operand_causes vs n (Signed NoSign p) = primary_causes vs n p
  operand_causes vs n (Signed Negative p) = primary_causes vs (n + 1) p ++ mismatch for_int (primary_kind vs p) (n + 1)
  operand_causes vs n (Signed Inverted p) = primary_causes vs (n + 1) p ++ mismatch for_int (primary_kind vs p) (n + 1)

  pub primary_causes : List Variable → ℕ → Primary → List Caused
  primary_causes vs n (Literal m) = []
  primary_causes vs n (Name w) = []
  primary_causes vs n (Bracket e) = expr_causes vs (n + 1) e

-- of an expression in a place with a need
abbrev pub needed_causes : List Variable → ℕ → Option Need → Expr → List Caused
needed_causes vs n needed e = expr_causes vs n e ++ mismatch needed (expr_kind vs e) n

-- of arguments; each has a comma or the closing bracket behind it
abbrev pub args_causes : List Variable → ℕ → List Param → List Expr → List Caused
args_causes vs n ps [] = []
args_causes vs n ps (e ∷ es) = needed_causes vs n (next_need ps) e ++ args_causes vs (n + expr_width e + 1) (later ps) es

-- of a call whose word has this number
abbrev pub call_causes : List Item → List Variable → ℕ → List ℕ → List Expr → List Caused
call_causes globals vs n w es =
    let task = means_task (declaration globals w) in
    miscounted task (length es) n ++ args_causes vs (n + 2) (tested_params task (length es)) es

-- inside an init whose first token has this number
abbrev pub inner_causes : List Item → List Variable → ℕ → Init → List Caused
inner_causes globals vs n (GetOf w) = mismatch (Some need.AnyHandle) (kind_named vs w) (n + 1)
inner_causes globals vs n (CreateOf w es) = call_causes globals vs (n + 1) w es
inner_causes globals vs n (Index w e) = needed_causes vs (n + 2) for_int e
inner_causes globals vs n (Value e) = expr_causes vs n e

-- of an init in a place with a need
abbrev pub init_causes : List Item → List Variable → ℕ → Option Need → Init → List Caused
init_causes globals vs n needed i = inner_causes globals vs n i ++ mismatch needed (init_kind globals vs i) n

-- of a statement, a block or the other branch of an `if` whose first token has this number
abbrev mutual
  pub stmt_causes : List Item → Scope → ℕ → Stmt → List Caused
  stmt_causes globals s n (Declare w v) = []
  stmt_causes globals s n (Define w v i) = init_causes globals s.visible (n + 3 + type_width v + 1) (Some (init_need (kind_of v))) i
  stmt_causes globals s n (Assign w i) = init_causes globals s.visible (n + 2) (value_need (kind_named s.visible w)) i
  stmt_causes globals s n (Store w e f) =
      needed_causes s.visible (n + 2) for_int e
      ++ needed_causes s.visible (n + 2 + expr_width e + 2)
      (value_need (element (kind_named s.visible w) (means_cells (declaration globals w)))) f
  stmt_causes globals s n (SpawnOf w es) = call_causes globals s.visible (n + 1) w es
  stmt_causes globals s n SyncAll = []
  stmt_causes globals s n (If' e b o) =
      needed_causes s.visible (n + 1) for_int e
      ++ block_causes globals s (n + 1 + expr_width e + 1) b
      ++ tail_causes globals (with_declared s (declared_in_block b)) (n + 1 + expr_width e + 1 + block_width b + 1) o
  stmt_causes globals s n (While' e b) =
      needed_causes s.visible (n + 1) for_int e ++ block_causes globals s (n + 1 + expr_width e + 1) b
  stmt_causes globals s n (Return' e) =
      expr_causes s.visible (n + 1) e ++ misreturned s.returns (expr_kind s.visible e) (n + 1)

  pub block_causes : List Item → Scope → ℕ → Block → List Caused
  block_causes globals s n Done = []
  block_causes globals s n (Then x b) = stmt_causes globals s n x ++ block_causes globals (scope_after s x) (n + stmt_width x) b

  pub tail_causes : List Item → Scope → ℕ → Tail → List Caused
  tail_causes globals s n NoElse = []
  tail_causes globals s n (ElseOf b) = block_causes globals s (n + 2) b

-- of an item
abbrev pub item_causes : List Item → ℕ → Item → List Caused
item_causes globals n (CellsOf w m) = []
item_causes globals n (TaskOf w ps d b) = block_causes globals (opening_scope d ps) (n + 3 + params_width ps + d + 2) b

-- of items
abbrev pub items_causes : List Item → ℕ → List Item → List Caused
items_causes globals n [] = []
items_causes globals n (i ∷ is) = item_causes globals n i ++ items_causes globals (n + item_width i) is

-- of a program: all its places where types or counts break a rule
abbrev pub causes_of : Program → List Caused
causes_of P = items_causes (items_of P) 0 (items_of P)

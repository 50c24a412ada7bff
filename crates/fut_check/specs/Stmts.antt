-- Declarations and statements.
use Rattle.std.specs.Prelude.{ℕ, ◌+◌, Bool, true, false, ◌||◌, nat_eq, nat_lt, List, [], ◌∷◌, ◌++◌, Option, Some, None}
use Rattle.fut_syntax.specs.Trees.{VarType, Plain, Array, Item, Stmt, Declare, Define, Assign, Store, SpawnOf}
use Rattle.fut_syntax.specs.Trees.{SyncAll, If', While', Return', Block, Done, Then, Tail, NoElse, ElseOf}
use Rattle.fut_rules.specs.declared.kind.Kind.{Kind}
use Rattle.fut_rules.specs.declared.kind.Kind.TheVariants as kind
use Rattle.fut_rules.specs.declared.kind.Need.{Need}
use Rattle.fut_rules.specs.declared.fault.Fault.{Fault}
use Rattle.fut_rules.specs.declared.fault.Rule.{Rule}
use Rattle.fut_rules.specs.declared.fault.Rule.TheVariants as rule
use Rattle.fut_rules.specs.declared.names.Variable.{Variable}
use Rattle.fut_rules.specs.Faults.{broken, fault_if}
use Rattle.fut_rules.specs.Kinds.{kind_of, size, init_need, result_rule}
use Rattle.fut_rules.specs.Names.{Scope, declares, declaration, means_cells, variable, is_named, kind_named, slots, element, element_rule}
use Rattle.fut_rules.specs.Exprs.{expr_kind, expr_faults, needed_faults, for_int}
use Rattle.fut_rules.specs.Inits.{call_faults, init_faults}
use Rattle.fut_rules.specs.Widths.{expr_width, type_width, stmt_width, block_width}

-- ---- types and declared names

-- more than 8 `fut`, at the ninth
abbrev pub depth_faults : ℕ → ℕ → List Fault
depth_faults n d = fault_if (nat_lt 8 d) (n + 8) rule.HandleDepth

-- an array's length is 0 or above 64
abbrev pub is_bad_length : ℕ → Bool
is_bad_length m = nat_eq m 0 || nat_lt 64 m

-- the faults of a type: its depth; of an array that it has no `fut`, at `int`, and its length, at the number
abbrev pub type_faults : ℕ → VarType → List Fault
type_faults n (Plain d) = depth_faults n d
type_faults n (Array d m) =
    depth_faults n d ++ fault_if (nat_eq d 0) (n + d) rule.IntForHandle ++ fault_if (is_bad_length m) (n + d + 2) rule.ArrayLength

-- the name was declared before in the task, or is a global one
abbrev pub is_doubled : List Item → List Variable → List ℕ → Bool
is_doubled globals declared w = is_named declared w || declares globals w

-- the faults of a declared parameter or variable at its word: its name is doubled, or the task's slots exceed 80 with it
abbrev pub declared_faults : List Item → List Variable → ℕ → Variable → List Fault
declared_faults globals declared n x =
    fault_if (is_doubled globals declared x.name) n rule.DoubledName ++ fault_if (nat_lt 80 (slots declared + size x.kind)) n rule.ConstantLimit

-- a variable of this type needs no value where it is declared
abbrev pub is_handle : Kind → Bool
is_handle kind.Int = false
is_handle (kind.Handle d) = true
is_handle (kind.Array d m) = true

-- ---- assignments

-- the rule that the word before `=` breaks: it is unknown, or an array variable
abbrev pub assigned_rule : Option Kind → Option Rule
assigned_rule None = Some rule.UnknownName
assigned_rule (Some kind.Int) = None
assigned_rule (Some (kind.Handle d)) = None
assigned_rule (Some (kind.Array d m)) = Some rule.ArrayLength

-- what the init of a variable of this type has to be, if there is such a variable
abbrev pub value_need : Option Kind → Option Need
value_need None = None
value_need (Some k) = Some (init_need k)

-- ---- scopes

-- the variables that a statement makes visible behind it
abbrev pub shown : Stmt → List Variable
shown (Declare w v) = variable w v ∷ []
shown (Define w v i) = variable w v ∷ []
shown (Assign w i) = []
shown (Store w e f) = []
shown (SpawnOf w es) = []
shown SyncAll = []
shown (If' e b o) = []
shown (While' e b) = []
shown (Return' e) = []

-- the variables that are declared in a statement, its blocks included
abbrev mutual
  pub declared_in : Stmt → List Variable
  declared_in (Declare w v) = variable w v ∷ []
  declared_in (Define w v i) = variable w v ∷ []
  declared_in (Assign w i) = []
  declared_in (Store w e f) = []
  declared_in (SpawnOf w es) = []
  declared_in SyncAll = []
  declared_in (If' e b o) = declared_in_block b ++ declared_in_tail o
  declared_in (While' e b) = declared_in_block b
  declared_in (Return' e) = []

  pub declared_in_block : Block → List Variable
  declared_in_block Done = []
  declared_in_block (Then s b) = declared_in s ++ declared_in_block b

  pub declared_in_tail : Tail → List Variable
  declared_in_tail NoElse = []
  declared_in_tail (ElseOf b) = declared_in_block b

-- the scope with more variables declared, which are not visible
abbrev pub with_declared : Scope → List Variable → Scope
with_declared s xs = record { returns = s.returns; visible = s.visible; declared = s.declared ++ xs }

-- the scope behind a statement
abbrev pub scope_after : Scope → Stmt → Scope
scope_after s x = record { returns = s.returns; visible = s.visible ++ shown x; declared = s.declared ++ declared_in x }

-- ---- statements

-- the faults of a statement, a block or the other branch of an `if` whose first token has this number
abbrev mutual
  pub stmt_faults : List Item → Scope → ℕ → Stmt → List Fault
  stmt_faults globals s n (Declare w v) =
      declared_faults globals s.declared (n + 1) (variable w v) ++ type_faults (n + 3) v
      ++ fault_if (is_handle (kind_of v)) (n + 1) rule.NoValue
  stmt_faults globals s n (Define w v i) =
      declared_faults globals s.declared (n + 1) (variable w v) ++ type_faults (n + 3) v
      ++ init_faults globals s.visible (n + 3 + type_width v + 1) (Some (init_need (kind_of v))) i
  stmt_faults globals s n (Assign w i) =
      broken (assigned_rule (kind_named s.visible w)) n
      ++ init_faults globals s.visible (n + 2) (value_need (kind_named s.visible w)) i
  stmt_faults globals s n (Store w e f) =
      broken (element_rule (kind_named s.visible w) (means_cells (declaration globals w))) n
      ++ needed_faults s.visible (n + 2) for_int e
      ++ needed_faults s.visible (n + 2 + expr_width e + 2)
      (value_need (element (kind_named s.visible w) (means_cells (declaration globals w)))) f
  stmt_faults globals s n (SpawnOf w es) = call_faults globals s.visible (n + 1) w es
  stmt_faults globals s n SyncAll = []
  stmt_faults globals s n (If' e b o) =
      needed_faults s.visible (n + 1) for_int e
      ++ block_faults globals s (n + 1 + expr_width e + 1) b
      ++ tail_faults globals (with_declared s (declared_in_block b)) (n + 1 + expr_width e + 1 + block_width b + 1) o
  stmt_faults globals s n (While' e b) =
      needed_faults s.visible (n + 1) for_int e ++ block_faults globals s (n + 1 + expr_width e + 1) b
  stmt_faults globals s n (Return' e) =
      expr_faults s.visible (n + 1) e ++ broken (result_rule s.returns (expr_kind s.visible e)) (n + 1)

  pub block_faults : List Item → Scope → ℕ → Block → List Fault
  block_faults globals s n Done = []
  block_faults globals s n (Then x b) = stmt_faults globals s n x ++ block_faults globals (scope_after s x) (n + stmt_width x) b

  pub tail_faults : List Item → Scope → ℕ → Tail → List Fault
  tail_faults globals s n NoElse = []
  tail_faults globals s n (ElseOf b) = block_faults globals s (n + 2) b

-- a statement is `return`
abbrev pub is_return : Stmt → Bool
is_return (Declare w v) = false
is_return (Define w v i) = false
is_return (Assign w i) = false
is_return (Store w e f) = false
is_return (SpawnOf w es) = false
is_return SyncAll = false
is_return (If' e b o) = false
is_return (While' e b) = false
is_return (Return' e) = true

-- the last statement of a block is `return`, or where it has none, what stands before it was
abbrev pub ends_with : Bool → Block → Bool
ends_with before Done = before
ends_with before (Then x b) = ends_with (is_return x) b

-- the last statement of a body is `return`
abbrev pub ends_with_return : Block → Bool
ends_with_return b = ends_with false b

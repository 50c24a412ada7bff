-- The faults of items and of a whole program.
use Rattle.std.specs.Prelude.{◌≡◌, ℕ, ◌+◌, Bool, true, false, ◌||◌, ◌&&◌, not, nat_eq, nat_lt, List, [], ◌∷◌, ◌++◌, length}
use Rattle.fut_syntax.specs.Trees.{Param, Item, CellsOf, TaskOf, Block, Program}
use Rattle.fut_rules.specs.declared.fault.Fault.{Fault}
use Rattle.fut_rules.specs.declared.fault.Rule.TheVariants as rule
use Rattle.fut_rules.specs.declared.kind.Kind.{Kind}
use Rattle.fut_rules.specs.declared.names.Variable.{Variable}
use Rattle.fut_rules.specs.Faults.{fault_if, IsFirst}
use Rattle.fut_rules.specs.Kinds.{kind_of, size}
use Rattle.fut_rules.specs.Names.{Scope, declares, cells, tasks, is_main, has_main, variable, slots}
use Rattle.fut_check.specs.Stmts.{depth_faults, type_faults, declared_faults, block_faults, ends_with_return}
use Rattle.fut_rules.specs.Widths.{param_width, params_width, block_width, item_width}

-- the variable that a parameter is
abbrev pub param_variable : Param → Variable
param_variable p = variable p.name p.type

-- the ninth parameter, or one with which the argument values exceed 16
abbrev pub is_over : List Variable → Kind → Bool
is_over before kind = nat_eq (length before) 8 || nat_lt 16 (slots before + size kind)

-- the faults of a parameter behind others
abbrev pub param_faults : List Item → List Variable → ℕ → Param → List Fault
param_faults globals before n p =
    declared_faults globals before n (param_variable p) ++ fault_if (is_over before (kind_of p.type)) n rule.ConstantLimit
    ++ type_faults (n + 2) p.type

-- the faults of parameters behind others
abbrev pub params_faults : List Item → List Variable → ℕ → List Param → List Fault
params_faults globals before n [] = []
params_faults globals before n (p ∷ ps) =
    param_faults globals before n p ++ params_faults globals (before ++ param_variable p ∷ []) (n + param_width p) ps

-- the scope with a parameter
abbrev pub with_param : Scope → Param → Scope
with_param s p = record { returns = s.returns; visible = s.visible ++ param_variable p ∷ []; declared = s.declared ++ param_variable p ∷ [] }

-- the variables that parameters are
abbrev pub param_variables : List Param → List Variable
param_variables [] = []
param_variables (p ∷ ps) = param_variable p ∷ param_variables ps

-- some parameter
abbrev pub has_params : List Param → Bool
has_params [] = false
has_params (p ∷ ps) = true

-- the scope with more parameters
abbrev pub with_params : Scope → List Param → Scope
with_params s ps = record { returns = s.returns; visible = s.visible ++ param_variables ps; declared = s.declared ++ param_variables ps }

-- the scope at the beginning of a task's body, whose result has so many `fut`
abbrev pub opening_scope : ℕ → List Param → Scope
opening_scope d ps = record { returns = d; visible = param_variables ps; declared = param_variables ps }

-- the faults of a task's body, and at its closing bracket that a handle is to be returned and the last statement is no `return`
abbrev pub body_faults : List Item → Scope → ℕ → Block → List Fault
body_faults globals s n b =
    block_faults globals s n b ++ fault_if (nat_lt 0 s.returns && not (ends_with_return b)) (n + block_width b) rule.ResultType

-- an array of cells has length 0, or the lengths so far exceed 65,536 with it
abbrev pub is_bad_array : List Item → ℕ → Bool
is_bad_array before m = nat_eq m 0 || nat_lt 65536 (cells before + m)

-- the faults of a task's head: its name, parameters on `main`, its parameters and its result
abbrev pub head_faults : List Item → List Item → ℕ → List ℕ → List Param → ℕ → List Fault
head_faults globals before n w ps d =
    (fault_if (declares before w) (n + 1) rule.DoubledName ++ fault_if (nat_eq (tasks before) 256) (n + 1) rule.ConstantLimit)
    ++ fault_if (is_main w && has_params ps) (n + 3) rule.MainParameters
    ++ params_faults globals [] (n + 3) ps
    ++ depth_faults (n + 3 + params_width ps) d

-- the faults of an item behind others
abbrev pub item_faults : List Item → List Item → ℕ → Item → List Fault
item_faults globals before n (CellsOf w m) =
    fault_if (declares before w) (n + 1) rule.DoubledName ++ fault_if (is_bad_array before m) (n + 3) rule.ConstantLimit
item_faults globals before n (TaskOf w ps d b) =
    head_faults globals before n w ps d ++ body_faults globals (opening_scope d ps) (n + 3 + params_width ps + d + 2) b

-- the faults of items behind others, and at the end token that no task is named `main`
abbrev pub items_faults : List Item → List Item → ℕ → List Item → List Fault
items_faults globals before n [] = fault_if (not (has_main globals)) n rule.NoMain
items_faults globals before n (i ∷ is) =
    item_faults globals before n i ++ items_faults globals (before ++ i ∷ []) (n + item_width i) is

-- the items of a program, in order
abbrev pub items_of : Program → List Item
items_of P = P.first ∷ P.others

-- all faults of a program
abbrev pub faults_of : Program → List Fault
faults_of P = items_faults (items_of P) [] 0 (items_of P)

-- no rule is broken
abbrev pub IsWellTyped : Program → Type 0
IsWellTyped P = faults_of P ≡ []

-- a program's first fault
abbrev pub IsFirstFault : Program → Fault → Type 0
IsFirstFault P f = IsFirst f (faults_of P)

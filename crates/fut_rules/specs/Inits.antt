-- Calls and what variables are set to.
use Rattle.std.specs.Prelude.{ℕ, ◌+◌, nat_eq, if◌then◌else◌, List, [], ◌∷◌, ◌++◌, length, Option, Some, None}
use Rattle.fut_syntax.specs.Trees.{Expr, Init, GetOf, CreateOf, Index, Value, Param, Item}
use Rattle.fut_rules.specs.declared.kind.Kind.{Kind}
use Rattle.fut_rules.specs.declared.kind.Kind.TheVariants as kind
use Rattle.fut_rules.specs.declared.kind.Need.{Need}
use Rattle.fut_rules.specs.declared.kind.Need.TheVariants as need
use Rattle.fut_rules.specs.declared.fault.Fault.{Fault}
use Rattle.fut_rules.specs.declared.fault.Rule.{Rule}
use Rattle.fut_rules.specs.declared.fault.Rule.TheVariants as rule
use Rattle.fut_rules.specs.declared.names.Variable.{Variable}
use Rattle.fut_rules.specs.Faults.{broken}
use Rattle.fut_rules.specs.Kinds.{kind_of, got, argument_need, need_rule, unmet}
use Rattle.fut_rules.specs.Names.{Signature, declaration, means_task, means_cells, kind_named, element, element_rule}
use Rattle.fut_rules.specs.Exprs.{expr_kind, expr_faults, needed_faults, for_int}
use Rattle.fut_rules.specs.Widths.{expr_width}

-- the rule that a called word breaks: it is no task, or the task has another number of parameters
abbrev pub call_rule : Option Signature → ℕ → Option Rule
call_rule None count = Some rule.UnknownName
call_rule (Some s) count = if nat_eq (length s.params) count then None else Some rule.ArgumentCount

-- the parameters whose needs are tested of so many arguments: none where the number is wrong
abbrev pub tested_params : Option Signature → ℕ → List Param
tested_params None count = []
tested_params (Some s) count = if nat_eq (length s.params) count then s.params else []

-- what the next argument has to be, if its need is tested
abbrev pub next_need : List Param → Option Need
next_need [] = None
next_need (p ∷ ps) = Some (argument_need (kind_of p.type))

-- the parameters of the arguments after the next one
abbrev pub later : List Param → List Param
later [] = []
later (p ∷ ps) = ps

-- the faults of arguments; each has a comma or the closing bracket behind it
abbrev pub args_faults : List Variable → ℕ → List Param → List Expr → List Fault
args_faults vs n ps [] = []
args_faults vs n ps (e ∷ es) = needed_faults vs n (next_need ps) e ++ args_faults vs (n + expr_width e + 1) (later ps) es

-- the faults of a call whose word has this number
abbrev pub call_faults : List Item → List Variable → ℕ → List ℕ → List Expr → List Fault
call_faults globals vs n w es =
    let task = means_task (declaration globals w) in
    broken (call_rule task (length es)) n ++ args_faults vs (n + 2) (tested_params task (length es)) es

-- the rule that the word of `get` breaks
abbrev pub get_rule : Option Kind → Option Rule
get_rule None = Some rule.UnknownName
get_rule (Some k) = need_rule need.AnyHandle k

-- what `get` gives of a variable
abbrev pub got_of : Option Kind → Option Kind
got_of None = None
got_of (Some k) = got k

-- what `create` gives: a handle of the task's result
abbrev pub created : Option Signature → Option Kind
created None = None
created (Some s) = Some (kind.Handle s.result)

-- the type of an init; it has none where it hangs on an unknown or wrong word
abbrev pub init_kind : List Item → List Variable → Init → Option Kind
init_kind globals vs (GetOf w) = got_of (kind_named vs w)
init_kind globals vs (CreateOf w es) = created (means_task (declaration globals w))
init_kind globals vs (Index w e) = element (kind_named vs w) (means_cells (declaration globals w))
init_kind globals vs (Value e) = expr_kind vs e

-- the faults inside an init whose first token has this number
abbrev pub inner_faults : List Item → List Variable → ℕ → Init → List Fault
inner_faults globals vs n (GetOf w) = broken (get_rule (kind_named vs w)) (n + 1)
inner_faults globals vs n (CreateOf w es) = call_faults globals vs (n + 1) w es
inner_faults globals vs n (Index w e) =
    broken (element_rule (kind_named vs w) (means_cells (declaration globals w))) n ++ needed_faults vs (n + 2) for_int e
inner_faults globals vs n (Value e) = expr_faults vs n e

-- the faults of an init in a place with a need
abbrev pub init_faults : List Item → List Variable → ℕ → Option Need → Init → List Fault
init_faults globals vs n needed i = inner_faults globals vs n i ++ broken (unmet needed (init_kind globals vs i)) n

-- Going over arguments.
use Rattle.std.proofs.Common.{◌≡◌, ℕ, ◌+◌, List, ◌∷◌, Option, ap, sym, ◌∙◌}
use Rattle.fut_syntax.specs.Trees.{Expr, Param}
use Rattle.fut_rules.specs.declared.fault.Fault.{Fault}
use Rattle.fut_rules.specs.declared.names.Variable.{Variable}
use Rattle.fut_rules.specs.Faults.{least}
use Rattle.fut_rules.specs.Exprs.{needed_faults}
use Rattle.fut_rules.specs.Inits.{args_faults, next_need, later}
use Rattle.fut_rules.specs.Widths.{expr_width}
use Rattle.fut_rules.proofs.Least.{least_append}

pub args_step : (vs : List Variable) (found next : Option Fault) (n m : ℕ) (ps qs : List Param) (e : Expr) (es : List Expr)
    → next ≡ least found (needed_faults vs n (next_need ps) e) → m ≡ n + expr_width e + 1 → qs ≡ later ps
    → least found (args_faults vs n ps (e ∷ es)) ≡ least next (args_faults vs m qs es)
args_step vs found next n m ps qs e es f a p =
    least_append found (needed_faults vs n (next_need ps) e) (args_faults vs (n + expr_width e + 1) (later ps) es)
    ∙ ap (λ x. least x (args_faults vs (n + expr_width e + 1) (later ps) es)) (sym f)
    ∙ ap (λ x. least next (args_faults vs x (later ps) es)) (sym a)
    ∙ ap (λ x. least next (args_faults vs m x es)) (sym p)

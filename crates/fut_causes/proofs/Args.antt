-- Going over arguments.
use Rattle.std.proofs.Common.{◌≡◌, ℕ, ◌+◌, List, ◌∷◌, Option, ap, sym, ◌∙◌}
use Rattle.fut_syntax.specs.Trees.{Expr, Param}
use Rattle.fut_rules.specs.declared.names.Variable.{Variable}
use Rattle.fut_rules.specs.Inits.{next_need, later}
use Rattle.fut_rules.specs.Widths.{expr_width}
use Rattle.fut_causes.specs.declared.cause.Cause.{Cause}
use Rattle.fut_causes.specs.declared.seek.Wanted.{Wanted}
use Rattle.fut_causes.specs.Causes.{needed_causes, args_causes}
use Rattle.fut_causes.specs.Seeking.{first}
use Rattle.fut_causes.proofs.Firsts.{first_append}

pub args_step : (t : Wanted) (vs : List Variable) (found next : Option Cause) (n m : ℕ) (ps qs : List Param) (e : Expr) (es : List Expr)
    → next ≡ first t found (needed_causes vs n (next_need ps) e) → m ≡ n + expr_width e + 1 → qs ≡ later ps
    → first t found (args_causes vs n ps (e ∷ es)) ≡ first t next (args_causes vs m qs es)
args_step t vs found next n m ps qs e es f a p =
    first_append t found (needed_causes vs n (next_need ps) e) (args_causes vs (n + expr_width e + 1) (later ps) es)
    ∙ ap (λ x. first t x (args_causes vs (n + expr_width e + 1) (later ps) es)) (sym f)
    ∙ ap (λ x. first t next (args_causes vs x (later ps) es)) (sym a)
    ∙ ap (λ x. first t next (args_causes vs m x es)) (sym p)

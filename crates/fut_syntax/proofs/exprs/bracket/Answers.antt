use Rattle.std.proofs.Common.{ap, ◌∙◌}
use Rattle.fut_syntax.specs.declared.tree.Expr.{Expr}
use Rattle.fut_syntax.specs.Views.{expr_tree}
use Rattle.fut_syntax.specs.Trees.{Bracket}
use Rattle.fut_syntax.proofs.Made.{bracket_tree}
use Rattle.fut_syntax.proofs.exprs.bracket.Goals as goal

pub returns-in-Ok : goal.returns-in-Ok
returns-in-Ok c = bracket_tree c.in-Ok.inside ∙ ap (λ (e : Expr). Bracket (expr_tree e)) c.in-Ok.ensures

use Rattle.std.proofs.Common.{◌≡◌, sym, ap, ◌∙◌}
use Rattle.std.proofs.lemmas.Result.{on_ok_weaker}
use Rattle.fut_syntax.specs.declared.tree.Expr.{Expr}
use Rattle.fut_syntax.specs.Trees.{Bracket}
use Rattle.fut_syntax.specs.Tokens.{primary_before}
use Rattle.fut_syntax.specs.Views.{expr_tree, primary_tree}
use Rattle.fut_syntax.proofs.Made.{bracket_tree}
use Rattle.fut_print.proofs.Written.{wrote_as}
use Rattle.fut_print.proofs.write_exprs.+put_exprs.Goals as goal

pub put_primary-returns-in-Bracket : goal.put_primary-returns-in-Bracket
put_primary-returns-in-Bracket n c =
    let same : primary_tree c.args.tree.now ≡ Bracket (expr_tree c.get.result.now) =
    ap primary_tree c.in-Bracket.is ∙ bracket_tree c.in-Bracket.inside ∙ ap (λ (e : Expr). Bracket (expr_tree e)) (sym c.get.ensures) in
    on_ok_weaker c.put_bracket.result
    (wrote_as primary_before c.args.out.now.items c.put_bracket.new.out.items (Bracket (expr_tree c.get.result.now)) (primary_tree c.args.tree.now)
    (sym same)) c.put_bracket.ensures

use Rattle.std.proofs.Common.{rules, arith, ◌≡◌, ◌+◌, ap, sym, ◌∙◌}
use Rattle.fut_syntax.specs.declared.tree.Primary.{Bracket}
use Rattle.fut_syntax.specs.declared.tree.Expr.{the_lemmas}
use Rattle.fut_syntax.specs.Views.{expr_tree, primary_tree}
use Rattle.fut_syntax.proofs.Made.{bracket_tree}
use Rattle.fut_rules.specs.Widths.{expr_width, primary_width}
use Rattle.fut_causes.proofs.exprs.+walks.Goals as goal

pub seek_primary-seek_expr-requires : goal.seek_primary-seek_expr-requires
seek_primary-seek_expr-requires t c =
    let width : primary_width (primary_tree c.args.primary.now) ≡ 1 + expr_width (expr_tree c.get.result.now) + 1 =
    ap (λ p. primary_width (primary_tree p)) (c.in-Bracket.is ∙ ap Bracket (sym c.get.ensures)) ∙ ap primary_width (bracket_tree c.get.result.now)
    in (search (rules, the_lemmas), omega (arith, width))

use Rattle.std.proofs.Common.{◌∷◌, ap, ◌∙◌}
use Rattle.std.proofs.lemmas.Result.{err_from_is_err_and}
use Rattle.fut_syntax.specs.Tokens.{op_token, operand_before}
use Rattle.fut_syntax.specs.Views.{op_tree, operand_tree}
use Rattle.fut_syntax.proofs.Chains.{after, stops_after, anywhere, expr_opens}
use Rattle.fut_syntax.proofs.exprs.+exprs.Goals as goal

pub expr-returns-in_err-left : goal.expr-returns-in_err-left
expr-returns-in_err-left t c =
    let p = err_from_is_err_and c.from_residual.result c.from_residual.ensures.1 in
    rw (p.1, p.2) (stops_after (expr_opens c.args.depth c.args.cursor.now) c.in_err-left.ensures)

pub expr-returns-in_err-right-in-Some : goal.expr-returns-in_err-right-in-Some
expr-returns-in_err-right-in-Some t c =
    let p = err_from_is_err_and c.from_residual-in_err-right-in-Some.result c.from_residual-in_err-right-in-Some.ensures.1 in
    rw (p.1, p.2)
    (stops_after
    (after (after (expr_opens c.args.depth c.args.cursor.now) c.in_ok-left.ensures.0) (anywhere c.in-Some.ensures.0)) c.in_err-right-in-Some.ensures)

pub expr-returns-in_ok-right-in-Some : goal.expr-returns-in_ok-right-in-Some
expr-returns-in_ok-right-in-Some t c = (
  after (after (after (expr_opens c.args.depth c.args.cursor.now) c.in_ok-left.ensures.0) (anywhere c.in-Some.ensures.0)) c.in_ok-right-in-Some.ensures.0,
  c.in_ok-left.ensures.1 ∙ ap (λ q. operand_before (operand_tree c.in_ok-left.left) q)
      (c.in-Some.ensures.1 ∙ ap (λ q. op_token (op_tree c.in-Some.between) ∷ q) c.in_ok-right-in-Some.ensures.1),
)

pub expr-returns-in-None : goal.expr-returns-in-None
expr-returns-in-None t c = (
  after (after (expr_opens c.args.depth c.args.cursor.now) c.in_ok-left.ensures.0) (anywhere c.in-None.ensures.0),
  c.in_ok-left.ensures.1 ∙ ap (λ q. operand_before (operand_tree c.in_ok-left.left) q) c.in-None.ensures.1,
)

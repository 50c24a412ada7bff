use Rattle.std.proofs.Common.{◌≡◌, ◌+◌, ◌-◌, List, [], ◌∷◌, refl, sym, ap, ◌∙◌, append-nil, arith}
use Rattle.std.proofs.lemmas.Result.{err_from_is_err_and}
use Rattle.fut_tokens.specs.declared.token.Token.TheVariants as t
use Rattle.fut_syntax.specs.Trees.{Expr}
use Rattle.fut_syntax.specs.Tokens.{args_before}
use Rattle.fut_syntax.specs.Views.{expr_tree, args_tree}
use Rattle.fut_syntax.specs.Machine.{ArgsTail}
use Rattle.fut_syntax.proofs.Chains.{seen, after, stops_after, takes_close, args_opens, fewer}
use Rattle.fut_syntax.proofs.inits.args.Goals as goal

pub returns-in_err-first : goal.returns-in_err-first
returns-in_err-first c =
    let p = err_from_is_err_and c.from_residual.result c.from_residual.ensures.1 in
    rw (p.1, p.2) (stops_after (args_opens c.peek.result.now c.peek.ensures.front c.in_default.not-RightParen) c.in_err-first.ensures)

pub returns-in-RightParen-peek : goal.returns-in-RightParen-peek
returns-in-RightParen-peek c =
    let low : c.args.depth ≡ (c.args.depth - 1) + 1 = omega (arith, c.requires.low) in
    let front = (seen c.peek-in-more.ensures.front c.in-RightParen-peek.is) ∙ ap (λ q. t.RightParen ∷ q) (sym c.bump-in-RightParen-peek.ensures) in (
      after c.more.invariant.goes
          (takes_close ArgsTail t.RightParen [] (c.args.depth - 1) c.args.depth c.more.cursor c.bump-in-RightParen-peek.new.self refl refl refl low front),
      c.more.invariant.tokens [] c.bump-in-RightParen-peek.new.self front
          ∙ ap (λ (es : List Expr). args_before es c.bump-in-RightParen-peek.new.self)
          (append-nil (args_tree c.more.all.items) ∙ ap args_tree (sym c.from_vec.ensures)),
    )

pub more-smaller : goal.more-smaller
more-smaller c =
    fewer c.more.cursor c.bump-in-Comma.new.self c.expr-in-more.new.cursor t.Comma (expr_tree c.in_ok-next.next)
    (seen c.peek-in-more.ensures.front c.in-Comma.is) c.bump-in-Comma.ensures c.in_ok-next.ensures.1

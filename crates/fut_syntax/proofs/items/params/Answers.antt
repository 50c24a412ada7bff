use Rattle.std.proofs.Common.{◌≡◌, ◌+◌, ◌-◌, List, [], ◌∷◌, refl, sym, ap, ◌∙◌, append-nil, arith}
use Rattle.std.proofs.lemmas.Result.{err_from_is_err_and}
use Rattle.fut_tokens.specs.declared.token.Token.TheVariants as t
use Rattle.fut_syntax.specs.Trees.{Param}
use Rattle.fut_syntax.specs.Tokens.{params_before}
use Rattle.fut_syntax.specs.Views.{param_tree, params_tree}
use Rattle.fut_syntax.specs.Machine.{ParamsTail, Word', Colon', Type', Length}
use Rattle.fut_syntax.proofs.Chains.{seen, after, stops_within, takes_close, params_opens, fewer_by_param}
use Rattle.fut_syntax.proofs.items.params.Goals as goal

pub returns-in_err-first : goal.returns-in_err-first
returns-in_err-first c =
    let p = err_from_is_err_and c.from_residual.result c.from_residual.ensures.1 in
    rw (p.1, p.2)
    (stops_within (Word' ∷ Colon' ∷ Type' ∷ Length ∷ []) (ParamsTail ∷ [])
    (params_opens c.peek.result.now c.peek.ensures.front c.in_default.not-RightParen) c.in_err-first.ensures)

pub returns-in-RightParen-peek : goal.returns-in-RightParen-peek
returns-in-RightParen-peek c =
    let low : c.args.depth ≡ (c.args.depth - 1) + 1 = omega (arith, c.requires.low) in
    let front = (seen c.peek-in-more.ensures.front c.in-RightParen-peek.is) ∙ ap (λ q. t.RightParen ∷ q) (sym c.bump-in-RightParen-peek.ensures) in (
      after c.more.invariant.goes
          (takes_close ParamsTail t.RightParen [] (c.args.depth - 1) c.args.depth c.more.cursor c.bump-in-RightParen-peek.new.self refl refl refl low front),
      c.more.invariant.tokens [] c.bump-in-RightParen-peek.new.self front
          ∙ ap (λ (ps : List Param). params_before ps c.bump-in-RightParen-peek.new.self)
          (append-nil (params_tree c.more.all.items) ∙ ap params_tree (sym c.from_vec.ensures)),
    )

pub more-smaller : goal.more-smaller
more-smaller c =
    fewer_by_param c.more.cursor c.bump-in-Comma.new.self c.param-in-more.new.cursor t.Comma (param_tree c.in_ok-next.next)
    (seen c.peek-in-more.ensures.front c.in-Comma.is) c.bump-in-Comma.ensures c.in_ok-next.ensures.1

use Rattle.std.proofs.Common.{◌≡◌, List, [], ◌∷◌, sym, subst, ap, ◌∙◌}
use Rattle.std.proofs.lemmas.Result.{err_from_is_err_and}
use Rattle.fut_tokens.specs.declared.token.Token.TheVariants as t
use Rattle.fut_syntax.specs.declared.tree.Item.{Item}
use Rattle.fut_syntax.specs.Views.{item_tree}
use Rattle.fut_syntax.specs.Steps.{is_end, Spells}
use Rattle.fut_syntax.proofs.Chains.{seen, onward, stops_after, more_opens}
use Rattle.fut_syntax.proofs.Wholes.{spells_end, run_ends, fewer_by_item}
use Rattle.fut_syntax.proofs.items.items.Goals as goal

pub returns-in-End : goal.returns-in-End
returns-in-End c =
    let last : c.more.cursor ≡ t.End ∷ [] = (seen c.peek.ensures.front c.in-End.is) ∙ ap (λ q. t.End ∷ q) (c.peek.ensures.last (ap is_end c.in-End.is)) in (
      subst (λ (is : List Item). Spells c.args.cursor.now is) (sym c.from_vec.ensures)
          (spells_end c.args.cursor.now c.more.cursor c.more.all.items c.more.invariant.tokens last),
      run_ends c.args.cursor.now c.more.cursor c.more.invariant.goes last,
    )

pub returns-in_err-next : goal.returns-in_err-next
returns-in_err-next c =
    let p = err_from_is_err_and c.from_residual-in_err-next.result c.from_residual-in_err-next.ensures.1 in
    rw (p.1, p.2) (stops_after (onward c.more.invariant.goes (more_opens c.peek.result.now c.peek.ensures.front c.in_default.not-End)) c.in_err-next.ensures)

pub more-smaller : goal.more-smaller
more-smaller c = fewer_by_item c.more.cursor c.item-in-more.new.cursor (item_tree c.in_ok-next.next) c.in_ok-next.ensures.1

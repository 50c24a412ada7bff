use Rattle.std.proofs.Common.{◌≡◌, ◌+◌, [], ◌∷◌, ◌++◌, length, subst, ap, sym, ◌∙◌}
use Rattle.run_counts.specs.Counted.{Handed}
use Rattle.run_book.specs.Books.{AllNew}
use Rattle.run_book.proofs.Cutting.{one_more, cut_more, one_longer}
use Rattle.run_book.proofs.book.cut_hands.Goals as goal

pub loop-hand-preserved : goal.loop-hand-preserved
loop-hand-preserved g c =
    let hand = c.hand.result in
    let before = c.loop-hand.all.items in
    let items = c.push.ensures.items ∙ ap (λ hs. hs ++ hand ∷ []) c.reserve.ensures.items in (
      ap length items ∙ one_longer before hand c.loop-hand._hand c.loop-hand.invariant.0,
      subst AllNew (sym items) (one_more before hand c.loop-hand.invariant.1 c.hand.ensures.hand),
      cut_more c.args.counts.now c.loop-hand.counts c.hand.new.self c.loop-hand._hand c.loop-hand.invariant.2 c.hand.ensures.counts,
    )

use Rattle.access_shards.proofs.Listing.{after_told, before_told, reaching_told, not_on, not_off}
use Rattle.access_shards.proofs.run.stand_of.Goals as goal

pub returns-then-not-sides-clause-tells : goal.returns-then-not-sides-clause-tells
returns-then-not-sides-clause-tells g c =
    after_told (g.J.Judge.english c.args.judge.now) (g.J.Judge.hebrew c.args.judge.now) c.args.at c.args.access c.item.result.0 c.item-2.result.0
    c.item.ensures c.item-2.ensures c.if-access-at.false c.in_ok-sides.sides.english c.in_ok-sides.ensures.sides.first (not_on _ c.if-not-sides.true)

pub returns-then-not-sides-2-clause-tells : goal.returns-then-not-sides-2-clause-tells
returns-then-not-sides-2-clause-tells g c =
    before_told (g.J.Judge.english c.args.judge.now) (g.J.Judge.hebrew c.args.judge.now) c.args.at c.args.access c.item.result.0 c.item-2.result.0
    c.item.ensures c.item-2.ensures c.if-access-at.false c.in_ok-sides.sides.english c.in_ok-sides.sides.hebrew c.in_ok-sides.ensures.sides.first
    c.in_ok-sides.ensures.sides.second (not_off _ c.if-not-sides.false) (not_on _ c.if-not-sides-2.true)

pub returns-clause-tells : goal.returns-clause-tells
returns-clause-tells g c =
    reaching_told (g.J.Judge.english c.args.judge.now) (g.J.Judge.hebrew c.args.judge.now) c.args.at c.args.access c.item.result.0 c.item-2.result.0
    c.item.ensures c.item-2.ensures c.if-access-at.false c.in_ok-sides.sides.english c.in_ok-sides.sides.hebrew c.in_ok-sides.ensures.sides.first
    c.in_ok-sides.ensures.sides.second (not_off _ c.if-not-sides.false) (not_off _ c.if-not-sides-2.false)

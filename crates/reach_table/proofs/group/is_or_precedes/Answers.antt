use Rattle.reach_table.proofs.Reaching.{told}
use Rattle.reach_table.proofs.group.is_or_precedes.Goals as goal

pub returns-clause-tells : goal.returns-clause-tells
returns-clause-tells g c =
    told c.in_ok-sides.sides c.item.result.0 c.item-2.result.0 c.args.u.number c.args.w.number (g.J.Judge.english c.args.judge.now)
    (g.J.Judge.hebrew c.args.judge.now) c.precedes.result c.item.ensures c.item-2.ensures c.if-u-w.false c.in_ok-sides.ensures.sides c.precedes.ensures.both

use Rattle.std.proofs.Common.{◌<◌, sym, subst, length}
use Rattle.order_list.specs.Ordered.{Ordered}
use Rattle.order_list.proofs.Chains.{kept_before}
use Rattle.order_list.proofs.list.OrderList.before.Goals as goal

pub returns : goal.returns
returns c =
    let l = c.self.inside in
    let P : Ordered → Type 0 = λ v. c.args.x.0 < length v.order in
    let Q : Ordered → Type 0 = λ v. c.args.y.0 < length v.order in
    rw (← c.self.view_is) (kept_before l.labels.items l.nexts.items l.prevs.items _ c.args.x.0 c.args.y.0 _ _ c.self.invariant.0
    (subst P (sym c.self.view_is) c.requires.x_in) (subst Q (sym c.self.view_is) c.requires.y_in) c.index.ensures c.index-2.ensures)

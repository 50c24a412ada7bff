use Rattle.std.proofs.Common.{◌<◌, ◌∙◌, sym, subst, length}
use Rattle.order_list.specs.Ordered.{Ordered}
use Rattle.order_list.proofs.Chains.{kept_next}
use Rattle.order_list.proofs.list.OrderList.next.Goals as goal

pub returns-in-Some : goal.returns-in-Some
returns-in-Some c =
    let P : Ordered → Type 0 = λ v. c.args.x.0 < length v.order in
    rw (← c.self.view_is) (sym c.in-Some.is ∙ kept_next c.self.inside.labels.items c.self.inside.nexts.items c.self.inside.prevs.items _ c.args.x.0 _
    c.self.invariant.0 (subst P (sym c.self.view_is) c.requires) c.index.ensures)

pub returns-in-None : goal.returns-in-None
returns-in-None c =
    let P : Ordered → Type 0 = λ v. c.args.x.0 < length v.order in
    rw (← c.self.view_is) (sym c.in-None.is ∙ kept_next c.self.inside.labels.items c.self.inside.nexts.items c.self.inside.prevs.items _ c.args.x.0 _
    c.self.invariant.0 (subst P (sym c.self.view_is) c.requires) c.index.ensures)

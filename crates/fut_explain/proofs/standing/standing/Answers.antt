use Rattle.std.proofs.Common.{arith, subst}
use Rattle.std.proofs.lemmas.List.{drop_all}
use Rattle.fut_explain.proofs.Trying.{IsSought, sought_none, sought_step, sought_all}
use Rattle.fut_explain.proofs.standing.standing.Goals as goal

pub loop-kind-preserved : goal.loop-kind-preserved
loop-kind-preserved c = λ before h.
    sought_step before c.args.all.now c.loop-kind.found.items c.add_if.new.found.items c.loop-kind.kind-index _ c.in_ok-stands.stands (omega arith)
    c.in_ok-add_if.ensures (c.loop-kind.invariant before h) (c.in_ok-stands.ensures before h)

pub loop-kind-init : goal.loop-kind-init
loop-kind-init c = λ before h. rw c.new-found.ensures.items (sought_none before c.args.all.now)

pub returns : goal.returns
returns c = λ before h.
    sought_all before c.args.all.now c.loop-kind.found.items
    (subst (λ l. IsSought before c.args.all.now l c.loop-kind.found.items) (drop_all c.loop-kind.kind-index c.args.all.now (omega arith))
    (c.loop-kind.invariant before h))

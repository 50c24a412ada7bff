use Rattle.std.proofs.Common.{List, inl, inr, subst, sym}
use Rattle.fut_base.specs.Dag.{Among}
use Rattle.access_shards.specs.declared.kept.Access.{Access}
use Rattle.access_shards.specs.Replacing.{AreLeft}
use Rattle.access_shards.proofs.Listing.{left_of_marked, left_none, of_filter}
use Rattle.access_shards.proofs.replacing.forget_run.Goals as goal

pub returns-then-run-clause-left : goal.returns-then-run-clause-left
returns-then-run-clause-left c = λ order.
    left_none c.args.strand.number c.args.sorted.now c.args.run.start c.args.run.end c.args.readers.now.items c.if-run.true order

pub returns-clause-left : goal.returns-clause-left
returns-clause-left c = λ order.
    let row = c.args.sorted.now in
    let old = c.args.readers.now.items in
    subst (λ (l : List Access). AreLeft c.args.strand.number row c.args.run.start c.args.run.end old l) (sym c.forget_strand.ensures.items)
    (left_of_marked c.args.strand.number row c.args.run.start c.args.run.end old c.mark_run.new.readers.items (c.mark_run.ensures.marked order))

pub returns-clause-those : goal.returns-clause-those
returns-clause-those c = λ a h.
    let k = of_filter c.args.strand.number c.mark_run.new.readers.items a (subst (λ (l : List Access). Among a l) c.forget_strand.ensures.items h) in
    elim (c.mark_run.ensures.those a k.0) [ inl l ↦ l | inr e ↦ absurd (k.1 e) ]

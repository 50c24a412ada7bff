use Rattle.std.proofs.Common.{◌≡◌, inl, inr, arith, subst, ◌∙◌}
use Rattle.access_shards.specs.Replacing.{AreMarked}
use Rattle.access_shards.proofs.Listing.{mark_start, mark_more}
use Rattle.access_shards.proofs.replacing.mark_run.Goals as goal

pub loop-k-preserved : goal.loop-k-preserved
loop-k-preserved c =
    let i = c.loop-k.invariant in
    record {
      marked = λ order. (
          let was = i.marked order in
          mark_more c.args.strand.number c.args.sorted.now c.args.run.start c.loop-k.k c.args.readers.now.items c.loop-k.readers.items c.mark.new.readers.items
          c.loop-k.auto.k was (c.mark.ensures.marked was.order));
      those = λ a h. elim (c.mark.ensures.those a h) [ inl l ↦ i.those a l | inr e ↦ inr e ];
      len = c.mark.ensures.len ∙ i.len;
      capacity = c.mark.ensures.capacity ∙ i.capacity;
    }

pub returns-clause-marked : goal.returns-clause-marked
returns-clause-marked c = λ order.
    let last : c.loop-k.k ≡ c.args.run.end = omega (arith, c.loop-k-test.false, c.loop-k.auto.k-end c.requires.start) in
    subst (λ k. AreMarked c.args.strand.number c.args.sorted.now c.args.run.start k c.args.readers.now.items c.loop-k.readers.items) last
    (c.loop-k.invariant.marked order)

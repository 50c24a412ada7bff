use Rattle.std.proofs.Common.{◌<◌, length, refl, ap, sym, subst, arith, ◌∙◌}
use Rattle.reach_table.specs.Telling.{AllKnown}
use Rattle.access_shards.specs.Kept.{AreKnown}
use Rattle.access_shards.proofs.tests.keep.Goals as goal

pub write-requires-clause-table_known : goal.write-requires-clause-table_known
write-requires-clause-table_known c =
    subst (λ l. AllKnown (length c.args.judge.now.lists.english.order) l) (c.as_slice.ensures.value ∙ c.in_ok-strands.ensures.strands)
    (c.if-not-are_known.ensures refl)

pub read-requires-clause-table_known : goal.read-requires-clause-table_known
read-requires-clause-table_known c =
    subst (λ l. AllKnown (length c.args.judge.now.lists.english.order) l) (c.as_slice.ensures.value ∙ c.in_ok-strands.ensures.strands)
    (c.if-not-are_known.ensures refl)

pub returns-then-writes : goal.returns-then-writes
returns-then-writes c =
    let n = length c.args.judge.now.lists.english.order in
    let same = ap (λ l. length l.order) c.english.ensures.list in
    let lt : c.args.at.number < n = omega (arith, same) in
    let was : AreKnown n c.reserve.new.self.kept = subst (AreKnown n) (sym c.reserve.ensures.kept) c.requires in
    subst (λ k. AreKnown k c.write.new.self.kept) (sym c.write.ensures.judge.known) (c.in_ok-write.ensures.strands n lt was)

pub returns : goal.returns
returns c =
    let n = length c.args.judge.now.lists.english.order in
    let same = ap (λ l. length l.order) c.english.ensures.list in
    let lt : c.args.at.number < n = omega (arith, same) in
    let was : AreKnown n c.reserve.new.self.kept = subst (AreKnown n) (sym c.reserve.ensures.kept) c.requires in
    subst (λ k. AreKnown k c.read.new.self.kept) (sym c.read.ensures.judge.known) (c.in_ok-read.ensures.strands n lt was)

use Rattle.std.proofs.Common.{arith}
use Rattle.order_list.proofs.Inserting.{grown_by_one}
use Rattle.order_list.proofs.tests.after_inserts.Goals as goal

pub loop-k-preserved : goal.loop-k-preserved
loop-k-preserved c =
    let e = c.insert_after.ensures in
    let more = grown_by_one _ _ _ _ e.was_kept.numbered (omega (arith, c.loop-k.invariant.0)) e.order in
    (omega (arith, c.loop-k.invariant.0, more), omega (arith, c.loop-k.invariant.1, e.room))

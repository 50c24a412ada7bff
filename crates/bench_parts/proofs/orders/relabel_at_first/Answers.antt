use Rattle.std.proofs.Common.{ℕ, length, ap, arith}
use Rattle.order_list.proofs.Inserting.{grown_by_one}
use Rattle.bench_parts.proofs.orders.relabel_at_first.Goals as goal

pub loop-k-preserved : goal.loop-k-preserved
loop-k-preserved c =
    let m = c.make_space-window.ensures in
    let e = c.insert_after.ensures in
    let same = ap (length {A = ℕ}) m.space.order_is in
    let more = grown_by_one _ _ _ _ e.was_kept.numbered (omega (arith, same, c.loop-k.invariant.0)) e.order in
    (omega (arith, more), omega (arith, c.loop-k.invariant.1, m.space.room_is, e.room))

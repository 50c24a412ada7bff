use Rattle.std.proofs.Common.{◌+◌, ◌^◌, ◌<◌, arith}
use Rattle.std.proofs.lemmas.Result.{err_from_is_err_and}
use Rattle.order_list.proofs.Frames.{asked_again}
use Rattle.reach_table.proofs.Reaching.{moved_on}
use Rattle.access_shards.proofs.run.find_run.Goals as goal

pub returns-in_err-span-clause-moved : goal.returns-in_err-span-clause-moved
returns-in_err-span-clause-moved g c =
    let p = err_from_is_err_and c.from_residual-in_err-span.result c.from_residual-in_err-span.ensures.1 in
    rw (p.1, p.2) (moved_on g.J.Judge _ c.look_at_last.ensures.judge c.in_err-span.ensures.moved)

pub returns-in_err-run-clause-moved : goal.returns-in_err-run-clause-moved
returns-in_err-run-clause-moved g c =
    let p = err_from_is_err_and c.from_residual-in_err-run.result c.from_residual-in_err-run.ensures.1 in
    rw (p.1, p.2) (moved_on g.J.Judge _ (asked_again g.J.Judge c.look_at_last.ensures.judge c.find_end.ensures.judge) c.in_err-run.ensures.moved)

pub returns-clause-drops_each : goal.returns-clause-drops_each
returns-clause-drops_each g c = λ off ends.
    let low = c.in_ok-begun.ensures.end off ends in
    let b = c.in_ok-begun.ensures.span.bounds in
    let span = c.in_ok-span.ensures.span.bounds in
    omega (arith, low, b.high_is, c.look_at_last.ensures.asks, c.find_end.ensures.asks, span.start_is, c.in_ok-run.ensures.end, c.in_ok-run.ensures.drops_each)

pub returns-clause-halves : goal.returns-clause-halves
returns-clause-halves g c = λ bits lt.
    let b = c.in_ok-begun.ensures.span.bounds in
    let span = c.in_ok-span.ensures.span.bounds in
    let h : c.in_ok-begun.begun.high < c.in_ok-begun.begun.low + 2 ^ bits = omega (arith, lt, b.high_is) in
    let k = c.find_end.ensures.halves bits h in
    omega (arith, k, c.look_at_last.ensures.asks, span.start_is, c.in_ok-run.ensures.end, c.in_ok-run.ensures.drops_each)

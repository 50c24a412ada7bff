use Rattle.std.proofs.Common.{arith, ap}
use Rattle.bench_parts.proofs.Drawing.{begun}
use Rattle.bench_parts.proofs.draws.drawn.Goals as goal

pub drawers_of-requires-clause-first : goal.drawers_of-requires-clause-first
drawers_of-requires-clause-first g c =
    let dealt = ap (λ l. l.items) c.in_ok-clock.ensures.holders in
    (begun c.in_ok-clock.clock c.max-threads.result _ _ _ (omega (arith, c.max-threads.ensures)) dealt c.in-Some.ensures.items).spawns

pub drawers_of-requires-clause-clock : goal.drawers_of-requires-clause-clock
drawers_of-requires-clause-clock g c =
    let dealt = ap (λ l. l.items) c.in_ok-clock.ensures.holders in
    (begun c.in_ok-clock.clock c.max-threads.result _ _ _ (omega (arith, c.max-threads.ensures)) dealt c.in-Some.ensures.items).are

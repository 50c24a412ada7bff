use Rattle.std.proofs.Common.{arith}
use Rattle.access_shards.proofs.Spans.{last_low}
use Rattle.access_shards.proofs.run.look_at_last.Goals as goal

pub returns-clause-end : goal.returns-clause-end
returns-clause-end g c = λ off ends.
    last_low (g.J.Judge.english c.args.judge.now) (g.J.Judge.hebrew c.args.judge.now) c.args.at c.args.listed c.args.readers.now c.args.row.now
    c.in_ok-next.next c.in_ok-next.ensures.looks (omega (arith, c.if-row-eq0.false)) off ends

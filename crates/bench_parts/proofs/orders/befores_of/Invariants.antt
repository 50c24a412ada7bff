use Rattle.std.proofs.Common.{◌≤◌}
use Rattle.bench_parts.proofs.orders.befores_of.Given as goal

abbrev pub invariant-loop-k : goal.invariant-loop-k
invariant-loop-k g l = 1000 ≤ g.J.Judge.known l.judge

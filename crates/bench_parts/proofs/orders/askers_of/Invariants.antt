use Rattle.std.proofs.Common.{◌≡◌}
use Rattle.bench_parts.proofs.orders.askers_of.Given as goal

abbrev pub invariant-loop-k : goal.invariant-loop-k
invariant-loop-k l = l.writer ≡ l.fn.writer

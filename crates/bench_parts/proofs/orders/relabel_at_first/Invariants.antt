use Rattle.std.proofs.Common.{◌≡◌, ◌+◌, ◌<◌, length}
use Rattle.bench_parts.proofs.orders.relabel_at_first.Given as goal

abbrev pub invariant-loop-k : goal.invariant-loop-k
invariant-loop-k l = (0 < length l.list.order) × (l.list.room + l._k ≡ l.fn.list.room)

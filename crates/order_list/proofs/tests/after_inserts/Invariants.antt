use Rattle.std.proofs.Common.{◌≡◌, ◌+◌, length}
use Rattle.order_list.proofs.tests.after_inserts.Given as goal

abbrev pub invariant-loop-k : goal.invariant-loop-k
invariant-loop-k l = (length l.list.order ≡ l._k + 1) × (l.list.room + l._k + 1 ≡ 100)

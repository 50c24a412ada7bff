use Rattle.std.proofs.Common.{◌≡◌, ◌+◌, length}
use Rattle.order_list.proofs.tests.long_list.Given as goal

abbrev pub invariant-loop-k : goal.invariant-loop-k
invariant-loop-k l = (length l.list.order ≡ l._k + 1) × (l.list.room + l._k + 1 ≡ 40001)

abbrev pub invariant-loop-k-2 : goal.invariant-loop-k-2
invariant-loop-k-2 l = (length l.list.order ≡ l.k + 20001) × (l.list.room + l.k + 20001 ≡ 40001)

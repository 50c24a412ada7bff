use Rattle.std.proofs.Common.{◌≡◌, None}
use Rattle.future_cell.proofs.tests.with_children.Given as goal

abbrev pub invariant-loop-k : goal.invariant-loop-k
invariant-loop-k l = (l.place.count ≡ l._k) × (l.place.waiter ≡ None)

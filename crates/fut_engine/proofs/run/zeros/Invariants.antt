use Rattle.std.proofs.Common.{◌≡◌, length}
use Rattle.fut_engine.proofs.run.zeros.Given as goal

abbrev pub invariant-loop-number : goal.invariant-loop-number
invariant-loop-number l = length l.all.items ≡ l._number

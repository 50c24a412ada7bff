use Rattle.std.proofs.Common.{◌≡◌, length}
use Rattle.trace_merge.proofs.places.Given as goal

abbrev pub invariant-loop-place : goal.invariant-loop-place
invariant-loop-place l = length l.places.items ≡ l._place

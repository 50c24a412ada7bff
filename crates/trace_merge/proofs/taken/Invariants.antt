use Rattle.std.proofs.Common.{◌≡◌, ℕ, ◌<◌, ◌≤◌, length, Some, slice_get}
use Rattle.fut_base.specs.declared.record.Entry.{Entry}
use Rattle.trace_merge.specs.Placing.{HasPlace}
use Rattle.trace_merge.proofs.taken.Given as goal

abbrev pub invariant-loop-k : goal.invariant-loop-k
invariant-loop-k l = record {
  size : length l.history.items ≡ l.k;
  same : length l.places ≡ length l.fn.places;
  done : (i : ℕ) (e : Entry) → i < l.k → HasPlace l.fn.places i e → slice_get l.history.items i ≡ Some e;
  rest : (i : ℕ) → l.k ≤ i → slice_get l.places i ≡ slice_get l.fn.places i;
}

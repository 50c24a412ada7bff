use Rattle.std.proofs.Common.{◌-◌, ◌<◌, ◌≤◌, ℕ, length}
use Rattle.access_shards.specs.Kept.{IsInOrder}
use Rattle.access_shards.specs.Runs.{access_at}
use Rattle.access_shards.proofs.run.first_from.Given as goal

abbrev pub invariant-loop-low : goal.invariant-loop-low
invariant-loop-low l = record {
  least : l.low ≤ l.high;
  within : l.high ≤ length l.readers;
  before : IsInOrder l.readers → (i : ℕ) → i < l.low → (access_at l.readers i).place < l.place;
  after : IsInOrder l.readers → (i : ℕ) → l.high ≤ i → i < length l.readers → l.place ≤ (access_at l.readers i).place;
}

abbrev pub decreases-loop-low : goal.decreases-loop-low
decreases-loop-low l = l.high - l.low

use Rattle.std.proofs.Common.{◌≡◌, ℕ, ◌+◌, ◌<◌, ◌≤◌}
use Rattle.reach_table.specs.Merging.{strand_at}
use Rattle.reach_table.proofs.merging.rises.Given as goal

abbrev pub invariant-loop-n : goal.invariant-loop-n
invariant-loop-n l = record {
  future : l.future ≡ (strand_at l.strands l.n).future;
  all : (k : ℕ) → l.from ≤ k → k < l.n → (strand_at l.strands k).future < (strand_at l.strands (k + 1)).future;
}

use Rattle.std.proofs.Common.{◌≡◌, ℕ, ◌≤◌, true, length}
use Rattle.std.specs.Prelude.{slice_get, Some, is_some}
use Rattle.run_replay.specs.Replays.{value_at}
use Rattle.run_replay.proofs.replay.Replay.running_among.Given as goal

abbrev pub invariant-loop-left : goal.invariant-loop-left
invariant-loop-left l = record {
  within : l.left ≤ length l.tasks;
  ended : (i t : ℕ) → l.left ≤ i → slice_get l.tasks i ≡ Some t → is_some (value_at l.self.lines t) ≡ true;
}

abbrev pub decreases-loop-left : goal.decreases-loop-left
decreases-loop-left l = l.left

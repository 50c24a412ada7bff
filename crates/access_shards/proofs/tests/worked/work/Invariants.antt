use Rattle.std.proofs.Common.{◌-◌, ◌*◌, ◌≤◌, length}
use Rattle.access_shards.proofs.tests.worked.work.Given as goal

abbrev pub invariant-loop-step : goal.invariant-loop-step
invariant-loop-step l = 2 * (length l.steps - l.step-index) ≤ l.still.english.room

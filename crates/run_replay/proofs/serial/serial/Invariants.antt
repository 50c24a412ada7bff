use Rattle.std.proofs.Common.{◌≡◌, length}
use Rattle.fut_base.specs.Events.{events_of}
use Rattle.run_replay.specs.Serials.{AlwaysRuns}
use Rattle.run_replay.proofs.serial.serial.Given as goal

abbrev pub invariant-loop-made : goal.invariant-loop-made
invariant-loop-made l = record {
  count : length l.history.items ≡ l._made;
  runs : AlwaysRuns l.code l.limits (events_of l.history) l.run;
}

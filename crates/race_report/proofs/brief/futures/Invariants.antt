use Rattle.std.proofs.Common.{◌≡◌, ◌+◌, ◌≤◌, map, drop}
use Rattle.fut_base.specs.Events.{event_of}
use Rattle.task_machine.specs.Machine.{create_count}
use Rattle.race_report.proofs.brief.futures.Given as goal

abbrev pub invariant-loop-entry : goal.invariant-loop-entry
invariant-loop-entry l = record {
  so_far : l.count + create_count (map event_of (drop l.entry-index l.entries)) ≡ create_count (map event_of l.entries);
  few : l.count ≤ l.entry-index;
}

use Rattle.std.proofs.Common.{◌≡◌, ◌-◌, ◌++◌, length}
use Rattle.fut_base.specs.Events.{events_of}
use Rattle.run_record.specs.RunText.{entry_lines}
use Rattle.run_record.specs.Records.{AreEvents}
use Rattle.run_record.specs.Machine.{entries_due}
use Rattle.run_record.specs.Steps.{Steps}
use Rattle.run_record.proofs.reader.entries.Given as goal

abbrev pub invariant-loop-place : goal.invariant-loop-place
invariant-loop-place l = record {
  goes : Steps (entries_due 0 l.fn.many) l.fn.cursor (entries_due l.place (l.many - l.place)) l.cursor;
  text : l.fn.cursor ≡ entry_lines 0 (events_of l.all) ++ l.cursor;
  count : length (events_of l.all) ≡ l.place;
  numbered : AreEvents (events_of l.all);
}

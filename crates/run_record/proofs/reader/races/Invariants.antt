use Rattle.std.proofs.Common.{◌≡◌, ◌-◌, ◌++◌, length}
use Rattle.run_record.specs.RunText.{race_lines}
use Rattle.run_record.specs.Records.{AreRaces}
use Rattle.run_record.specs.Machine.{races_due}
use Rattle.run_record.specs.Steps.{Steps}
use Rattle.run_record.proofs.reader.races.Given as goal

abbrev pub invariant-loop : goal.invariant-loop
invariant-loop l = record {
  goes : Steps (races_due l.fn.many) l.fn.cursor (races_due (l.many - l.counter)) l.cursor;
  text : l.fn.cursor ≡ race_lines l.all.items ++ l.cursor;
  count : length l.all.items ≡ l.counter;
  raced : AreRaces l.all.items;
}

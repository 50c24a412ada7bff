-- What reading bytes answers.
use Rattle.std.specs.Prelude.{List, ℕ, Result, Ok, Err}
use Rattle.fut_base.specs.Events.{events_of}
use Rattle.run_record.specs.declared.record.RunText.{RunText}
use Rattle.run_record.specs.declared.record.ReadFault.{ReadFault}
use Rattle.run_record.specs.declared.record.ReadFault.TheVariants as fault
use Rattle.run_record.specs.Records.{IsRunText, IsFault}

-- The bytes are the run text of what was read; or they are none, and the longest beginning of theirs with which a run text
-- begins has so many bytes; or there was no memory.
abbrev pub Reading : List ℕ → Result RunText ReadFault → Type 0
Reading bytes (Ok r) = IsRunText bytes r.program.items (events_of r.history) r.races.items r.finish
Reading bytes (Err (fault.NotRun count)) = IsFault bytes count
Reading bytes (Err fault.NoMemory) = Unit {0}

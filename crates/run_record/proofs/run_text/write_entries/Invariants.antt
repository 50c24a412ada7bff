use Rattle.std.proofs.Common.{◌≡◌, ℕ, List, ◌++◌, drop}
use Rattle.std.specs.Prelude.{map}
use Rattle.std.specs.Io.KnownBytes.{Appends}
use Rattle.fut_base.specs.Events.{event_of}
use Rattle.run_record.specs.RunText.{entry_lines}
use Rattle.run_record.proofs.run_text.write_entries.Given as goal

abbrev pub invariant-loop-place : goal.invariant-loop-place
invariant-loop-place g l = record {
  taken : (done : List ℕ) × (entry_lines 0 (map event_of l.entries) ≡ done ++ entry_lines l.place (map event_of (drop l.place l.entries)))
      × Appends (g.K.Sink.held l.fn.out) (g.K.Sink.held l.out) done;
  quiet : g.K.Sink.faults l.out ≡ g.K.Sink.faults l.fn.out;
}

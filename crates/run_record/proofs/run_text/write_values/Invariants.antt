use Rattle.std.proofs.Common.{◌≡◌, ℕ, List, ◌++◌, drop}
use Rattle.std.specs.Io.KnownBytes.{Appends}
use Rattle.run_record.specs.RunText.{values_line}
use Rattle.run_record.proofs.run_text.write_values.Given as goal

abbrev pub invariant-loop-value : goal.invariant-loop-value
invariant-loop-value g l = record {
  taken : (done : List ℕ) × (values_line l.values ≡ done ++ values_line (drop l.value-index l.values))
      × Appends (g.K.Sink.held l.fn.out) (g.K.Sink.held l.out) done;
  quiet : g.K.Sink.faults l.out ≡ g.K.Sink.faults l.fn.out;
}

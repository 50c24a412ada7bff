use Rattle.std.proofs.Common.{◌≡◌, ℕ, List, ◌++◌, drop}
use Rattle.std.specs.Io.KnownBytes.{Appends}
use Rattle.run_record.specs.RunText.{race_lines}
use Rattle.run_record.proofs.run_text.write_races.Given as goal

abbrev pub invariant-loop-race : goal.invariant-loop-race
invariant-loop-race g l = record {
  taken : (done : List ℕ) × (race_lines l.races ≡ done ++ race_lines (drop l.race-index l.races)) × Appends (g.K.Sink.held l.fn.out) (g.K.Sink.held l.out) done;
  quiet : g.K.Sink.faults l.out ≡ g.K.Sink.faults l.fn.out;
}

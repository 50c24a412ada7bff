use Rattle.std.proofs.Common.{◌≡◌, ℕ, List, ◌++◌, drop}
use Rattle.std.specs.Io.KnownBytes.{Appends}
use Rattle.race_report.specs.Brief.{race_rows}
use Rattle.race_report.proofs.brief.write_races.Given as goal

abbrev pub invariant-loop-race : goal.invariant-loop-race
invariant-loop-race g l = record {
  taken : (done : List ℕ) × (race_rows l.arrays l.races ≡ done ++ race_rows l.arrays (drop l.race-index l.races))
      × Appends (g.K.Sink.held l.fn.out) (g.K.Sink.held l.out) done;
  quiet : g.K.Sink.faults l.out ≡ g.K.Sink.faults l.fn.out;
}

use Rattle.std.proofs.Common.{◌≡◌, ℕ, List, ◌++◌, length}
use Rattle.std.specs.Io.KnownBytes.{Appends}
use Rattle.fut_base.proofs.ports.write_text.Given as goal

-- a beginning of the text was taken, and no fault came
abbrev pub invariant-loop-rest : goal.invariant-loop-rest
invariant-loop-rest g l = record {
  taken : (part : List ℕ) × (l.text ≡ part ++ l.rest) × Appends (g.K.Sink.held l.fn.out) (g.K.Sink.held l.out) part;
  quiet : g.K.Sink.faults l.out ≡ g.K.Sink.faults l.fn.out;
}

abbrev pub decreases-loop-rest : goal.decreases-loop-rest
decreases-loop-rest g l = length l.rest

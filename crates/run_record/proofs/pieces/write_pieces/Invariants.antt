use Rattle.std.proofs.Common.{◌≡◌, ℕ, List, ◌++◌, drop}
use Rattle.std.specs.Io.KnownBytes.{Appends}
use Rattle.run_record.specs.Pieces.{pieces_text}
use Rattle.run_record.proofs.pieces.write_pieces.Given as goal

abbrev pub invariant-loop-piece : goal.invariant-loop-piece
invariant-loop-piece g l = record {
  taken : (done : List ℕ) × (pieces_text l.pieces ≡ done ++ pieces_text (drop l.piece-index l.pieces))
      × Appends (g.K.Sink.held l.fn.out) (g.K.Sink.held l.out) done;
  quiet : g.K.Sink.faults l.out ≡ g.K.Sink.faults l.fn.out;
}

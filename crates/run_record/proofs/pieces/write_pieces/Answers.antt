use Rattle.std.proofs.Common.{◌∙◌}
use Rattle.std.proofs.lemmas.List.{at_drop_more}
use Rattle.fut_base.proofs.Writing.{stopped_in, appends_both, goes_on}
use Rattle.run_record.specs.Pieces.{pieces_text}
use Rattle.run_record.proofs.pieces.write_pieces.Goals as goal

pub returns-in-Failed : goal.returns-in-Failed
returns-in-Failed g c =
    let taken = c.loop-piece.invariant.taken in
    stopped_in _ _ _ _ _ _ _ taken.0 _ _
    (goes_on _ taken.0 _ _ _ taken.1
    (at_drop_more pieces_text c.args.pieces.now c.loop-piece.piece-index _ c.loop-piece-test.true)) taken.2 c.loop-piece.invariant.quiet c.in-Failed.ensures

pub loop-piece-preserved : goal.loop-piece-preserved
loop-piece-preserved g c =
    let taken = c.loop-piece.invariant.taken in
    record {
      taken = (
        _,
        goes_on _ taken.0 _ _ _ taken.1 (at_drop_more pieces_text c.args.pieces.now c.loop-piece.piece-index _ c.loop-piece-test.true),
        appends_both _ _ _ taken.0 _ taken.2 c.in-All.ensures.0,
      );
      quiet = c.in-All.ensures.1 ∙ c.loop-piece.invariant.quiet;
    }

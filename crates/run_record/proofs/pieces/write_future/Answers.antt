use Rattle.std.proofs.Common.{[], ◌∷◌, refl, ◌∙◌}
use Rattle.std.specs.Prelude.{decimal}
use Rattle.run_record.proofs.PieceLemmas.{front_then, front_failed}
use Rattle.run_record.proofs.pieces.write_future.Goals as goal

pub returns-in-All : goal.returns-in-All
returns-in-All g c =
    let text = c.as_bytes.ensures.value ∙ c.format.ensures.text in
    front_then _ _ _ _ _ _ (102 ∷ []) (decimal c.args.future) _ _ refl c.in-All.ensures (rw text at c.write_text-in-All.ensures)

pub returns-in-Failed : goal.returns-in-Failed
returns-in-Failed g c = front_failed _ _ _ _ (102 ∷ []) (decimal c.args.future) _ refl c.in-Failed.ensures

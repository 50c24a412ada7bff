use Rattle.std.proofs.Common.{◌∙◌, sym}
use Rattle.std.proofs.lemmas.List.{at_drop_more, at_drop_all}
use Rattle.fut_base.proofs.Writing.{stopped_in, appends_both, goes_on}
use Rattle.run_record.specs.RunText.{values_line}
use Rattle.run_record.proofs.PieceLemmas.{front_then, values_next}
use Rattle.run_record.proofs.run_text.write_values.Goals as goal

pub returns-in-Failed : goal.returns-in-Failed
returns-in-Failed g c =
    let taken = c.loop-value.invariant.taken in
    let next = at_drop_more values_line c.as_slice-values.result.now c.loop-value.value-index _ c.loop-value-test.true ∙ values_next _ _ in
    rw (← c.as_slice-values.ensures)
    (stopped_in _ _ _ _ _ _ _ taken.0 _ _ (goes_on _ taken.0 _ _ _ taken.1 next) taken.2 c.loop-value.invariant.quiet c.in-Failed.ensures)

pub loop-value-preserved : goal.loop-value-preserved
loop-value-preserved g c =
    let taken = c.loop-value.invariant.taken in
    let next = at_drop_more values_line c.as_slice-values.result.now c.loop-value.value-index _ c.loop-value-test.true ∙ values_next _ _ in
    record {
      taken = (_, goes_on _ taken.0 _ _ _ taken.1 next, appends_both _ _ _ taken.0 _ taken.2 c.in-All.ensures.0);
      quiet = c.in-All.ensures.1 ∙ c.loop-value.invariant.quiet;
    }

pub returns : goal.returns
returns g c =
    let taken = c.loop-value.invariant.taken in
    let end = at_drop_all values_line c.as_slice-values.result.now c.loop-value.value-index c.loop-value-test.false in
    rw (← c.as_slice-values.ensures)
    (front_then _ _ _ _ _ _ taken.0 _ _ _ (sym (taken.1 ∙ rw end)) (taken.2, c.loop-value.invariant.quiet) c.write_text.ensures)

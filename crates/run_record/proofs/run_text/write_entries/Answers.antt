use Rattle.std.proofs.Common.{◌+◌, ◌∷◌, ◌∙◌, sym, ap, drop}
use Rattle.std.specs.Prelude.{map}
use Rattle.std.proofs.lemmas.List.{at_drop_more}
use Rattle.fut_base.specs.Events.{event_of}
use Rattle.fut_base.proofs.Writing.{stopped_in, appends_both, goes_on}
use Rattle.run_record.specs.RunText.{entry_lines}
use Rattle.run_record.proofs.run_text.write_entries.Goals as goal

pub returns-in-Failed : goal.returns-in-Failed
returns-in-Failed g c =
    let taken = c.loop-place.invariant.taken in
    let i = c.loop-place.place in
    let es = c.as_slice-entries.result.now in
    let next = at_drop_more (λ l. entry_lines i (map event_of l)) es i c.index-entries-place.result c.loop-place-test.true
    ∙ ap (λ e. entry_lines i (map event_of (e ∷ drop (i + 1) es))) (sym c.index-entries-place.is) in
    rw (← c.as_slice-entries.ensures)
    (stopped_in _ _ _ _ _ _ _ taken.0 _ _ (goes_on _ taken.0 _ _ _ taken.1 next) taken.2 c.loop-place.invariant.quiet c.in-Failed.ensures)

pub loop-place-preserved : goal.loop-place-preserved
loop-place-preserved g c =
    let taken = c.loop-place.invariant.taken in
    let i = c.loop-place.place in
    let es = c.as_slice-entries.result.now in
    let next = at_drop_more (λ l. entry_lines i (map event_of l)) es i c.index-entries-place.result c.loop-place-test.true
    ∙ ap (λ e. entry_lines i (map event_of (e ∷ drop (i + 1) es))) (sym c.index-entries-place.is) in
    record {
      taken = (_, goes_on _ taken.0 _ _ _ taken.1 next, appends_both _ _ _ taken.0 _ taken.2 c.in-All.ensures.0);
      quiet = c.in-All.ensures.1 ∙ c.loop-place.invariant.quiet;
    }

use Rattle.std.proofs.Common.{◌∙◌}
use Rattle.std.proofs.lemmas.List.{at_drop_more}
use Rattle.fut_base.proofs.Writing.{stopped_in, appends_both, goes_on}
use Rattle.run_record.specs.RunText.{race_lines}
use Rattle.run_record.proofs.run_text.write_races.Goals as goal

pub returns-in-Failed : goal.returns-in-Failed
returns-in-Failed g c =
    let taken = c.loop-race.invariant.taken in
    let next = at_drop_more race_lines c.as_slice-races.result.now c.loop-race.race-index _ c.loop-race-test.true in
    rw (← c.as_slice-races.ensures)
    (stopped_in _ _ _ _ _ _ _ taken.0 _ _ (goes_on _ taken.0 _ _ _ taken.1 next) taken.2 c.loop-race.invariant.quiet c.in-Failed.ensures)

pub loop-race-preserved : goal.loop-race-preserved
loop-race-preserved g c =
    let taken = c.loop-race.invariant.taken in
    let next = at_drop_more race_lines c.as_slice-races.result.now c.loop-race.race-index _ c.loop-race-test.true in
    record {
      taken = (_, goes_on _ taken.0 _ _ _ taken.1 next, appends_both _ _ _ taken.0 _ taken.2 c.in-All.ensures.0);
      quiet = c.in-All.ensures.1 ∙ c.loop-race.invariant.quiet;
    }

use Rattle.std.proofs.Common.{refl, ◌++◌}
use Rattle.fut_base.specs.declared.ports.Wrote.TheVariants.{Failed}
use Rattle.fut_base.specs.Events.{events_of}
use Rattle.run_record.proofs.PieceLemmas.{front_then, front_failed}
use Rattle.race_report.specs.Brief.{count_rows, race_rows, last_rows}
use Rattle.race_report.proofs.brief.write_brief.Goals as goal

pub returns-in-All-write_races : goal.returns-in-All-write_races
returns-in-All-write_races g c =
    let ran = c.args.ran.now in
    let counts = count_rows (events_of ran.history) ran.races.items in
    let races = race_rows c.args.code.now.arrays ran.races.items in
    front_then _ _ _ _ _ _ counts _ _ _ refl c.in-All.ensures
    (front_then _ _ _ _ _ _ races _ _ _ refl (rw c.arrays.ensures at c.in-All-write_races.ensures) c.write_last.ensures)

pub returns-in-Failed-write_races : goal.returns-in-Failed-write_races
returns-in-Failed-write_races g c =
    let ran = c.args.ran.now in
    let counts = count_rows (events_of ran.history) ran.races.items in
    let races = race_rows c.args.code.now.arrays ran.races.items in
    let end = last_rows ran.finish c.args.sum ran.cells.items in
    front_then _ (g.K.Sink.held c.write_counts.new.out) _ _ (g.K.Sink.faults c.write_counts.new.out) _ counts (races ++ end) _ Failed refl c.in-All.ensures
    (front_failed _ _ _ _ races end _ refl (rw c.arrays.ensures at c.in-Failed-write_races.ensures))

pub returns-in-Failed : goal.returns-in-Failed
returns-in-Failed g c =
    let ran = c.args.ran.now in
    let counts = count_rows (events_of ran.history) ran.races.items in
    front_failed _ _ _ _ counts _ _ refl c.in-Failed.ensures

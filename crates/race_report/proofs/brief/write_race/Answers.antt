use Rattle.std.proofs.Common.{refl, ◌++◌}
use Rattle.std.specs.Prelude.{codes, decimal}
use Rattle.fut_base.specs.declared.ports.Wrote.TheVariants.{Failed}
use Rattle.run_record.proofs.PieceLemmas.{front_then, front_failed}
use Rattle.race_report.specs.Brief.{cell_name}
use Rattle.race_report.proofs.brief.write_race.Goals as goal

pub returns-in-All-write_name : goal.returns-in-All-write_name
returns-in-All-write_name g c =
    let name = cell_name c.args.arrays.now c.args.race.cell in
    front_then _ _ _ _ _ _ (codes "race ") _ _ _ refl c.in-All.ensures
    (front_then _ _ _ _ _ _ name _ _ _ refl c.in-All-write_name.ensures c.write_pieces.ensures)

pub returns-in-Failed-write_name : goal.returns-in-Failed-write_name
returns-in-Failed-write_name g c =
    let r = c.args.race in
    let name = cell_name c.args.arrays.now r.cell in
    let pair = codes " " ++ (decimal r.first ++ (codes " " ++ (decimal r.second ++ codes "\n"))) in
    front_then _ (g.K.Sink.held c.write_text.new.out) _ _ (g.K.Sink.faults c.write_text.new.out) _ (codes "race ") _ _ Failed refl c.in-All.ensures
    (front_failed _ _ _ _ name pair _ refl c.in-Failed-write_name.ensures)

pub returns-in-Failed : goal.returns-in-Failed
returns-in-Failed g c = front_failed _ _ _ _ (codes "race ") _ _ refl c.in-Failed.ensures

use Rattle.std.proofs.Common.{refl, ◌++◌, length}
use Rattle.std.specs.Prelude.{codes, decimal}
use Rattle.fut_base.specs.declared.ports.Wrote.TheVariants.{Failed}
use Rattle.run_record.specs.RunText.{race_lines, last_text}
use Rattle.run_record.proofs.PieceLemmas.{front_then, front_failed}
use Rattle.run_record.proofs.run_text.write_end.Goals as goal

pub returns-in-All-write_races : goal.returns-in-All-write_races
returns-in-All-write_races g c =
    let rs = c.args.races.now.items in
    let end = last_text c.args.finish in
    let head = codes "races " ++ (decimal (length rs) ++ codes "\n") in
    front_then _ _ _ _ _ _ head (race_lines rs ++ end) _ _ refl (rw c.len.ensures at c.in-All.ensures)
    (front_then _ _ _ _ _ _ (race_lines rs) end _ _ refl c.in-All-write_races.ensures c.write_last.ensures)

pub returns-in-Failed-write_races : goal.returns-in-Failed-write_races
returns-in-Failed-write_races g c =
    let rs = c.args.races.now.items in
    let end = last_text c.args.finish in
    let head = codes "races " ++ (decimal (length rs) ++ codes "\n") in
    front_then _ (g.K.Sink.held c.write_pieces.new.out) _ _ (g.K.Sink.faults c.write_pieces.new.out) _ head (race_lines rs ++ end) _ Failed refl
    (rw c.len.ensures at c.in-All.ensures)
    (front_failed _ _ _ _ (race_lines rs) end _ refl c.in-Failed-write_races.ensures)

pub returns-in-Failed : goal.returns-in-Failed
returns-in-Failed g c =
    let rs = c.args.races.now.items in
    let head = codes "races " ++ (decimal (length rs) ++ codes "\n") in
    front_failed _ _ _ _ head (race_lines rs ++ last_text c.args.finish) _ refl (rw c.len.ensures at c.in-Failed.ensures)

use Rattle.std.proofs.Common.{refl}
use Rattle.std.specs.Prelude.{codes}
use Rattle.fut_base.specs.declared.ports.Wrote.TheVariants.{Failed}
use Rattle.run_record.specs.RunText.{finish_line}
use Rattle.run_record.proofs.PieceLemmas.{front_then, front_failed}
use Rattle.race_report.specs.Brief.{sum_row}
use Rattle.race_report.proofs.brief.write_last.Goals as goal

pub returns-in-All-write_finish : goal.returns-in-All-write_finish
returns-in-All-write_finish g c =
    let end = finish_line c.args.finish in
    let sum = sum_row c.args.wanted c.args.cells.now.items in
    front_then _ _ _ _ _ _ (codes "finish ") _ _ _ refl c.in-All.ensures
    (front_then _ _ _ _ _ _ end sum _ _ refl c.in-All-write_finish.ensures c.write_sum.ensures)

pub returns-in-Failed-write_finish : goal.returns-in-Failed-write_finish
returns-in-Failed-write_finish g c =
    let end = finish_line c.args.finish in
    let sum = sum_row c.args.wanted c.args.cells.now.items in
    front_then _ (g.K.Sink.held c.write_text.new.out) _ _ (g.K.Sink.faults c.write_text.new.out) _ (codes "finish ") _ _ Failed refl c.in-All.ensures
    (front_failed _ _ _ _ end sum _ refl c.in-Failed-write_finish.ensures)

pub returns-in-Failed : goal.returns-in-Failed
returns-in-Failed g c = front_failed _ _ _ _ (codes "finish ") _ _ refl c.in-Failed.ensures

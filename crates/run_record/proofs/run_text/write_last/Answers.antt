use Rattle.std.proofs.Common.{refl, ◌++◌}
use Rattle.std.specs.Prelude.{codes}
use Rattle.fut_base.specs.declared.ports.Wrote.TheVariants.{Failed}
use Rattle.run_record.specs.RunText.{finish_line}
use Rattle.run_record.proofs.PieceLemmas.{front_then, front_failed}
use Rattle.run_record.proofs.run_text.write_last.Goals as goal

pub returns-in-All-write_finish : goal.returns-in-All-write_finish
returns-in-All-write_finish g c =
    front_then _ _ _ _ _ _ (codes "finish ") (finish_line c.args.finish ++ codes "end\n") _ _ refl c.in-All.ensures
    (front_then _ _ _ _ _ _ (finish_line c.args.finish) (codes "end\n") _ _ refl c.in-All-write_finish.ensures c.write_text-in-All-write_finish.ensures)

pub returns-in-Failed-write_finish : goal.returns-in-Failed-write_finish
returns-in-Failed-write_finish g c =
    front_then _ (g.K.Sink.held c.write_text.new.out) _ _ (g.K.Sink.faults c.write_text.new.out) _ (codes "finish ")
    (finish_line c.args.finish ++ codes "end\n") _ Failed refl c.in-All.ensures
    (front_failed _ _ _ _ (finish_line c.args.finish) (codes "end\n") _ refl c.in-Failed-write_finish.ensures)

pub returns-in-Failed : goal.returns-in-Failed
returns-in-Failed g c = front_failed _ _ _ _ (codes "finish ") (finish_line c.args.finish ++ codes "end\n") _ refl c.in-Failed.ensures

use Rattle.std.proofs.Common.{ap, ◌∙◌}
use Rattle.run_book.specs.Turns.{with_less}
use Rattle.run_book.proofs.Changing.{set_indexed}
use Rattle.run_book.proofs.Settling.{told_none}
use Rattle.run_book.proofs.ending.tell_parent.Goals as goal

pub returns-in-Some-clause-lines : goal.returns-in-Some-clause-lines
returns-in-Some-clause-lines g c =
    set_indexed c.args.parent with_less c.args.lines.now c.requires.0 c.index-lines-parent.result c.end_child.new.self c.requires.1 c.end_child.ensures.line

pub returns-in_default-clause-jobs : goal.returns-in_default-clause-jobs
returns-in_default-clause-jobs g c =
    ap (λ r. r.items) c.make-jobs.ensures ∙ told_none c.args.parent c.args.lines.now c.requires.0 c.index-lines-parent.result c.requires.1
    c.in_default.ensures.job

pub returns-in_default-clause-lines : goal.returns-in_default-clause-lines
returns-in_default-clause-lines g c =
    set_indexed c.args.parent with_less c.args.lines.now c.requires.0 c.index-lines-parent.result c.end_child.new.self c.requires.1 c.end_child.ensures.line

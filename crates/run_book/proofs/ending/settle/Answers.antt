use Rattle.run_book.proofs.Settling.{settled_none, settled_parent, settled_jobs, settled_lines}
use Rattle.run_book.proofs.ending.settle.Goals as goal

pub returns-in-None-clause-lines : goal.returns-in-None-clause-lines
returns-in-None-clause-lines g c =
    let line = c.requires.line in
    settled_none c.args.task c.args.lines.now line.0 c.index-lines-task.result c.end-waiters.new.self c.args.value c.args.last line.1 c.end-waiters.ensures.line
    c.in-None.ensures

pub returns-in-Some-clause-jobs : goal.returns-in-Some-clause-jobs
returns-in-Some-clause-jobs g c =
    let line = c.requires.line in
    let p = c.in-Some.parent in
    let parent = settled_parent c.args.task p c.args.lines.now line.0 c.index-lines-task.result line.1 c.in-Some.ensures in
    settled_jobs c.args.task p c.args.lines.now line.0 c.index-lines-task.result c.end-waiters.new.self c.tell_parent.result.items line.1 c.in-Some.ensures
    (c.requires.parent p parent.1).0 (line.3 p parent.0) c.tell_parent.ensures.jobs

pub returns-in-Some-clause-lines : goal.returns-in-Some-clause-lines
returns-in-Some-clause-lines g c =
    let line = c.requires.line in
    settled_lines c.args.task c.in-Some.parent c.args.lines.now line.0 c.index-lines-task.result c.end-waiters.new.self c.args.value c.args.last
    c.tell_parent.new.lines
    line.1 c.end-waiters.ensures.line c.in-Some.ensures c.tell_parent.ensures.lines

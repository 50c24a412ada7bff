use Rattle.run_book.specs.Turns.{with_child}
use Rattle.run_book.proofs.Changing.{set_indexed}
use Rattle.run_book.proofs.line.begin_child.Goals as goal

pub returns : goal.returns
returns g c =
    set_indexed c.args.task (with_child c.args.child) c.args.lines.now c.requires.0 c.index-lines-task.result c.begin_child.new.self c.requires.1
    c.begin_child.ensures

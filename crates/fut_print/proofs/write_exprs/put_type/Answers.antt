use Rattle.fut_syntax.specs.Tokens.{type_before}
use Rattle.fut_print.proofs.Written.{fut_wrote}
use Rattle.fut_print.proofs.write_exprs.put_type.Goals as goal

pub loop-left-preserved : goal.loop-left-preserved
loop-left-preserved c =
    fut_wrote c.loop-left.left c.loop-left.out.items c.put.new.out.items c.args.out.now.items
    (type_before c.args.depth) c.loop-left-test.true c.in_ok-put.ensures c.loop-left.invariant

use Rattle.std.proofs.lemmas.Result.{on_ok_weaker}
use Rattle.fut_print.proofs.Written.{more_done}
use Rattle.fut_print.proofs.write_exprs.put_more.Goals as goal

pub returns : goal.returns
returns c =
    on_ok_weaker c.put-2.result
    (more_done c.loop-argument.argument-index c.args.given.now c.loop-argument.out.items c.args.out.now.items c.put-2.new.out.items
    c.loop-argument-test.false c.loop-argument.invariant) c.put-2.ensures

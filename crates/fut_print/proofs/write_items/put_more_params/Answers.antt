use Rattle.std.proofs.lemmas.Result.{on_ok_weaker}
use Rattle.fut_print.proofs.Written.{more_params_done}
use Rattle.fut_print.proofs.write_items.put_more_params.Goals as goal

pub returns : goal.returns
returns c =
    on_ok_weaker c.put-2.result
    (more_params_done c.loop-param.param-index c.args.given.now c.loop-param.out.items c.args.out.now.items c.put-2.new.out.items c.loop-param-test.false
    c.loop-param.invariant) c.put-2.ensures

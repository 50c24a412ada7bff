use Rattle.std.proofs.Common.{subst, sym, arith}
use Rattle.race_finder.specs.Finding.{AreLogsOf}
use Rattle.race_finder.proofs.Accesses.{logs_push}
use Rattle.race_finder.proofs.cells.grow.Goals as goal

pub loop-alloc-preserved : goal.loop-alloc-preserved
loop-alloc-preserved c =
    let i = c.loop-alloc.invariant in
    let items = c.in_ok-push.ensures.items in
    record {
      cells = λ h a. subst (AreLogsOf h) (sym items) (logs_push h c.loop-alloc.logs.items c.make.result c.make.ensures.log (i.cells h a));
      few = λ most le lt. (let k = i.few most le lt in omega (
        arith,
        k,
        lt,
        c.in_ok-push.ensures.len,
        c.loop-alloc-test.true,
        c.push.new.self.ok.0,
        c.loop-alloc.logs.ok.0,
      ));
    }

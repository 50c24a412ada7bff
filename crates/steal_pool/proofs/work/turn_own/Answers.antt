use Rattle.steal_pool.proofs.Working.{no_turn, one_more}
use Rattle.steal_pool.proofs.work.turn_own.Goals as goal

pub loop-init : goal.loop-init
loop-init g c = record { runs = (tt, tt); worked = no_turn (g.B.Body.turned c.args.body.now) c.args.worker.now; pushed = c.requires }

pub loop-preserved : goal.loop-preserved
loop-preserved g c = record {
  runs = (tt, tt);
  worked =
      one_more
      (g.B.Body.turned c.args.body.now) c.args.worker.now c.loop.worker c.own_job.new.worker c.turn_job.new.worker c.in-Some-own_job.job c.loop.invariant.worked
      c.in-Some-own_job.ensures.moved c.turn_job.ensures.worked;
  pushed = c.turn_job.ensures.pushed;
}

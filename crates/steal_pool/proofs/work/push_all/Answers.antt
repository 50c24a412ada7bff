use Rattle.std.proofs.Common.{refl}
use Rattle.steal_pool.proofs.Shifting.{pushed, kept}
use Rattle.steal_pool.proofs.Working.{pushed_one, refused_one}
use Rattle.steal_pool.proofs.work.push_all.Goals as goal

pub loop-job-preserved : goal.loop-job-preserved
loop-job-preserved g c =
    let t = c.loop-job.worker.thief in
    record {
      left = c.loop-job.invariant.left;
      moved =
          pushed_one c.args.worker.now c.loop-job.worker _ c.args.jobs.items c.loop-job.rest.items c.pop.new.self.items c.in-Some.job c.in-Some.ensures.items
          refl refl refl refl refl
          (pushed t c.push.new.self c.in-Some.job c.in_default-push.ensures.victims c.in_default-push.ensures.same.0 c.in_default-push.ensures.rule)
          c.loop-job.invariant.moved;
    }

pub returns-in-Err-clause-moved : goal.returns-in-Err-clause-moved
returns-in-Err-clause-moved g c =
    let t = c.loop-job.worker.thief in
    refused_one c.args.worker.now c.loop-job.worker _ c.args.jobs.items c.loop-job.rest.items c.pop.new.self.items c.in-Some.job c.in-Err.back
    c.in-Some.ensures.items c.in-Err.ensures.rule.0
    c.loop-job.invariant.left c.push-in-Err.ensures.items refl refl refl refl
    (kept t c.push.new.self c.in-Err.ensures.victims c.in-Err.ensures.same.0 c.in-Err.ensures.rule.1) c.loop-job.invariant.moved

use Rattle.std.proofs.Common.{◌<◌, length, refl, ◌∙◌, arith}
use Rattle.std.proofs.lemmas.List.{length-set}
use Rattle.steal_pool.specs.Workers.{HasNothingLeft}
use Rattle.steal_pool.proofs.Enrolling.{no_group, drained_one_at, bare_more}
use Rattle.steal_pool.proofs.gather.drain_all.Goals as goal

pub loop-k-init : goal.loop-k-init
loop-k-init g c = record { count = refl; group = no_group c.args.workers.now c.args.jobs.now.items; bare = λ i d l. absurd (omega arith) }

pub loop-k-preserved : goal.loop-k-preserved
loop-k-preserved g c =
    let ms = c.loop-k.workers in
    let k = c.loop-k.k in
    let m = c.drain.new.worker in
    let l : k < length ms = omega (arith, c.loop-k-test.true, c.loop-k.invariant.count) in
    record {
      count = length-set ms k m ∙ c.loop-k.invariant.count;
      group =
          drained_one_at c.args.workers.now ms c.args.jobs.now.items c.loop-k.jobs.items c.drain.new.jobs.items k c.index-workers-k.result m l
          c.loop-k.invariant.group c.in_ok-drain.ensures.0;
      bare = bare_more HasNothingLeft ms k m l c.in_ok-drain.ensures.1 c.loop-k.invariant.bare;
    }

pub returns : goal.returns
returns g c = (c.loop-k.invariant.group, λ i d l. c.loop-k.invariant.bare i d (let n = c.loop-k.invariant.count in omega arith))

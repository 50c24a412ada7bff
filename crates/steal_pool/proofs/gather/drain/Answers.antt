use Rattle.std.proofs.Common.{◌≡◌, [], ◌∷◌, ◌++◌, sym, ap, ◌∙◌, subst}
use Rattle.std.specs.Option.{option_to_list}
use Rattle.steal_pool.specs.Workers.{Moved}
use Rattle.steal_pool.proofs.Working.{still, moved_then}
use Rattle.steal_pool.proofs.Enrolling.{joins, passes}
use Rattle.steal_pool.proofs.gather.drain.Goals as goal

pub loop-init : goal.loop-init
loop-init g c = record { runs = (tt, tt); moved = still c.args.worker.now c.args.jobs.now.items }

pub returns-in_default : goal.returns-in_default
returns-in_default g c =
    let m0 = c.args.worker.now in
    let m1 = c.loop.worker in
    let m2 = c.take_job.new.worker in
    let xs = c.args.jobs.now.items in
    let ys = c.loop.jobs.items in
    let p = subst (λ o. Moved m1 [] m2 (option_to_list o)) c.in_default.is c.take_job.ensures.moved in
    (moved_then m0 m1 m2 xs ys ys c.loop.invariant.moved (passes m1 m2 ys p), c.take_job.ensures.none c.in_default.is)

pub loop-preserved : goal.loop-preserved
loop-preserved g c =
    let m0 = c.args.worker.now in
    let m1 = c.loop.worker in
    let m2 = c.take_job.new.worker in
    let xs = c.args.jobs.now.items in
    let ys = c.loop.jobs.items in
    let job = c.in-Some-take_job.job ∷ [] in
    let p = moved_then m0 m1 m2 xs ys (ys ++ job) c.loop.invariant.moved (joins m1 m2 ys job c.in-Some-take_job.ensures.moved) in
    let is : c.push.new.self.items ≡ ys ++ job = c.push.ensures.items ∙ ap (λ zs. zs ++ job) c.reserve.ensures.items in
    record { runs = (tt, tt); moved = subst (λ zs. Moved m0 xs m2 zs) (sym is) p }

use Rattle.std.proofs.Common.{List, All, length, sym, ap, subst, arith}
use Rattle.std.proofs.lemmas.List.{length-map}
use Rattle.steal_pool.specs.declared.worker.Worker.{Worker}
use Rattle.steal_pool.specs.Workers.{LeavesOnlyIfStopped}
use Rattle.steal_pool.specs.AllWorkers.{HaveAllPasses}
use Rattle.steal_pool.proofs.Starts.{none_stopped}
use Rattle.steal_pool.proofs.Wholes.{over3, still_as_many, turned_or_left}
use Rattle.steal_pool.proofs.pool.run_jobs.Goals as goal

pub run_all-requires-after_bounds : goal.run_all-requires-after_bounds
run_all-requires-after_bounds g c κs within =
    let start = c.in_ok-workers.ensures.0 in
    let P : List (Worker g.row.J.Denot g.row.W.Denot) → Type 0 = λ ms. All LeavesOnlyIfStopped ms × HaveAllPasses ms in
    subst P (sym c.as_mut_slice.ensures.value) (none_stopped c.args.owns.items c.args.first c.in_ok-workers.workers.items start, start.passes)

pub left_jobs-requires : goal.left_jobs-requires
left_jobs-requires g c =
    let n = c.in_ok-workers.workers.len in
    over3 (g.B.Body.turned c.args.body.now) n c.in_ok-workers.workers.items c.as_mut_slice.result.now c.run_all.new.workers
    (sym c.in_ok-workers.workers.ok.0) c.as_mut_slice.ensures.value c.run_all.ensures.ran
    c.as_mut_slice-2.result.now c.as_mut_slice-2.ensures.value c.run_all.ensures.over

pub return_owns-requires : goal.return_owns-requires
return_owns-requires g c =
    let n = c.in_ok-workers.workers.len in
    let items = c.in_ok-workers.workers.items in
    let start = c.in_ok-workers.ensures.0 in
    let same = ap length start.values in
    let owns = length-map items (λ (x : Worker g.row.J.Denot g.row.W.Denot). x.own) in
    let len = c.in_ok-workers.workers.ok.0 in
    let room = c.in_ok-workers.ensures.2 in
    let many = still_as_many (g.B.Body.turned c.args.body.now) n items c.as_mut_slice.result.now c.run_all.new.workers
    (sym len) c.as_mut_slice.ensures.value c.run_all.ensures.ran
    c.as_mut_slice-2.result.now c.left_jobs.new.workers c.in_ok-jobs.jobs.items c.as_mut_slice-2.ensures.value c.in_ok-jobs.ensures.0 in
    (c.in_ok-workers.ensures.1, omega arith)

pub returns : goal.returns
returns g c =
    turned_or_left (g.B.Body.turned c.args.body.now) c.in_ok-workers.workers.len c.in_ok-workers.workers.items c.as_mut_slice.result.now c.run_all.new.workers
    (sym c.in_ok-workers.workers.ok.0)
    c.as_mut_slice.ensures.value c.run_all.ensures.ran c.as_mut_slice-2.result.now c.left_jobs.new.workers c.in_ok-jobs.jobs.items
    c.as_mut_slice-2.ensures.value c.in_ok-jobs.ensures.0
    c.args.first c.args.owns.items c.return_owns.new.owns.items c.in_ok-workers.ensures.0 c.in_ok-jobs.ensures.1 c.in_ok-jobs.ensures.2 c.return_owns.ensures

use Rattle.std.proofs.Common.{◌≡◌, [], length}
use Rattle.steal_pool.specs.Workers.{Moved}
use Rattle.steal_pool.proofs.work.push_all.Given as goal

abbrev pub invariant-loop-job : goal.invariant-loop-job
invariant-loop-job g l = record { left : l.worker.left.items ≡ []; moved : Moved l.fn.worker l.fn.jobs.items l.worker l.rest.items }

abbrev pub decreases-loop-job : goal.decreases-loop-job
decreases-loop-job g l = length l.rest.items

use Rattle.steal_pool.proofs.Gathering.{GatherSoFar}
use Rattle.steal_pool.proofs.gather.gather.Given as goal

abbrev pub invariant-loop-w : goal.invariant-loop-w
invariant-loop-w g l = GatherSoFar l.fn.workers l.workers l.w

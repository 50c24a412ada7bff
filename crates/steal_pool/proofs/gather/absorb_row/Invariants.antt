use Rattle.std.proofs.Common.{vec_len}
use Rattle.steal_pool.proofs.Gathering.{SoFar}
use Rattle.steal_pool.proofs.gather.absorb_row.Given as goal

abbrev pub invariant-loop-victim : goal.invariant-loop-victim
invariant-loop-victim g l = SoFar l.fn.workers l.fn.row.items l.workers l.rest.items

abbrev pub decreases-loop-victim : goal.decreases-loop-victim
decreases-loop-victim g l = vec_len l.rest

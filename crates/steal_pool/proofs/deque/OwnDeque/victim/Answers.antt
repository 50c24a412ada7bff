use Rattle.steal_pool.proofs.Rule.{forks}
use Rattle.steal_pool.proofs.deque.OwnDeque.victim.Goals as goal

pub another-pass-requires : goal.another-pass-requires
another-pass-requires g c = forks _ _ c.requires

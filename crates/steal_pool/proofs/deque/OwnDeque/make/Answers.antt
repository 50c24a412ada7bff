use Rattle.steal_pool.proofs.Rule.{begins}
use Rattle.steal_pool.proofs.deque.OwnDeque.make.Goals as goal

pub fifo_as-requires : goal.fifo_as-requires
fifo_as-requires g c = begins

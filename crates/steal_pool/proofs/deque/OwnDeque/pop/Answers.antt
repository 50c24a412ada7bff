use Rattle.steal_pool.proofs.Rule.{takes}
use Rattle.steal_pool.proofs.deque.OwnDeque.pop.Goals as goal

pub pop_as-job-requires-clause-fifo : goal.pop_as-job-requires-clause-fifo
pop_as-job-requires-clause-fifo g c = λ _. takes _ 1 _ c.args.self.now.part

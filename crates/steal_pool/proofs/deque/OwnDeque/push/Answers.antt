use Rattle.steal_pool.proofs.Rule.{puts}
use Rattle.steal_pool.proofs.deque.OwnDeque.push.Goals as goal

pub push_as-requires-clause-pushes : goal.push_as-requires-clause-pushes
push_as-requires-clause-pushes g c = puts _ _ _ c.args.self.now.part

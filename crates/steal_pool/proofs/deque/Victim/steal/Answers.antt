use Rattle.steal_pool.proofs.Rule.{takes}
use Rattle.steal_pool.proofs.deque.Victim.steal.Goals as goal

pub steal_as-requires-clause-takes : goal.steal_as-requires-clause-takes
steal_as-requires-clause-takes g c = takes _ 1 _ c.loop.self.part

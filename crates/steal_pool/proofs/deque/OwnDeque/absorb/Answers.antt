use Rattle.steal_pool.proofs.Rule.{merges}
use Rattle.steal_pool.proofs.deque.OwnDeque.absorb.Goals as goal

pub absorb-requires-clause-rule : goal.absorb-requires-clause-rule
absorb-requires-clause-rule g c = merges _ _ _ _ c.args.self.now.part

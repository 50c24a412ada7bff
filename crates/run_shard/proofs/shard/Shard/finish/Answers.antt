use Rattle.std.proofs.Common.{subst}
use Rattle.run_shard.specs.Shards.{ShardNow}
use Rattle.run_shard.specs.Ends.{cells_of, AreEnds}
use Rattle.run_shard.proofs.Counting.{shard_ends}
use Rattle.run_shard.proofs.shard.Shard.finish.Goals as goal

pub returns-clause-ends : goal.returns-clause-ends
returns-clause-ends g c =
    let s : ShardNow = record { holder = c.self.inside.holder; reader = c.self.inside.reader; values = c.self.inside.values.items; logs = c.self.inside.logs.items } in
    subst (λ (x : ShardNow). AreEnds g.J.Run.code g.row.I x (cells_of g.row.I s.values s.logs)) c.self.view_is
    (shard_ends g.J.Run.clock g.J.Run.orders g.J.Run.code g.row.I s c.self.invariant)

use Rattle.std.proofs.Common.{◌≡◌, ◌≤◌, ◌++◌, length, map}
use Rattle.std.specs.Vec.Iter.{into_iter_items}
use Rattle.steal_pool.specs.declared.worker.Worker.{Worker}
use Rattle.steal_pool.proofs.gather.return_owns.Given as goal

abbrev pub invariant-loop-worker : goal.invariant-loop-worker
invariant-loop-worker g l = record {
  done : l.owns.items ++ map (λ (m : Worker g.row.J.Denot g.row.W.Denot). m.own) (into_iter_items l.rest)
      ≡ map (λ (m : Worker g.row.J.Denot g.row.W.Denot). m.own) l.fn.workers.items;
  room : length (into_iter_items l.rest) ≤ l.owns.spare;
}

abbrev pub decreases-loop-worker : goal.decreases-loop-worker
decreases-loop-worker g l = length (into_iter_items l.rest)

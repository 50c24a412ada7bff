use Rattle.steal_pool.specs.Workers.{Moved}
use Rattle.steal_pool.proofs.gather.drain.Given as goal

abbrev pub invariant-loop : goal.invariant-loop
invariant-loop g l = record {
  runs : (goal.iterator-loop g).can_next l.iterator' × (goal.iterator-loop g).is_finite l.iterator';
  moved : Moved l.fn.worker l.fn.jobs.items l.worker l.jobs.items;
}

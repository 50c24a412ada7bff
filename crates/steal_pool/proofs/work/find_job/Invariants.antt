use Rattle.std.proofs.Common.{[]}
use Rattle.steal_pool.specs.Thieves.{Transfers}
use Rattle.steal_pool.proofs.work.find_job.Given as goal

abbrev pub invariant-loop : goal.invariant-loop
invariant-loop g l = record {
  runs : (goal.iterator-loop g).can_next l.iterator' × (goal.iterator-loop g).is_finite l.iterator';
  shifts : Transfers l.fn.thief l.thief [] [];
}

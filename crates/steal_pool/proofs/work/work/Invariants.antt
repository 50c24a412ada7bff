use Rattle.std.proofs.Common.{[]}
use Rattle.steal_pool.specs.Workers.{Worked, LeavesOnlyIfStopped}
use Rattle.steal_pool.proofs.work.work.Given as goal

abbrev pub invariant-loop : goal.invariant-loop
invariant-loop g l = record {
  runs : (goal.iterator-loop g).can_next l.iterator' × (goal.iterator-loop g).is_finite l.iterator';
  worked : Worked (g.B.Body.turned l.body) l.fn.worker [] l.worker [];
  pushed : LeavesOnlyIfStopped l.worker;
}

use Rattle.std.proofs.Common.{◌≡◌, ◌+◌, length}
use Rattle.steal_pool.proofs.Enrolling.{Enrolled}
use Rattle.steal_pool.proofs.start.new_workers.Given as goal

abbrev pub invariant-loop-number : goal.invariant-loop-number
invariant-loop-number g l = record {
  count : l.count ≡ length l.fn.owns.items;
  rest_count : length l.initial.rest.items ≡ l.count;
  enrolled : Enrolled l.fn.owns.items l.initial.rest.items l.workers.items l.owns.items l.rest.items;
  at : length l.workers.items ≡ l.number;
  spare : l.owns.spare ≡ l.fn.owns.spare + l.number;
}

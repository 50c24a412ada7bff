use Rattle.std.proofs.Common.{◌≡◌, ◌<◌, ◌≤◌, ◌⊎◌, ℕ, [], length, get_or}
use Rattle.steal_pool.specs.declared.worker.Worker.{Worker}
use Rattle.steal_pool.specs.Workers.{Worked, IsStopped, HasNothingLeft}
use Rattle.steal_pool.proofs.pool.turn_rest.Given as goal

abbrev pub invariant-loop-k : goal.invariant-loop-k
invariant-loop-k g l = record {
  count : length l.workers ≡ length l.fn.workers;
  done : (i : ℕ) (d : Worker g.row.J.Denot g.row.W.Denot) → i < l.k → i < length l.fn.workers
      → Worked (g.B.Body.turned l.body) (get_or l.fn.workers i d) [] (get_or l.workers i d) []
      × (IsStopped (get_or l.workers i d) ⊎ HasNothingLeft (get_or l.workers i d));
  rest : (i : ℕ) (d : Worker g.row.J.Denot g.row.W.Denot) → l.k ≤ i → get_or l.workers i d ≡ get_or l.fn.workers i d;
}

use Rattle.std.proofs.Common.{◌≡◌, ◌<◌, ℕ, length, get_or}
use Rattle.steal_pool.specs.declared.worker.Worker.{Worker}
use Rattle.steal_pool.specs.Workers.{HasNothingLeft}
use Rattle.steal_pool.specs.AllWorkers.{AllMoved}
use Rattle.steal_pool.proofs.gather.drain_all.Given as goal

abbrev pub invariant-loop-k : goal.invariant-loop-k
invariant-loop-k g l = record {
  count : length l.workers ≡ length l.fn.workers;
  group : AllMoved l.fn.workers l.fn.jobs.items l.workers l.jobs.items;
  bare : (i : ℕ) (d : Worker g.row.J.Denot g.row.W.Denot) → i < l.k → HasNothingLeft (get_or l.workers i d);
}

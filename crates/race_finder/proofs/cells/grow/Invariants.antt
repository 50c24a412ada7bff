use Rattle.std.proofs.Common.{ℕ, ◌+◌, ◌-◌, ◌<◌, ◌≤◌, List, length, vec_len}
use Rattle.fut_base.specs.declared.event.Event.{Event}
use Rattle.race_finder.specs.Finding.{AreLogsOf}
use Rattle.race_finder.proofs.cells.grow.Given as goal

abbrev pub invariant-loop-alloc : goal.invariant-loop-alloc
invariant-loop-alloc l = record {
  cells : (h : List Event) → AreLogsOf h l.fn.logs.items → AreLogsOf h l.logs.items;
  few : (most : ℕ) → length l.fn.logs.items ≤ most → l.cell < most → length l.logs.items ≤ most;
}

abbrev pub decreases-loop-alloc : goal.decreases-loop-alloc
decreases-loop-alloc l = l.cell + 1 - vec_len l.logs

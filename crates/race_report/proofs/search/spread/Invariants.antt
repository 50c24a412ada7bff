use Rattle.std.proofs.Common.{◌≡◌, ℕ, ◌≤◌, true, take}
use Rattle.std.specs.BTreeSet.{btree_set_len}
use Rattle.race_report.specs.Search.{has, IsClosed, OnlyReached}
use Rattle.race_report.proofs.search.spread.Given as goal

abbrev pub invariant-loop-step : goal.invariant-loop-step
invariant-loop-step l = record {
  kept : (v : ℕ) → has l.initial.reached v ≡ true → has l.reached v ≡ true;
  sound : (start : ℕ) → OnlyReached l.steps start l.initial.reached → OnlyReached l.steps start l.reached;
  rises : btree_set_len l.initial.reached ≤ btree_set_len l.reached;
  closed : btree_set_len l.reached ≡ btree_set_len l.initial.reached → IsClosed (take l.step-index l.steps) l.reached;
}

use Rattle.std.proofs.Common.{◌+◌, ◌-◌, ◌≤◌, ◌++◌, length, drop}
use Rattle.reach_table.proofs.Runs.{part}
use Rattle.reach_table.proofs.Uniting.{Unites}
use Rattle.reach_table.proofs.merging.union.Given as goal

abbrev pub invariant-loop-i : goal.invariant-loop-i
invariant-loop-i l = record {
  order : l.start ≤ l.i;
  first : l.i ≤ length l.one;
  second : l.j ≤ length l.other;
  unites : Unites l.one l.other (l.all.items ++ part l.start l.i l.one) (drop l.i l.one) (drop l.j l.other);
}

abbrev pub decreases-loop-i : goal.decreases-loop-i
decreases-loop-i l = (length l.one - l.i) + (length l.other - l.j)

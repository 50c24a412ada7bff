use Rattle.std.proofs.Common.{◌-◌, ◌≤◌, length, take}
use Rattle.reach_table.specs.Joining.{HoldsAll}
use Rattle.reach_table.proofs.joining.holds.Given as goal

abbrev pub invariant-loop-i : goal.invariant-loop-i
invariant-loop-i l = record {
  first : l.i ≤ length l.strands;
  second : l.j ≤ length l.other;
  held : HoldsAll l.lists l.strands (take l.j l.other);
}

abbrev pub decreases-loop-i : goal.decreases-loop-i
decreases-loop-i l = length l.strands - l.i

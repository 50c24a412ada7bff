use Rattle.std.proofs.Common.{◌-◌, ◌≤◌, ◌++◌, length}
use Rattle.reach_table.proofs.Runs.{part}
use Rattle.reach_table.proofs.Leaving.{Leaves}
use Rattle.reach_table.proofs.merging.greatest.Given as goal

abbrev pub invariant-loop-place : goal.invariant-loop-place
invariant-loop-place l = record {
  order : l.start ≤ l.place;
  within : l.place ≤ length l.strands;
  some : 1 ≤ l.width;
  leaves : Leaves l.lists l.own l.strands l.place (l.left.items ++ part l.start l.place l.strands);
}

abbrev pub decreases-loop-place : goal.decreases-loop-place
decreases-loop-place l = length l.strands - l.place

use Rattle.std.proofs.Common.{◌-◌, ◌≤◌, length, take, drop}
use Rattle.fut_base.specs.Dag.{Among}
use Rattle.strand_tree.specs.declared.strand.Strand.{Strand}
use Rattle.reach_table.specs.Sorted.{IsBelow}
use Rattle.reach_table.proofs.merging.count_below.Given as goal

abbrev pub invariant-loop-low : goal.invariant-loop-low
invariant-loop-low l = record {
  least : l.low ≤ l.high;
  within : l.high ≤ length l.strands;
  below : (w : Strand) → Among w (take l.low l.strands) → IsBelow w l.one;
  behind : (w : Strand) → Among w (drop l.high l.strands) → IsBelow w l.one → ⊥;
}

abbrev pub decreases-loop-low : goal.decreases-loop-low
decreases-loop-low l = l.high - l.low

use Rattle.std.proofs.Common.{◌≡◌, ◌<◌, true, length, All}
use Rattle.race_origins.specs.declared.edges.Edge.{Edge}
use Rattle.race_origins.specs.Marks.{has, unmarked, OnlyReaching}
use Rattle.race_origins.proofs.marks.marks_before.Given as goal

abbrev pub invariant-loop-marks : goal.invariant-loop-marks
invariant-loop-marks l = record {
  fits : All (λ (e : Edge). e.from < length l.marks.items) l.edges;
  begun : has l.marks.items l.strand ≡ true;
  sound : OnlyReaching l.edges l.strand l.marks.items;
}

abbrev pub decreases-loop-marks : goal.decreases-loop-marks
decreases-loop-marks l = unmarked l.marks.items

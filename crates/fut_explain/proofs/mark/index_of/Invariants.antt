use Rattle.std.proofs.Common.{◌-◌, length}
use Rattle.fut_explain.proofs.Finding.{Among}
use Rattle.fut_explain.proofs.mark.index_of.Given as goal

abbrev pub invariant-loop-at : goal.invariant-loop-at
invariant-loop-at l = Among l.places l.place l.at

abbrev pub decreases-loop-at : goal.decreases-loop-at
decreases-loop-at l = length l.places - l.at

use Rattle.std.proofs.Common.{◌≡◌, map, take}
use Rattle.fut_base.specs.Dag.{edges_past}
use Rattle.race_report.specs.Edges.{past_of, ends_of}
use Rattle.race_report.proofs.edges.edges_between.Given as goal

abbrev pub invariant-loop-place : goal.invariant-loop-place
invariant-loop-place l = map ends_of l.edges.items ≡ edges_past (past_of (take l.place l.entries))

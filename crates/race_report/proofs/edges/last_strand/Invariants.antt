use Rattle.std.proofs.Common.{◌≡◌, take}
use Rattle.fut_base.specs.Dag.{last_of}
use Rattle.race_report.specs.Edges.{past_of}
use Rattle.race_report.proofs.edges.last_strand.Given as goal

abbrev pub invariant-loop-entry : goal.invariant-loop-entry
invariant-loop-entry l = l.last ≡ last_of (past_of (take l.entry-index l.entries)) l.task

use Rattle.std.proofs.Common.{◌≡◌, map, take}
use Rattle.fut_base.specs.Dag.{edges_past}
use Rattle.race_origins.specs.Edges.{past_of, ends_of, AreTasksOf}
use Rattle.race_origins.proofs.edges.edges_made.Given as goal

abbrev pub invariant-loop-entry : goal.invariant-loop-entry
invariant-loop-entry l = record {
  edges : map ends_of l.edges.items ≡ edges_past (past_of (take l.entry-index l.entries));
  tasks : AreTasksOf (past_of (take l.entry-index l.entries)) l.tasks;
}

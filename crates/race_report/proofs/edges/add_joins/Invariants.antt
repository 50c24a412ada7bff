use Rattle.std.proofs.Common.{◌≡◌, ◌++◌, map, take}
use Rattle.fut_base.specs.Dag.{joins}
use Rattle.race_report.specs.Edges.{past_of, ends_of}
use Rattle.race_report.proofs.edges.add_joins.Given as goal

abbrev pub invariant-loop-task : goal.invariant-loop-task
invariant-loop-task l =
    map ends_of l.edges.items ≡ map ends_of l.initial.edges.items ++ joins (past_of l.before) (take l.task-index l.tasks) l.to

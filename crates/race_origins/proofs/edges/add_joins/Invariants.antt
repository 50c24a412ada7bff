use Rattle.std.proofs.Common.{◌≡◌, ◌++◌, List, map, take}
use Rattle.fut_base.specs.declared.event.Event.{Event}
use Rattle.fut_base.specs.Dag.{joins}
use Rattle.race_origins.specs.Edges.{ends_of, AreTasksOf}
use Rattle.race_origins.proofs.edges.add_joins.Given as goal

abbrev pub invariant-loop-task : goal.invariant-loop-task
invariant-loop-task l =
    (past : List Event) → AreTasksOf past l.tasks
    → map ends_of l.edges.items ≡ map ends_of l.initial.edges.items ++ joins past (take l.task-index l.joined) l.to

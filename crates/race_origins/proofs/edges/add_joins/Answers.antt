use Rattle.std.proofs.Common.{arith, map, ◌∙◌}
use Rattle.race_origins.specs.Edges.{ends_of}
use Rattle.race_origins.proofs.Pasts.{joined_more}
use Rattle.race_origins.proofs.edges.add_joins.Goals as goal

pub loop-task-preserved : goal.loop-task-preserved
loop-task-preserved c past known =
    joined_more past c.args.joined.now c.loop-task.task-index c.args.to c.last.result (map ends_of c.args.edges.now.items) _ _
    (omega arith) (c.last.ensures ∙ known.lasts _) (c.loop-task.invariant past known) c.in_ok-add_join.ensures

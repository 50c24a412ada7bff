use Rattle.std.proofs.Common.{arith, map}
use Rattle.race_report.specs.Edges.{past_of, ends_of}
use Rattle.race_report.proofs.Pasts.{joined_more}
use Rattle.race_report.proofs.edges.add_joins.Goals as goal

pub loop-task-preserved : goal.loop-task-preserved
loop-task-preserved c =
    joined_more (past_of c.args.before.now) c.args.tasks.now c.loop-task.task-index c.args.to c.last_strand.result (map ends_of c.args.edges.now.items) _ _
    (omega arith) c.last_strand.ensures c.loop-task.invariant c.in_ok-add_join.ensures

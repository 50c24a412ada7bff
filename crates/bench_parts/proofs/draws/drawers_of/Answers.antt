use Rattle.bench_parts.proofs.Drawing.{of_popped}
use Rattle.bench_parts.proofs.draws.drawers_of.Goals as goal

pub spawn-requires-clause-clock : goal.spawn-requires-clause-clock
spawn-requires-clause-clock c = (of_popped c.args.clock.now.id _ _ _ c.in-Some.ensures.items c.loop-task.invariant.1).1

pub loop-task-preserved : goal.loop-task-preserved
loop-task-preserved c = (c.in_ok-spawn.ensures.first, (of_popped c.args.clock.now.id _ _ _ c.in-Some.ensures.items c.loop-task.invariant.1).0)

use Rattle.std.proofs.Common.{◌<◌}
use Rattle.event_clock.specs.Closing.{AreOf}
use Rattle.bench_parts.specs.Drawing.{CanSpawn}
use Rattle.bench_parts.proofs.draws.drawers_of.Given as goal

abbrev pub invariant-loop-task : goal.invariant-loop-task
invariant-loop-task l = CanSpawn l.clock l.first l.task × AreOf l.clock.id l.list.items

use Rattle.std.proofs.Common.{ap}
use Rattle.std.specs.Prelude.{Some}
use Rattle.task_code.specs.Tasks.{wished}
use Rattle.task_code.proofs.steps.wish.Goals as goal

pub returns-in-Spawn : goal.returns-in-Spawn
returns-in-Spawn c = (_, ap (λ i. wished c.args.arrays.now c.args.frame.now.slots c.args.is_open (Some i)) c.in-Spawn.is)

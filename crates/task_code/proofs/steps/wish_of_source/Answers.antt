use Rattle.std.proofs.Common.{ap}
use Rattle.task_code.specs.Tasks.{wished_source}
use Rattle.task_code.proofs.steps.wish_of_source.Goals as goal

pub returns-in-Create : goal.returns-in-Create
returns-in-Create c = (_, ap (wished_source c.args.arrays.now c.args.frame.now.slots) c.in-Create.is)

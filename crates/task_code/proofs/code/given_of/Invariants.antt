use Rattle.task_code.proofs.Serving.{Taken}
use Rattle.task_code.proofs.code.given_of.Given as goal

abbrev pub invariant-loop-param : goal.invariant-loop-param
invariant-loop-param l = Taken l.names l.params l.param-index l.first l.given.items

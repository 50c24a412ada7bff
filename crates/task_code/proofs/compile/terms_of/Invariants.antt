use Rattle.std.proofs.Common.{List, ◌++◌, drop}
use Rattle.fut_syntax.specs.Views.{args_tree}
use Rattle.task_frame.specs.declared.term.Term.{Term}
use Rattle.task_code.specs.Flat.{MeanAll}
use Rattle.task_code.proofs.compile.terms_of.Given as goal

abbrev pub invariant-loop-arg : goal.invariant-loop-arg
invariant-loop-arg l = (more : List Term) → MeanAll l.scope.names.now (args_tree (drop l.arg-index l.args)) more
    → MeanAll l.scope.names.now (args_tree l.args) (l.terms.items ++ more)

use Rattle.std.proofs.Common.{◌≡◌, ◌+◌, drop}
use Rattle.fut_syntax.specs.Views.{block_tree}
use Rattle.task_code.specs.Serving.{instructions_in}
use Rattle.task_code.proofs.compile.+sizes.Given as goal

abbrev pub invariant-block_size-loop-stmt : goal.invariant-block_size-loop-stmt
invariant-block_size-loop-stmt l = l.size + instructions_in (block_tree (drop l.stmt-index l.stmts)) ≡ instructions_in (block_tree l.stmts)

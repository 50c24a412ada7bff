use Rattle.std.proofs.Common.{◌≡◌, drop}
use Rattle.fut_syntax.specs.Views.{block_tree}
use Rattle.fut_check.specs.Stmts.{ends_with, ends_with_return}
use Rattle.fut_check.proofs.items.returns.Given as goal

abbrev pub invariant-loop-stmt : goal.invariant-loop-stmt
invariant-loop-stmt l = ends_with l.last (block_tree (drop l.stmt-index l.body)) ≡ ends_with_return (block_tree l.body)

use Rattle.std.proofs.Common.{drop}
use Rattle.task_frame.specs.Arrays.{HasCell}
use Rattle.task_code.proofs.code.Code.array.Given as goal

abbrev pub invariant-loop-place : goal.invariant-loop-place
invariant-loop-place l = HasCell l.cell l.array-items → HasCell l.cell (drop l.place l.array-items)

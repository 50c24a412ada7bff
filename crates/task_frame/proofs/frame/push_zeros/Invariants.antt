use Rattle.std.proofs.Common.{◌≡◌, ◌++◌, replicate}
use Rattle.task_frame.specs.Frames.{zero_value}
use Rattle.task_frame.proofs.frame.push_zeros.Given as goal

abbrev pub invariant-loop : goal.invariant-loop
invariant-loop l = l.values.items ≡ l.initial.values.items ++ replicate l.counter zero_value

use Rattle.std.proofs.Common.{◌≡◌, ◌++◌}
use Rattle.fut_explain.specs.Causes.{futs}
use Rattle.fut_explain.proofs.causes.push_futs.Given as goal

-- what is written, and then what is left
abbrev pub invariant-loop-left : goal.invariant-loop-left
invariant-loop-left l = l.out.items ++ futs l.left ≡ l.fn.out.items ++ futs l.count

abbrev pub decreases-loop-left : goal.decreases-loop-left
decreases-loop-left l = l.left

use Rattle.std.proofs.Common.{◌≡◌, ◌++◌, ◌≤◌, ◌-◌, replicate}
use Rattle.fut_explain.proofs.mark.push_carets.Given as goal

abbrev pub invariant-loop-n : goal.invariant-loop-n
invariant-loop-n l = record {
  within : l.n ≤ l.width;
  is : l.out.items ≡ l.fn.out.items ++ replicate l.n 94;
}

abbrev pub decreases-loop-n : goal.decreases-loop-n
decreases-loop-n l = l.width - l.n

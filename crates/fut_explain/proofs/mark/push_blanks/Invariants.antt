use Rattle.std.proofs.Common.{◌≡◌, ◌++◌, drop}
use Rattle.fut_explain.specs.Lines.{blanks}
use Rattle.fut_explain.proofs.mark.push_blanks.Given as goal

-- what is written, and then what is left
abbrev pub invariant-loop-b : goal.invariant-loop-b
invariant-loop-b l = l.out.items ++ blanks (drop l.b-index l.front) ≡ l.fn.out.items ++ blanks l.front

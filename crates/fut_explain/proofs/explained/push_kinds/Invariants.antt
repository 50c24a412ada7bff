use Rattle.std.proofs.Common.{◌≡◌, ◌++◌, drop}
use Rattle.fut_explain.specs.Explained.{kind_lines}
use Rattle.fut_explain.proofs.explained.push_kinds.Given as goal

-- what is written, and then what is left
abbrev pub invariant-loop-kind : goal.invariant-loop-kind
invariant-loop-kind l = l.out.items ++ kind_lines (drop l.kind-index l.kinds) ≡ l.fn.out.items ++ kind_lines l.kinds

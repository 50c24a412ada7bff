use Rattle.std.proofs.Common.{◌≡◌, drop}
use Rattle.fut_rules.specs.Names as spec
use Rattle.fut_rules.proofs.names.kind_named.Given as goal

abbrev pub invariant-loop-variable : goal.invariant-loop-variable
invariant-loop-variable l = spec.kind_named l.variables l.word ≡ spec.kind_named (drop l.variable-index l.variables) l.word

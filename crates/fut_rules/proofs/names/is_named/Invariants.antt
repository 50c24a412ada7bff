use Rattle.std.proofs.Common.{◌≡◌, drop}
use Rattle.fut_rules.specs.Names as spec
use Rattle.fut_rules.proofs.names.is_named.Given as goal

abbrev pub invariant-loop-variable : goal.invariant-loop-variable
invariant-loop-variable l = spec.is_named l.variables l.word ≡ spec.is_named (drop l.variable-index l.variables) l.word

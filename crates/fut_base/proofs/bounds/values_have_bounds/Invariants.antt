use Rattle.std.proofs.Common.{drop}
use Rattle.fut_base.specs.Bounds.{AreValues}
use Rattle.fut_base.proofs.bounds.values_have_bounds.Given as goal

abbrev pub invariant-loop-value : goal.invariant-loop-value
invariant-loop-value l = record { whole : AreValues (drop l.value-index l.values) → AreValues l.values }

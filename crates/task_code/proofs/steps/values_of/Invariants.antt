use Rattle.std.proofs.Common.{◌≡◌, take}
use Rattle.task_frame.specs.Terms.{values_by}
use Rattle.task_code.proofs.steps.values_of.Given as goal

abbrev pub invariant-loop-term : goal.invariant-loop-term
invariant-loop-term l = l.values.items ≡ values_by l.frame.slots (take l.term-index l.terms)

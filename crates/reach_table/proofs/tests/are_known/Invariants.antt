use Rattle.std.proofs.Common.{take}
use Rattle.reach_table.specs.Telling.{AllKnown}
use Rattle.reach_table.proofs.tests.are_known.Given as goal

abbrev pub invariant-loop-w : goal.invariant-loop-w
invariant-loop-w l = AllKnown l.known (take l.w-index l.strands)

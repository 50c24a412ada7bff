use Rattle.std.proofs.Common.{take}
use Rattle.reach_table.specs.Telling.{AllKnown}
use Rattle.access_shards.proofs.tests.worked.are_known.Given as goal

abbrev pub invariant-loop-w : goal.invariant-loop-w
invariant-loop-w l = AllKnown l.known (take l.w-index l.strands)

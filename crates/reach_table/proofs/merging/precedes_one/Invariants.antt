use Rattle.std.proofs.Common.{take}
use Rattle.reach_table.specs.Merging.{PrecedesOne}
use Rattle.reach_table.proofs.merging.precedes_one.Given as goal

abbrev pub invariant-loop-w : goal.invariant-loop-w
invariant-loop-w l = PrecedesOne l.lists l.at (take l.w-index l.strands) → ⊥

use Rattle.std.proofs.Common.{take}
use Rattle.reach_table.specs.Blocks.{IsMaskOf}
use Rattle.reach_table.proofs.block.mask_of.Given as goal

abbrev pub invariant-loop-w : goal.invariant-loop-w
invariant-loop-w l = IsMaskOf l.mask (take l.w-index l.strands)

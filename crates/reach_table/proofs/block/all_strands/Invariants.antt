use Rattle.std.proofs.Common.{◌≡◌, take}
use Rattle.reach_table.specs.Blocks.{values, flat}
use Rattle.reach_table.proofs.block.all_strands.Given as goal

abbrev pub invariant-loop-block : goal.invariant-loop-block
invariant-loop-block l = l.all.items ≡ flat (values (take l.block-index l.blocks))

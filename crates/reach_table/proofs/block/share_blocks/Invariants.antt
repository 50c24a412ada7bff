use Rattle.std.proofs.Common.{◌≡◌, ◌++◌, take}
use Rattle.reach_table.specs.Blocks.{values}
use Rattle.reach_table.proofs.block.share_blocks.Given as goal

abbrev pub invariant-loop-block : goal.invariant-loop-block
invariant-loop-block l = values l.all.items ≡ values l.initial.all.items ++ values (take l.block-index l.blocks)

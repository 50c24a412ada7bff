use Rattle.std.proofs.Common.{◌-◌, ◌<◌, ◌≤◌, length, take, drop}
use Rattle.fut_base.specs.Dag.{Among}
use Rattle.reach_table.specs.declared.block.Block.{Block}
use Rattle.reach_table.specs.Blocks.{values}
use Rattle.reach_table.proofs.block.first_block.Given as goal

abbrev pub invariant-loop-low : goal.invariant-loop-low
invariant-loop-low l = record {
  least : l.low ≤ l.high;
  within : l.high ≤ length l.blocks;
  before : (b : Block) → Among b (take l.low (values l.blocks)) → b.key < l.key;
  after : (b : Block) → Among b (drop l.high (values l.blocks)) → l.key ≤ b.key;
}

abbrev pub decreases-loop-low : goal.decreases-loop-low
decreases-loop-low l = l.high - l.low

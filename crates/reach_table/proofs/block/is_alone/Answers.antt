use Rattle.reach_table.proofs.Blocks.{one_each}
use Rattle.reach_table.proofs.block.is_alone.Goals as goal

pub returns : goal.returns
returns c = λ yes. one_each c.args.strands.now c.requires.rising (c.rises.ensures yes)

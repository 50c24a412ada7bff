use Rattle.std.proofs.Common.{subst}
use Rattle.reach_table.specs.Sorted.{IsRising}
use Rattle.reach_table.specs.Blocks.{values}
use Rattle.reach_table.proofs.Blocks.{flat_rising}
use Rattle.reach_table.proofs.reach.Reach.strands.Goals as goal

pub returns-clause-rising : goal.returns-clause-rising
returns-clause-rising c = subst IsRising c.blocks-2.ensures.strands (flat_rising (values c.blocks-2.result.now) c.blocks-2.ensures.blocks)

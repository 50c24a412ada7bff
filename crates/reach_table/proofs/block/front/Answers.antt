use Rattle.std.proofs.Common.{sym}
use Rattle.std.specs.Arc.{arc_value}
use Rattle.std.proofs.lemmas.List.{take-map}
use Rattle.reach_table.proofs.block.front.Goals as goal

pub returns-clause-blocks : goal.returns-clause-blocks
returns-clause-blocks c = sym (take-map arc_value c.args.count c.args.blocks.now)

use Rattle.std.proofs.Common.{ap, sym, ◌∙◌}
use Rattle.std.specs.Arc.{arc_value}
use Rattle.std.proofs.lemmas.List.{take_rest, drop-map}
use Rattle.reach_table.specs.Blocks.{values}
use Rattle.reach_table.proofs.block.behind.Goals as goal

pub returns-clause-blocks : goal.returns-clause-blocks
returns-clause-blocks c = ap values (take_rest c.args.blocks.now c.args.count) ∙ sym (drop-map arc_value c.args.count c.args.blocks.now)

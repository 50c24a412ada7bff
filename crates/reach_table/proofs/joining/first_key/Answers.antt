use Rattle.std.proofs.Common.{arith}
use Rattle.reach_table.specs.Blocks.{values}
use Rattle.reach_table.proofs.Blocks.{count, value_at, first_least, some_of}
use Rattle.reach_table.proofs.joining.first_key.Goals as goal

pub returns : goal.returns
returns c =
    let b = c.deref.result.now in
    let same = count c.args.blocks.now in
    let some = some_of _ c.is_empty.result c.is_empty.ensures c.if-is_empty.false in
    first_least (values c.args.blocks.now) b c.requires (omega (arith, same, some))
    (value_at c.args.blocks.now 0 c.index-blocks-0.result b c.index-blocks-0.is c.deref.ensures)

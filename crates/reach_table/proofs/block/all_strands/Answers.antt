use Rattle.std.proofs.Common.{◌≡◌, ◌++◌, take, ap, sym, ◌∙◌, arith}
use Rattle.std.specs.Arc.{arc_value}
use Rattle.reach_table.specs.declared.block.Block.{Block}
use Rattle.reach_table.specs.Blocks.{flat, values}
use Rattle.reach_table.proofs.Blocks.{flat_more}
use Rattle.reach_table.proofs.block.all_strands.Goals as goal

pub loop-block-preserved : goal.loop-block-preserved
loop-block-preserved c =
    let r = c.block-item.result in
    let items : c.as_slice.result.now ≡ (arc_value r).strands.items = c.as_slice.ensures.value ∙ ap (λ (z : Block). z.strands.items) c.deref.ensures in
    c.in_ok-extend_from_slice.ensures.items
    ∙ ap (λ l. l ++ c.as_slice.result.now) c.loop-block.invariant
    ∙ ap (λ l. flat (values (take c.loop-block.block-index c.args.blocks.now)) ++ l) items
    ∙ sym (flat_more c.args.blocks.now c.loop-block.block-index r (omega arith) c.block-item.is)

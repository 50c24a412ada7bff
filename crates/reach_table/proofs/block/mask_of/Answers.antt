use Rattle.strand_tree.specs.declared.strand.Strand.{Strand}
use Rattle.reach_table.proofs.Masks.{mask_more}
use Rattle.reach_table.proofs.block.mask_of.Goals as goal

pub loop-w-preserved : goal.loop-w-preserved
loop-w-preserved c =
    let none : Strand = record { number = 0; future = 0 } in
    mask_more c.loop-w.mask c.args.strands.now c.loop-w.w-index none c.loop-w-test.true c.loop-w.invariant

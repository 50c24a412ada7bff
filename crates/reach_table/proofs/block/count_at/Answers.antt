use Rattle.std.proofs.Common.{sym, ap, ◌∙◌, arith}
use Rattle.strand_laws.proofs.Held.{is_eq}
use Rattle.reach_table.specs.declared.block.Block.{Block}
use Rattle.reach_table.specs.Blocks.{values}
use Rattle.reach_table.proofs.Blocks.{count, value_at, rest_above, all_above, no_block, some_of}
use Rattle.reach_table.proofs.block.count_at.Goals as goal
use Rattle.reach_table.proofs.block.count_at.Goals.{else-not-is_empty-via-then-not-is_empty+else-deref-key, else-not-is_empty-via-else-not-is_empty}

pub returns-then-deref-key-clause-rest : goal.returns-then-deref-key-clause-rest
returns-then-deref-key-clause-rest c =
    let b = c.deref.result.now in
    let at = value_at c.args.blocks.now 0 c.index-blocks-0.result b c.index-blocks-0.is c.deref.ensures in
    let same = count c.args.blocks.now in
    let some = some_of _ c.is_empty.result c.is_empty.ensures c.if-not-is_empty.true in
    rest_above (values c.args.blocks.now) b c.args.key c.requires.blocks (omega (arith, same, some)) (ap (λ (z : Block). z.key) at ∙ c.if-deref-key.true)

pub returns-clause-rest : goal.returns-clause-rest
returns-clause-rest c = elim c.else-not-is_empty.branch [
  | else-not-is_empty-via-then-not-is_empty+else-deref-key w ↦ (
      let b = w.deref.result.now in
      let at = value_at c.args.blocks.now 0 w.index-blocks-0.result b w.index-blocks-0.is w.deref.ensures in
      all_above (values c.args.blocks.now) b c.args.key c.requires.blocks c.requires.least (λ e. w.if-deref-key.false (ap (λ (z : Block). z.key) (sym at) ∙ e)))
  | else-not-is_empty-via-else-not-is_empty w ↦ no_block c.args.blocks.now c.args.key (is_eq _ _ (sym c.is_empty.ensures ∙ w.if-not-is_empty.false))
]

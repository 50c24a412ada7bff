use Rattle.std.proofs.Common.{List, length, subst, sym}
use Rattle.std.specs.Prelude.{◌↔◌}
use Rattle.fut_base.specs.Dag.{Among}
use Rattle.strand_tree.specs.declared.strand.Strand.{Strand}
use Rattle.reach_table.specs.Telling.{AllKnown}
use Rattle.reach_table.specs.Merging.{together, IsGreatest}
use Rattle.reach_table.specs.Blocks.{values}
use Rattle.reach_table.proofs.Blocks.{lone_value, some_of, lone_flat}
use Rattle.reach_table.proofs.joining.shared_of.Goals as goal

pub is_all-requires-clause-block_in : goal.is_all-requires-clause-block_in
is_all-requires-clause-block_in c =
    let some = some_of _ c.is_empty.result c.is_empty.ensures c.if-not-is_empty.true in
    let P : List Strand → Type 0 = λ l. AllKnown (length c.args.lists.now.english.order) l in
    subst P
    (lone_flat (values c.args.block.now) c.deref.result.now
    (lone_value c.args.block.now c.index-block-0.result c.deref.result.now c.requires.few some c.index-block-0.is c.deref.ensures)) c.requires.block_in

pub returns-then-is_all-clause-strands : goal.returns-then-is_all-clause-strands
returns-then-is_all-clause-strands c =
    let some = some_of _ c.is_empty.result c.is_empty.ensures c.if-not-is_empty.true in
    let P : List Strand → Type 0 = λ l. (w : Strand) → Among w l ↔ IsGreatest c.args.lists.now c.args.own (together l c.args.other.now c.args.last) w in
    subst P
    (sym
    (lone_flat (values c.args.block.now) c.deref.result.now
    (lone_value c.args.block.now c.index-block-0.result c.deref.result.now c.requires.few some c.index-block-0.is c.deref.ensures)))
    (c.is_all.ensures c.if-is_all.true)

use Rattle.std.proofs.Common.{true≢false, List, length, subst, sym, ◌∙◌}
use Rattle.strand_tree.specs.declared.strand.Strand.{Strand}
use Rattle.reach_table.specs.Telling.{AllKnown}
use Rattle.reach_table.specs.Merging.{listed}
use Rattle.reach_table.specs.Joining.{HoldsAll}
use Rattle.reach_table.proofs.Held.{held_together}
use Rattle.reach_table.proofs.joining.is_all.Goals as goal
use Rattle.reach_table.proofs.joining.is_all.Goals.{then-block, else-block, then-lacks, else-lacks}

pub holds-requires-clause-strands_in : goal.holds-requires-clause-strands_in
holds-requires-clause-strands_in c =
    let P : List Strand → Type 0 = λ l. AllKnown (length c.args.lists.now.english.order) l in
    subst P (sym c.as_slice-strands.ensures.value) c.requires.block_in

pub holds_last-requires-clause-strands_in : goal.holds_last-requires-clause-strands_in
holds_last-requires-clause-strands_in c =
    let P : List Strand → Type 0 = λ l. AllKnown (length c.args.lists.now.english.order) l in
    subst P (sym c.as_slice-strands.ensures.value) c.requires.block_in

pub returns-then-holds : goal.returns-then-holds
returns-then-holds c = λ yes.
    let ws = c.args.block.now.strands.items in
    let P : List Strand → Type 0 = λ l. HoldsAll c.args.lists.now l (listed c.args.last) in
    let Q : List Strand → Type 0 = λ l. HoldsAll c.args.lists.now l c.args.other.now in
    let same = c.as_slice-strands.ensures.value in
    let last = subst P same (c.holds_last.ensures yes) in
    elim c.if-lacks.branch [
      | else-lacks w ↦ absurd (true≢false (sym c.if-holds.true ∙ w.value-is ∙ w.if-lacks.false))
      | then-lacks w ↦ (
          let all = subst Q same (w.holds.ensures (sym w.value-is ∙ c.if-holds.true)) in
          elim c.if-block.branch [
            | else-block v ↦ absurd (true≢false (sym w.if-lacks.true ∙ v.value-is ∙ v.if-block.false))
            | then-block v ↦ held_together c.args.lists.now c.args.own ws c.args.other.now c.args.last (c.requires.block.alone v.if-block.true)
                (v.lacks.ensures (sym v.value-is ∙ w.if-lacks.true)) all last
          ])
    ]

use Rattle.std.proofs.Common.{true≢false, sym, ◌∙◌, refl, arith, get_or}
use Rattle.strand_tree.specs.declared.strand.Strand.{Strand}
use Rattle.reach_table.proofs.Members.{at_place}
use Rattle.reach_table.proofs.Leaving.{none_more}
use Rattle.reach_table.proofs.merging.precedes_one.Goals as goal
use Rattle.reach_table.proofs.merging.precedes_one.Goals.{else-w-at-via-then-w-at+else-precedes_by, else-w-at-via-else-w-at}

pub precedes_by-requires-clause-y_in : goal.precedes_by-requires-clause-y_in
precedes_by-requires-clause-y_in c =
    let none : Strand = record { number = 0; future = 0 } in
    let xs = c.args.strands.now in
    c.requires.strands_in (get_or xs c.loop-w.w-index none) (at_place xs c.loop-w.w-index none (omega arith))

pub returns-then-precedes_by : goal.returns-then-precedes_by
returns-then-precedes_by c =
    let none : Strand = record { number = 0; future = 0 } in
    let xs = c.args.strands.now in
    let w : Strand = get_or xs c.loop-w.w-index none in
    (λ _. (w, at_place xs c.loop-w.w-index none (omega arith), c.if-w-at.true, sym c.precedes_by.ensures ∙ c.if-precedes_by.true), λ _. refl)

pub loop-w-preserved : goal.loop-w-preserved
loop-w-preserved c =
    none_more c.args.lists.now c.args.at c.args.strands.now c.loop-w.w-index (record { number = 0; future = 0 }) (omega arith) c.loop-w.invariant
    (λ ne p. elim c.else-w-at.branch [
      | else-w-at-via-then-w-at+else-precedes_by w ↦ true≢false (sym p ∙ sym w.precedes_by.ensures ∙ w.if-precedes_by.false)
      | else-w-at-via-else-w-at w ↦ ne w.if-w-at.false
    ])

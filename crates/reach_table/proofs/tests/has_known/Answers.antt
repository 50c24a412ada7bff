use Rattle.std.proofs.Common.{List, length, subst, ◌∙◌}
use Rattle.strand_tree.specs.declared.strand.Strand.{Strand}
use Rattle.reach_table.specs.Telling.{AllKnown}
use Rattle.reach_table.proofs.tests.has_known.Goals as goal

pub returns-in-Ok : goal.returns-in-Ok
returns-in-Ok c = λ yes.
    let P : List Strand → Type 0 = λ l. AllKnown (length c.args.lists.now.english.order) l in
    subst P (c.as_slice.ensures.value ∙ c.in-Ok.ensures.strands) (c.are_known.ensures yes)

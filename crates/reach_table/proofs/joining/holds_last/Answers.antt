use Rattle.std.proofs.Common.{length, subst}
use Rattle.std.specs.Prelude.{Option}
use Rattle.strand_tree.specs.declared.strand.Strand.{Strand}
use Rattle.reach_table.specs.Telling.{AllKnown}
use Rattle.reach_table.specs.Merging.{listed}
use Rattle.reach_table.proofs.joining.holds_last.Goals as goal

pub holds-requires-clause-other_in : goal.holds-requires-clause-other_in
holds-requires-clause-other_in c =
    let P : Option Strand → Type 0 = λ o. AllKnown (length c.args.lists.now.english.order) (listed o) in
    subst P c.in-Some.is c.requires.last_in

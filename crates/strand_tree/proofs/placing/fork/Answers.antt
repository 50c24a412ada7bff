use Rattle.std.proofs.Common.{◌∙◌, arith, refl}
use Rattle.order_list.proofs.Inserting.{grown_by_one}
use Rattle.strand_tree.proofs.Lists.{english_fork, hebrew_fork}
use Rattle.strand_tree.proofs.placing.fork.Goals as goal

pub insert-cont-requires-clause-e_in : goal.insert-cont-requires-clause-e_in
insert-cont-requires-clause-e_in g c =
    let e = c.insert-kid.ensures in
    let more = grown_by_one _ _ _ _ e.numbered.first (omega (arith, c.item.ensures, c.requires.at_in.first)) e.english in
    omega (arith, more, e.item)

pub insert-cont-requires-clause-h_in : goal.insert-cont-requires-clause-h_in
insert-cont-requires-clause-h_in g c =
    let e = c.insert-kid.ensures in
    let more = grown_by_one _ _ _ _ e.numbered.second (omega (arith, c.item-2.ensures, c.requires.at_in.second)) e.hebrew in
    omega (arith, more, c.item-3.ensures, c.requires.at_in.second)

pub returns-clause-numbers : goal.returns-clause-numbers
returns-clause-numbers g c =
    let e = c.insert-kid.ensures in
    let more = grown_by_one _ _ _ _ e.numbered.first (omega (arith, c.item.ensures, c.requires.at_in.first)) e.english in
    record { kid_is = e.item; cont_is = c.insert-cont.ensures.item ∙ more }

pub returns-clause-put : goal.returns-clause-put
returns-clause-put g c =
    let kid = c.insert-kid.ensures in
    let cont = c.insert-cont.ensures in
    record {
      english = english_fork _ _ _ _ _ _ _ _ c.item.ensures refl kid.numbered.first kid.item kid.english cont.english;
      hebrew = hebrew_fork _ _ _ _ _ _ _ _ c.item-2.ensures c.item-3.ensures kid.hebrew cont.hebrew;
      spare = omega (arith, kid.spare, cont.spare);
      home = cont.home ∙ kid.home;
    }

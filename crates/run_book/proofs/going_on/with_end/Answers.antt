use Rattle.std.proofs.Common.{◌≡◌, ℕ, ◌+◌, List, [], ◌∷◌, ◌++◌, length, subst, ap, sym, ◌∙◌}
use Rattle.std.specs.Prelude.{◌↔◌, Option, Some, None}
use Rattle.std.specs.Option.{option_copied}
use Rattle.fut_base.specs.Dag.{Among}
use Rattle.strand_tree.specs.declared.strand.Strand.{Strand}
use Rattle.reach_table.specs.Telling.{AllKnown}
use Rattle.reach_table.specs.Merging.{IsGreatest, together}
use Rattle.reach_table.specs.Tabled.{MergesOneMore}
use Rattle.run_book.specs.Lines.{Ended}
use Rattle.run_book.specs.Tabling.{end_in, IsKnownEnd, MergesEnds}
use Rattle.run_book.proofs.Tables.{if_ok, merges_more, merges_not, known_together, known_merged}
use Rattle.run_book.proofs.going_on.with_end.Goals as goal

pub merged-requires : goal.merged-requires
merged-requires g c =
    let known : ℕ = length c.args.lists.now.english.order in
    let e : Ended = record { at = c.last.inside.at; table = c.last.inside.reach } in
    let is : end_in c.args.lines.now c.args.task ≡ Some e = sym c.last_of.ensures ∙ ap option_copied c.in-Some.is ∙ ap (λ (x : Ended). Some x)
    (sym c.last.view_is) in
    known_together known c.args.table e c.requires.known.0 (subst (λ (o : Option Ended). IsKnownEnd known o) is c.requires.known.1)

pub returns-in-Some-clause-known : goal.returns-in-Some-clause-known
returns-in-Some-clause-known g c =
    let known : ℕ = length c.args.lists.now.english.order in
    let lists = c.args.lists.now in
    let e : Ended = record { at = c.last.inside.at; table = c.last.inside.reach } in
    let is : end_in c.args.lines.now c.args.task ≡ Some e = sym c.last_of.ensures ∙ ap option_copied c.in-Some.is ∙ ap (λ (x : Ended). Some x)
    (sym c.last.view_is) in
    let all = known_together known c.args.table e c.requires.known.0 (subst (λ (o : Option Ended). IsKnownEnd known o) is c.requires.known.1) in
    let both : List Strand = together c.args.table e.table None in
    if_ok c.merged.result (λ table. (w : Strand) → Among w table ↔ IsGreatest lists c.args.own both w) (λ table. AllKnown known table)
    (λ table iff. known_merged known lists c.args.own both table all iff) c.merged.ensures.strands

pub returns-in-Some-clause-merges : goal.returns-in-Some-clause-merges
returns-in-Some-clause-merges g c =
    let lines = c.args.lines.now in
    let lists = c.args.lists.now in
    let own = c.args.own in
    let t = c.args.task in
    let e : Ended = record { at = c.last.inside.at; table = c.last.inside.reach } in
    let is : end_in c.args.lines.now c.args.task ≡ Some e = sym c.last_of.ensures ∙ ap option_copied c.in-Some.is ∙ ap (λ (x : Ended). Some x)
    (sym c.last.view_is) in
    if_ok c.merged.result (λ table. MergesOneMore lists own c.args.table e.table None table)
    (λ table. (old : List Strand) (tasks : List ℕ) → MergesEnds lines lists old own tasks c.args.table → MergesEnds lines lists old own (tasks ++ t ∷ [])
    table)
    (λ table more old tasks before. merges_more lines lists old own t tasks e c.args.table table before is more) c.merged.ensures.one_more

pub returns-in-None-clause-merges : goal.returns-in-None-clause-merges
returns-in-None-clause-merges g c =
    let none : end_in c.args.lines.now c.args.task ≡ None = sym c.last_of.ensures ∙ ap option_copied c.in-None.is in
    λ old tasks before. merges_not c.args.lines.now c.args.lists.now old c.args.own c.args.task tasks c.args.table none

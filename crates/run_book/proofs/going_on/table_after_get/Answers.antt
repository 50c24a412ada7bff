use Rattle.std.proofs.Common.{◌≡◌, ℕ, ◌+◌, List, [], ◌∷◌, ◌++◌, length, subst, ap, sym, ◌∙◌}
use Rattle.std.specs.Prelude.{Option, Some, None}
use Rattle.std.specs.Option.{option_copied}
use Rattle.strand_tree.specs.declared.strand.Strand.{Strand}
use Rattle.reach_table.specs.Tabled.{AfterGet}
use Rattle.run_book.specs.Lines.{Ended}
use Rattle.run_book.specs.Tabling.{end_in, IsKnownEnd, TablesGet}
use Rattle.run_book.proofs.Tables.{if_ok, tables_got, tables_not, known_together_last}
use Rattle.run_book.proofs.going_on.table_after_get.Goals as goal

pub merged-requires : goal.merged-requires
merged-requires g c =
    let known : ℕ = length c.args.lists.now.english.order in
    let e : Ended = record { at = c.last.inside.at; table = c.last.inside.reach } in
    let is : end_in c.args.lines.now c.args.future ≡ Some e = sym c.last_of.ensures ∙ ap option_copied c.in-Some.is ∙ ap (λ (x : Ended). Some x)
    (sym c.last.view_is) in
    known_together_last known c.args.reach.now e c.requires.known.0 (subst (λ (o : Option Ended). IsKnownEnd known o) is c.requires.known.1)

pub returns-in-Some : goal.returns-in-Some
returns-in-Some g c =
    let lines = c.args.lines.now in
    let lists = c.args.lists.now in
    let own = c.args.own in
    let e : Ended = record { at = c.last.inside.at; table = c.last.inside.reach } in
    let is : end_in c.args.lines.now c.args.future ≡ Some e = sym c.last_of.ensures ∙ ap option_copied c.in-Some.is ∙ ap (λ (x : Ended). Some x)
    (sym c.last.view_is) in
    if_ok c.merged.result (λ table. AfterGet lists own c.args.reach.now e.table (Some e.at) table)
    (λ table. TablesGet lines lists c.args.reach.now own c.args.future table)
    (λ table after. tables_got lines lists c.args.reach.now own c.args.future e table is after) c.merged.ensures.after_get

pub returns-in-None : goal.returns-in-None
returns-in-None g c =
    let lines = c.args.lines.now in
    let lists = c.args.lists.now in
    let old = c.args.reach.now in
    let none : end_in c.args.lines.now c.args.future ≡ None = sym c.last_of.ensures ∙ ap option_copied c.in-None.is in
    if_ok c.share.result (λ table. table ≡ old) (λ table. TablesGet lines lists old c.args.own c.args.future table)
    (λ table same. tables_not lines lists old c.args.own c.args.future table none) c.share.ensures.same

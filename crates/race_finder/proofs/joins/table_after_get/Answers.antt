use Rattle.std.proofs.Common.{◌≡◌, ◌∙◌, length, refl, sym, subst}
use Rattle.std.specs.Prelude.{Some}
use Rattle.std.proofs.lemmas.Option.{slice_get_read}
use Rattle.std.proofs.lemmas.Result.{IfOk-weaker}
use Rattle.fut_base.specs.declared.event.Action.TheVariants.{Gets}
use Rattle.fut_base.specs.Sound.{IsSound}
use Rattle.reach_table.specs.Tabled.{and_then}
use Rattle.reach_table.specs.Telling.{HasTable}
use Rattle.race_finder.specs.declared.track.Track.{Track}
use Rattle.race_finder.proofs.Blocks.{two_known, got_table}
use Rattle.race_finder.proofs.joins.table_after_get.Goals as goal

same : {a b : Track} → Some a ≡ Some b → a ≡ b
same {a} {b} e = cc

pub merged-requires : goal.merged-requires
merged-requires c =
    let tracks = c.args.tracks.now in
    let d = c.index-tracks-task.result in
    let o = c.index-tracks-future.result in
    let some = c.requires.some in
    two_known some.0 c.args.places.now tracks c.lists.result.now some.1 c.lists.ensures.english c.lists.ensures.hebrew c.args.task c.args.future d o
    (slice_get_read tracks (length tracks) c.args.task d refl c.requires.task_in c.index-tracks-task.is)
    (slice_get_read tracks (length tracks) c.args.future o refl c.requires.future_in c.index-tracks-future.is)

pub returns : goal.returns
returns c = IfOk-weaker c.merged.result _ _ (λ table after. λ s value strand d' of at' sound.
    let tracks = c.args.tracks.now in
    let d = c.index-tracks-task.result in
    let o = c.index-tracks-future.result in
    let at = slice_get_read tracks (length tracks) c.args.task d refl c.requires.task_in c.index-tracks-task.is in
    let ot = slice_get_read tracks (length tracks) c.args.future o refl c.requires.future_in c.index-tracks-future.is in
    let is : d ≡ d' = same (sym at ∙ at') in
    subst (λ (x : Track). HasTable (and_then s c.args.task x.at.number (Gets c.args.future value strand)) strand table) is
    (got_table s c.args.places.now tracks c.lists.result.now of c.lists.ensures.english c.lists.ensures.hebrew c.args.task c.args.future d o
    table value strand at ot after
    (subst (λ (x : Track). IsSound (and_then s c.args.task x.at.number (Gets c.args.future value strand))) (sym is) sound))) c.merged.ensures.after_get

use Rattle.std.proofs.Common.{◌≡◌, ◌∙◌, ℕ, ◌∷◌, length, reverse, take, get_or, arith, ap, refl, sym, subst}
use Rattle.std.specs.Prelude.{Some}
use Rattle.std.proofs.lemmas.List.{take_all}
use Rattle.std.proofs.lemmas.Option.{slice_get_read}
use Rattle.fut_base.specs.Tables.{lasts_of}
use Rattle.fut_base.specs.Dag.{block_of}
use Rattle.reach_table.specs.Merging.{IsMergedOf}
use Rattle.race_finder.specs.declared.track.Track.{Track}
use Rattle.race_finder.proofs.Blocks.{merged_none, block_child, merged_known, merged_more}
use Rattle.race_finder.proofs.joins.table_of_block.Goals as goal

same : {a b : Track} → Some a ≡ Some b → a ≡ b
same {a} {b} e = cc

pub loop-child-init : goal.loop-child-init
loop-child-init c = λ s may at. merged_none s c.args.places.now c.args.tracks.now c.args.task c.index-tracks-task.result c.in_ok-reach.reach
    c.in_ok-reach.ensures.same may at

pub bounds-tracks-child : goal.bounds-tracks-child
bounds-tracks-child c =
    let tracks = c.args.tracks.now in
    let d = c.index-tracks-task.result in
    let i = c.loop-child.child-index in
    let some = c.requires.some in
    let items = c.as_slice-child-items.ensures in
    let n = ap (length {A = ℕ}) items in
    let at = slice_get_read tracks (length tracks) c.args.task d refl c.requires.task_in c.index-tracks-task.is in
    (block_child some.0 c.args.places.now tracks c.args.task d i (get_or c.as_slice-child-items.result.now i 0) some.1 at (omega (arith, n))
    (ap (λ l. get_or l i 0) items)).1

pub merged-requires : goal.merged-requires
merged-requires c =
    let tracks = c.args.tracks.now in
    let d = c.index-tracks-task.result in
    let o = c.index-tracks-child.result in
    let i = c.loop-child.child-index in
    let some = c.requires.some in
    let items = c.as_slice-child-items.ensures in
    let n = ap (length {A = ℕ}) items in
    let child = get_or c.as_slice-child-items.result.now i 0 in
    let at = slice_get_read tracks (length tracks) c.args.task d refl c.requires.task_in c.index-tracks-task.is in
    let b = block_child some.0 c.args.places.now tracks c.args.task d i child some.1 at (omega (arith, n)) (ap (λ l. get_or l i 0) items) in
    merged_known some.0 c.args.places.now tracks c.lists.result.now some.1.of c.lists.ensures.english c.lists.ensures.hebrew d.at.future
    (d.at.number ∷ lasts_of (reverse some.0) (take i d.block.items)) c.loop-child.reach child o
    (c.loop-child.invariant some.0 some.1 at) (slice_get_read tracks (length tracks) child o refl b.1 c.index-tracks-child.is)

pub loop-child-preserved : goal.loop-child-preserved
loop-child-preserved c = λ s may at.
    let tracks = c.args.tracks.now in
    let d = c.index-tracks-task.result in
    let o = c.index-tracks-child.result in
    let i = c.loop-child.child-index in
    let items = c.as_slice-child-items.ensures in
    let n = ap (length {A = ℕ}) items in
    let child = get_or c.as_slice-child-items.result.now i 0 in
    let is = ap (λ l. get_or l i 0) items in
    let b = block_child s c.args.places.now tracks c.args.task d i child may at (omega (arith, n)) is in
    merged_more s c.args.places.now tracks c.lists.result.now may.of c.lists.ensures.english c.lists.ensures.hebrew c.args.task i child d o
    c.loop-child.reach c.in_ok-reach-2.reach at
    (slice_get_read tracks (length tracks) child o refl b.1 c.index-tracks-child.is) (omega (arith, n)) is b.0 c.in_ok-reach-2.ensures.one_more
    (c.loop-child.invariant s may at)

pub returns : goal.returns
returns c = λ s d' may at'.
    let tracks = c.args.tracks.now in
    let d = c.index-tracks-task.result in
    let i = c.loop-child.child-index in
    let reach = c.loop-child.reach in
    let n = ap (length {A = ℕ}) c.as_slice-child-items.ensures in
    let at = slice_get_read tracks (length tracks) c.args.task d refl c.requires.task_in c.index-tracks-task.is in
    let is : d ≡ d' = same (sym at ∙ at') in
    let whole : take i d.block.items ≡ block_of (reverse s) c.args.task = take_all i d.block.items (omega (arith, n)) ∙ (may.of.tasks.each
    c.args.task d at).block_is in
    subst (λ (x : Track). IsMergedOf s x.at.future (x.at.number ∷ lasts_of (reverse s) (block_of (reverse s) c.args.task)) reach) is
    (subst (λ l. IsMergedOf s d.at.future (d.at.number ∷ lasts_of (reverse s) l) reach) whole (c.loop-child.invariant s may at))

use Rattle.std.proofs.Common.{length, reverse, refl, sym, subst}
use Rattle.std.specs.Prelude.{Some, None}
use Rattle.std.proofs.lemmas.Option.{slice_get_read}
use Rattle.strand_tree.specs.Placing.{IsLastOf}
use Rattle.race_finder.proofs.Blocks.{block_at, child_last, track_in, first_is, first_none}
use Rattle.race_finder.proofs.joins.first_last.Goals as goal

pub bounds-tracks-child : goal.bounds-tracks-child
bounds-tracks-child c =
    let tracks = c.args.tracks.now in
    let d = c.index-tracks-task.result in
    let some = c.requires.some in
    (block_at some.0 c.args.places.now tracks c.args.task d 0 c.in-Some.child.now some.1
    (slice_get_read tracks (length tracks) c.args.task d refl c.requires.task_in c.index-tracks-task.is) (sym c.in-Some.ensures)).1

pub returns-clause-last : goal.returns-clause-last
returns-clause-last c = λ s may.
    let tracks = c.args.tracks.now in
    let d = c.index-tracks-task.result in
    let child = c.in-Some.child.now in
    let at = slice_get_read tracks (length tracks) c.args.task d refl c.requires.task_in c.index-tracks-task.is in
    let b = block_at s c.args.places.now tracks c.args.task d 0 child may at (sym c.in-Some.ensures) in
    let o = c.index-tracks-child.result in
    let ot = slice_get_read tracks (length tracks) child o refl b.1 c.index-tracks-child.is in
    subst (λ block. IsLastOf (reverse s) block (Some o.at)) (may.of.tasks.each c.args.task d at).block_is
    (first_is (reverse s) d.block.items child o.at (sym c.in-Some.ensures) (child_last s c.args.places.now tracks child o may.of ot b.0))

pub returns-clause-there : goal.returns-clause-there
returns-clause-there c =
    let tracks = c.args.tracks.now in
    let d = c.index-tracks-task.result in
    let child = c.in-Some.child.now in
    let some = c.requires.some in
    let at = slice_get_read tracks (length tracks) c.args.task d refl c.requires.task_in c.index-tracks-task.is in
    let b = block_at some.0 c.args.places.now tracks c.args.task d 0 child some.1 at (sym c.in-Some.ensures) in
    let o = c.index-tracks-child.result in
    track_in some.0 c.args.places.now tracks child o some.1.of (slice_get_read tracks (length tracks) child o refl b.1 c.index-tracks-child.is)

pub returns-in_default-clause-last : goal.returns-in_default-clause-last
returns-in_default-clause-last c = λ s may.
    let tracks = c.args.tracks.now in
    let d = c.index-tracks-task.result in
    let at = slice_get_read tracks (length tracks) c.args.task d refl c.requires.task_in c.index-tracks-task.is in
    subst (λ block. IsLastOf (reverse s) block None) (may.of.tasks.each c.args.task d at).block_is
    (first_none (reverse s) d.block.items (sym c.in_default.ensures))

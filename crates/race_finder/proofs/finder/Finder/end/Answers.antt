use Rattle.std.proofs.Common.{◌+◌, length, arith, refl}
use Rattle.std.proofs.lemmas.Option.{slice_get_read}
use Rattle.race_finder.proofs.Accesses.{task_in}
use Rattle.race_finder.proofs.Structural.{end_taken}
use Rattle.race_finder.proofs.finder.Finder.end.Goals as goal

pub index_mut-requires : goal.index_mut-requires
index_mut-requires c =
    let r = c.requires in
    let f = c.args.self.now in
    let lt = task_in r.0 r.1 f.places.english f.places.hebrew f.tracks.items f.logs.items f.count c.args.task r.3 r.4 r.2.task_is in
    omega (arith, lt, f.tracks.ok.0)

pub returns : goal.returns
returns c = λ h e p k steps.
    let f = c.args.self.now in
    let tracks = f.tracks.items in
    let lt = task_in h e f.places.english f.places.hebrew tracks f.logs.items f.count c.args.task k steps p.task_is in
    end_taken h e c.args.task p.acts.0 p.task_is p.acts.1 steps f.places.english f.places.hebrew tracks f.logs.items f.count
    (f.count + 1) c.index_mut.result.now k
    (slice_get_read tracks (length tracks) c.args.task c.index_mut.result.now refl lt c.index_mut.ensures.value) refl

use Rattle.std.proofs.Common.{◌+◌, List, length, arith, refl, sym, ap, subst}
use Rattle.fut_base.specs.Events.{structure_of}
use Rattle.race_finder.specs.declared.track.Track.{Track}
use Rattle.race_finder.specs.Acting.{TableOfBlock, MaySync}
use Rattle.race_finder.proofs.Accesses.{task_in}
use Rattle.race_finder.proofs.Looking.{looked_up, in_english, in_hebrew}
use Rattle.race_finder.proofs.Taking.{places_few, sync_may, sync_taken}
use Rattle.race_finder.proofs.finder.Finder.sync.Goals as goal

pub reserve-requires : goal.reserve-requires
reserve-requires c =
    let r = c.requires in
    let f = c.args.self.now in
    let few = (places_few r.0 f.places.english f.places.hebrew f.tracks.items f.logs.items f.count r.3).0 in
    omega (arith, few, r.5)

pub table_of_block-requires-clause-task_in : goal.table_of_block-requires-clause-task_in
table_of_block-requires-clause-task_in c =
    let r = c.requires in
    let f = c.args.self.now in
    let lt = task_in r.0 r.1 f.places.english f.places.hebrew f.tracks.items f.logs.items f.count c.args.task r.3 r.4 r.2.task_is in
    let n = ap (length {A = Track}) c.as_slice.ensures.value in
    omega (arith, lt, n)

pub first_last-last-requires-clause-task_in : goal.first_last-last-requires-clause-task_in
first_last-last-requires-clause-task_in c =
    let r = c.requires in
    let f = c.args.self.now in
    let lt = task_in r.0 r.1 f.places.english f.places.hebrew f.tracks.items f.logs.items f.count c.args.task r.3 r.4 r.2.task_is in
    let n = ap (length {A = Track}) c.as_slice-2.ensures.value in
    omega (arith, lt, n)

pub index_mut-requires : goal.index_mut-requires
index_mut-requires c =
    let r = c.requires in
    let f = c.args.self.now in
    let lt = task_in r.0 r.1 f.places.english f.places.hebrew f.tracks.items f.logs.items f.count c.args.task r.3 r.4 r.2.task_is in
    omega (arith, lt, f.tracks.ok.0)

pub sync_one-requires-clause-english : goal.sync_one-requires-clause-english
sync_one-requires-clause-english c =
    let r = c.requires in
    let f = c.args.self.now in
    in_english r.0 r.1 f.places.english f.places.hebrew f.tracks.items f.logs.items f.count c.args.task r.3 r.4 r.2.task_is
    f.tracks.items c.index_mut.result.now c.reserve.new.self.english refl c.index_mut.ensures.value c.in_ok-reserve.ensures.english

pub sync_one-requires-clause-hebrew : goal.sync_one-requires-clause-hebrew
sync_one-requires-clause-hebrew c =
    let r = c.requires in
    let f = c.args.self.now in
    in_hebrew r.0 r.1 f.places.english f.places.hebrew f.tracks.items f.logs.items f.count c.args.task r.3 r.4 r.2.task_is
    f.tracks.items c.index_mut.result.now c.reserve.new.self.hebrew refl c.index_mut.ensures.value c.in_ok-reserve.ensures.hebrew

pub returns-clause-takes : goal.returns-clause-takes
returns-clause-takes c = λ h e p k steps.
    let f = c.args.self.now in
    let tracks = f.tracks.items in
    let d = c.index_mut.result.now in
    let en = c.in_ok-reserve.ensures.english in
    let he = c.in_ok-reserve.ensures.hebrew in
    let may = sync_may h e steps f.places.english f.places.hebrew tracks f.logs.items f.count k c.args.task c.reserve.new.self p en he in
    sync_taken h e steps f.places.english f.places.hebrew tracks f.logs.items f.count k c.args.task c.reserve.new.self c.sync_one.new.places d
    c.sync_one.new.track c.in_ok-reach.reach c.first_last-last.result (f.count + 1) p
    en he (looked_up h e f.places.english f.places.hebrew tracks f.logs.items f.count c.args.task k steps p.task_is tracks d refl
    c.index_mut.ensures.value) c.sync_one.ensures.number
    (subst (λ (l : List Track). TableOfBlock c.reserve.new.self l c.args.task c.in_ok-reach.reach) c.as_slice.ensures.value c.in_ok-reach.ensures)
    (c.first_last-last.ensures.last (structure_of h) (subst (λ (l : List Track). MaySync (structure_of h) c.reserve.new.self l c.args.task)
    (sym c.as_slice-2.ensures.value) may))
    c.sync_one.ensures.syncs refl

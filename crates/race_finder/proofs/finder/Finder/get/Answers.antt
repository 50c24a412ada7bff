use Rattle.std.proofs.Common.{◌+◌, List, length, reverse, arith, refl, ap, subst}
use Rattle.fut_base.specs.Events.{structure_of}
use Rattle.race_finder.specs.declared.track.Track.{Track}
use Rattle.race_finder.specs.Acting.{TableAfterGet}
use Rattle.race_finder.proofs.Accesses.{task_in}
use Rattle.race_finder.proofs.Looking.{looked_up, in_english, in_hebrew}
use Rattle.race_finder.proofs.Blocks.{value_there}
use Rattle.race_finder.proofs.Taking.{places_few, value_known, get_taken}
use Rattle.race_finder.proofs.finder.Finder.get.Goals as goal

pub reserve-requires : goal.reserve-requires
reserve-requires c =
    let r = c.requires in
    let f = c.args.self.now in
    let few = (places_few r.0 f.places.english f.places.hebrew f.tracks.items f.logs.items f.count r.3).0 in
    omega (arith, few, r.5)

pub table_after_get-requires-clause-task_in : goal.table_after_get-requires-clause-task_in
table_after_get-requires-clause-task_in c =
    let r = c.requires in
    let f = c.args.self.now in
    let lt = task_in r.0 r.1 f.places.english f.places.hebrew f.tracks.items f.logs.items f.count c.args.task r.3 r.4 r.2.task_is in
    let n = ap (length {A = Track}) c.as_slice.ensures.value in
    omega (arith, lt, n)

pub table_after_get-requires-clause-future_in : goal.table_after_get-requires-clause-future_in
table_after_get-requires-clause-future_in c =
    let r = c.requires in
    let f = c.args.self.now in
    let is = value_known r.0 r.1 r.4 f.places.english f.places.hebrew f.tracks.items f.logs.items f.count r.3 c.args.task c.args.future r.2 in
    let lt = value_there (reverse (structure_of r.0)) r.3.steps.sound c.args.future r.2.acts.0 is in
    let n = ap (length {A = Track}) c.as_slice.ensures.value in
    omega (arith, lt, n, r.3.tasks.count)

pub index_mut-requires : goal.index_mut-requires
index_mut-requires c =
    let r = c.requires in
    let f = c.args.self.now in
    let lt = task_in r.0 r.1 f.places.english f.places.hebrew f.tracks.items f.logs.items f.count c.args.task r.3 r.4 r.2.task_is in
    omega (arith, lt, f.tracks.ok.0)

pub get_one-requires-clause-english : goal.get_one-requires-clause-english
get_one-requires-clause-english c =
    let r = c.requires in
    let f = c.args.self.now in
    in_english r.0 r.1 f.places.english f.places.hebrew f.tracks.items f.logs.items f.count c.args.task r.3 r.4 r.2.task_is
    f.tracks.items c.index_mut.result.now c.reserve.new.self.english refl c.index_mut.ensures.value c.in_ok-reserve.ensures.english

pub get_one-requires-clause-hebrew : goal.get_one-requires-clause-hebrew
get_one-requires-clause-hebrew c =
    let r = c.requires in
    let f = c.args.self.now in
    in_hebrew r.0 r.1 f.places.english f.places.hebrew f.tracks.items f.logs.items f.count c.args.task r.3 r.4 r.2.task_is
    f.tracks.items c.index_mut.result.now c.reserve.new.self.hebrew refl c.index_mut.ensures.value c.in_ok-reserve.ensures.hebrew

pub returns-clause-takes : goal.returns-clause-takes
returns-clause-takes c = λ h e p k steps.
    let f = c.args.self.now in
    let tracks = f.tracks.items in
    let d = c.index_mut.result.now in
    get_taken h e steps f.places.english f.places.hebrew tracks f.logs.items f.count k c.args.task c.args.future c.reserve.new.self c.get_one.new.places d
    c.get_one.new.track c.in_ok-reach.reach (f.count + 1) p
    c.in_ok-reserve.ensures.english c.in_ok-reserve.ensures.hebrew
    (looked_up h e f.places.english f.places.hebrew tracks f.logs.items f.count c.args.task k steps p.task_is tracks d refl
    c.index_mut.ensures.value) c.get_one.ensures.number
    (subst (λ (l : List Track). TableAfterGet c.reserve.new.self l c.args.task c.args.future c.in_ok-reach.reach) c.as_slice.ensures.value
    c.in_ok-reach.ensures) c.get_one.ensures.gets refl

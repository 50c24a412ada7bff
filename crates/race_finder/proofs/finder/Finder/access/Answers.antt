use Rattle.std.proofs.Common.{◌+◌, ◌^◌, length, arith, refl, set}
use Rattle.std.proofs.lemmas.List.{length-set}
use Rattle.std.proofs.lemmas.Option.{slice_get_read}
use Rattle.std.proofs.lemmas.Result.{err_from_is_err_and}
use Rattle.race_finder.specs.Finding.{kind_by}
use Rattle.race_finder.proofs.Accesses.{task_in, track_of, knows_room, room_known, access_taken}
use Rattle.race_finder.proofs.finder.Finder.access.Goals as goal

pub returns-in_err-reserve-clause-stays : goal.returns-in_err-reserve-clause-stays
returns-in_err-reserve-clause-stays c =
    let p = err_from_is_err_and c.from_residual-in_err-reserve.result c.from_residual-in_err-reserve.ensures.1 in
    let f = c.args.self.now in
    let grown = c.grow.new.logs.items in
    let there = c.in_ok-grow.ensures.there in
    rw p.1 (λ h k.
    let few = c.grow.ensures.few (2 ^ 32) k.few (omega (arith, c.ranges.cell.fits)) in
    knows_room h f.places.english f.places.hebrew f.tracks.items f.logs.items grown f.count c.args.cell c.index_mut.result.now c.reserve.new.self k
    (c.grow.ensures.cells h k.cells) few
    (slice_get_read grown
    (length grown) c.args.cell c.index_mut.result.now refl there c.index_mut.ensures.value) c.reserve.ensures.kept c.reserve.ensures.rise
    c.reserve.ensures.sorted)

pub index-requires : goal.index-requires
index-requires c =
    let r = c.requires in
    let f = c.args.self.now in
    let lt = task_in r.0 r.1 f.places.english f.places.hebrew f.tracks.items f.logs.items f.count c.args.task r.3 r.4 r.2.task_is in
    omega (arith, lt, f.tracks.ok.0)

pub keep-requires-clause-at_known : goal.keep-requires-clause-at_known
keep-requires-clause-at_known c =
    let r = c.requires in
    let f = c.args.self.now in
    let tracks = f.tracks.items in
    let lt = task_in r.0 r.1 f.places.english f.places.hebrew tracks f.logs.items f.count c.args.task r.3 r.4 r.2.task_is in
    (track_of r.0 f.places.english f.places.hebrew tracks f.logs.items f.count c.args.task c.index.result.now r.3
    (slice_get_read tracks (length tracks) c.args.task c.index.result.now refl lt c.index.ensures)).0

pub keep-requires-clause-table_known : goal.keep-requires-clause-table_known
keep-requires-clause-table_known c =
    let r = c.requires in
    let f = c.args.self.now in
    let tracks = f.tracks.items in
    let lt = task_in r.0 r.1 f.places.english f.places.hebrew tracks f.logs.items f.count c.args.task r.3 r.4 r.2.task_is in
    (track_of r.0 f.places.english f.places.hebrew tracks f.logs.items f.count c.args.task c.index.result.now r.3
    (slice_get_read tracks (length tracks) c.args.task c.index.result.now refl lt c.index.ensures)).1

pub keep-requires-clause-kept_known : goal.keep-requires-clause-kept_known
keep-requires-clause-kept_known c =
    let r = c.requires in
    let f = c.args.self.now in
    let grown = c.grow.new.logs.items in
    let there = c.in_ok-grow.ensures.there in
    let k = r.3 in
    let few = c.grow.ensures.few (2 ^ 32) k.few (omega (arith, c.ranges.cell.fits)) in
    let with_room = set grown c.args.cell c.reserve.new.self in
    let n = length-set grown c.args.cell c.reserve.new.self in
    room_known r.0 f.places.english f.places.hebrew f.tracks.items f.logs.items grown f.count c.args.cell c.index_mut.result.now c.reserve.new.self k
    (c.grow.ensures.cells r.0 k.cells) few
    (slice_get_read grown
    (length grown) c.args.cell c.index_mut.result.now refl there c.index_mut.ensures.value) c.reserve.ensures.kept c.reserve.ensures.rise
    c.reserve.ensures.sorted
    c.index_mut-2.result.now (slice_get_read with_room (length with_room) c.args.cell c.index_mut-2.result.now refl
    (omega (arith, n, there)) c.index_mut-2.ensures.value)

pub returns-clause-takes : goal.returns-clause-takes
returns-clause-takes c = λ h e p k steps.
    let f = c.args.self.now in
    let tracks = f.tracks.items in
    let grown = c.grow.new.logs.items in
    let there = c.in_ok-grow.ensures.there in
    let few = c.grow.ensures.few (2 ^ 32) k.few (omega (arith, c.ranges.cell.fits)) in
    let with_room = set grown c.args.cell c.reserve.new.self in
    let n = length-set grown c.args.cell c.reserve.new.self in
    let lt = task_in h e f.places.english f.places.hebrew tracks f.logs.items f.count c.args.task k steps p.task_is in
    access_taken h f.places.english f.places.hebrew tracks f.logs.items grown f.count c.args.cell c.index_mut.result.now c.reserve.new.self k
    (c.grow.ensures.cells h k.cells) few
    (slice_get_read grown
    (length grown) c.args.cell c.index_mut.result.now refl there c.index_mut.ensures.value) c.reserve.ensures.kept c.reserve.ensures.rise
    c.reserve.ensures.sorted
    e (kind_by c.args.writes) c.args.task c.index.result.now c.index_mut-2.result.now c.keep.new.log c.keep.new.places.english c.keep.new.places.hebrew
    (f.count + 1) steps p.task_is p.kind_is
    (slice_get_read tracks (length tracks) c.args.task c.index.result.now refl lt c.index.ensures) there
    (slice_get_read with_room (length with_room) c.args.cell c.index_mut-2.result.now refl (omega (arith, n, there)) c.index_mut-2.ensures.value)
    c.keep.ensures.kept c.keep.ensures.english c.keep.ensures.hebrew refl

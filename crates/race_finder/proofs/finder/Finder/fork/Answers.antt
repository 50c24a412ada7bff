use Rattle.std.proofs.Common.{◌+◌, ◌∙◌, ◌∷◌, [], ◌++◌, List, length, set, arith, refl, sym, ap, subst}
use Rattle.std.proofs.lemmas.Result.{err_from_is_err_and}
use Rattle.race_finder.specs.declared.track.Track.{Track}
use Rattle.race_finder.specs.Places.{Placed}
use Rattle.race_finder.specs.Finding.{Knows}
use Rattle.race_finder.proofs.Accesses.{task_in}
use Rattle.race_finder.proofs.Looking.{looked_up, in_english, in_hebrew}
use Rattle.race_finder.proofs.Taking.{places_few, same_known, fork_task, fork_taken}
use Rattle.race_finder.proofs.finder.Finder.fork.Goals as goal

pub reserve-requires : goal.reserve-requires
reserve-requires c =
    let r = c.requires in
    let f = c.args.self.now in
    let few = (places_few r.0 f.places.english f.places.hebrew f.tracks.items f.logs.items f.count r.3).0 in
    omega (arith, few, r.5)

pub index_mut-requires : goal.index_mut-requires
index_mut-requires c =
    let r = c.requires in
    let is = fork_task c.args.fork c.args.task c.args.child r.1 r.2 in
    let f = c.args.self.now in
    let lt = task_in r.0 r.1 f.places.english f.places.hebrew f.tracks.items f.logs.items f.count c.args.task r.3 r.4 is in
    let same = ap (length {A = Track}) c.in_ok-reserve-2.ensures.items in
    omega (arith, lt, same, c.reserve-2.new.self.ok.0)

pub fork_one-requires-clause-english : goal.fork_one-requires-clause-english
fork_one-requires-clause-english c =
    let r = c.requires in
    let is = fork_task c.args.fork c.args.task c.args.child r.1 r.2 in
    let f = c.args.self.now in
    in_english r.0 r.1 f.places.english f.places.hebrew f.tracks.items f.logs.items f.count c.args.task r.3 r.4 is
    c.reserve-2.new.self.items c.index_mut.result.now c.reserve.new.self.english c.in_ok-reserve-2.ensures.items c.index_mut.ensures.value
    c.in_ok-reserve.ensures.english

pub fork_one-requires-clause-hebrew : goal.fork_one-requires-clause-hebrew
fork_one-requires-clause-hebrew c =
    let r = c.requires in
    let is = fork_task c.args.fork c.args.task c.args.child r.1 r.2 in
    let f = c.args.self.now in
    in_hebrew r.0 r.1 f.places.english f.places.hebrew f.tracks.items f.logs.items f.count c.args.task r.3 r.4 is
    c.reserve-2.new.self.items c.index_mut.result.now c.reserve.new.self.hebrew c.in_ok-reserve-2.ensures.items c.index_mut.ensures.value
    c.in_ok-reserve.ensures.hebrew

pub returns-in_err-kid-clause-stays : goal.returns-in_err-kid-clause-stays
returns-in_err-kid-clause-stays c =
    let p = err_from_is_err_and c.from_residual-in_err-kid.result c.from_residual-in_err-kid.ensures.1 in
    let r = c.requires in
    let is = fork_task c.args.fork c.args.task c.args.child r.1 r.2 in
    let f = c.args.self.now in
    let tracks = f.tracks.items in
    let d = c.index_mut.result.now in
    let items = c.in_ok-reserve-2.ensures.items in
    let at = looked_up r.0 r.1 f.places.english f.places.hebrew f.tracks.items f.logs.items f.count c.args.task r.3 r.4 is c.reserve-2.new.self.items d
    items c.index_mut.ensures.value in
    let places = c.fork_one.new.places in
    let en = ap (λ (q : Placed). q.english) c.in_err-kid.ensures.unchanged ∙ c.in_ok-reserve.ensures.english in
    let he = ap (λ (q : Placed). q.hebrew) c.in_err-kid.ensures.unchanged ∙ c.in_ok-reserve.ensures.hebrew in
    rw p.1 (λ h k.
    subst (λ (l : List Track). Knows h places.english places.hebrew (set l c.args.task c.fork_one.new.track) f.logs.items f.count) (sym items)
    (same_known h f.places.english f.places.hebrew places.english places.hebrew tracks f.logs.items f.count c.args.task d c.fork_one.new.track k at
    c.in_err-kid.ensures.same en he))

pub returns-clause-takes : goal.returns-clause-takes
returns-clause-takes c = λ h e p k steps.
    let is = fork_task c.args.fork c.args.task c.args.child e p in
    let f = c.args.self.now in
    let tracks = f.tracks.items in
    let d = c.index_mut.result.now in
    let d' = c.fork_one.new.track in
    let kid = c.in_ok-kid.kid in
    let items = c.in_ok-reserve-2.ensures.items in
    let at = looked_up h e f.places.english f.places.hebrew tracks f.logs.items f.count c.args.task k steps is c.reserve-2.new.self.items d
    items c.index_mut.ensures.value in
    fork_taken h e steps f.places.english f.places.hebrew tracks f.logs.items f.count k c.args.fork c.args.task c.args.child
    c.reserve.new.self c.fork_one.new.places d
    d' kid c.push_reserved.new.self.items (f.count + 1) p
    c.in_ok-reserve.ensures.english c.in_ok-reserve.ensures.hebrew at c.in_ok-kid.ensures.numbers c.in_ok-kid.ensures.forks
    (c.push_reserved.ensures.items ∙ ap (λ (l : List Track). set l c.args.task d' ++ kid ∷ []) items) refl

use Rattle.std.proofs.Common.{◌+◌, ◌++◌, ◌∷◌, [], refl, sym, subst, length, arith}
use Rattle.std.specs.Prelude.{slice_set}
use Rattle.std.proofs.lemmas.Option.{slice_get_read}
use Rattle.task_machine.proofs.Places.{get_below}
use Rattle.run_laws.specs.Ready.{put_before}
use Rattle.run_replay.specs.Ready.{links_of, IsRing}
use Rattle.run_replay.proofs.Rings.{behind_it, has_place, put_ring}
use Rattle.run_replay.proofs.ready.Ring.put.Goals as goal

pub index-back-requires : goal.index-back-requires
index-back-requires c =
    let s = c.requires.stands in
    let lt = has_place _ _ _ _ s.1 in
    let count = s.1.ring.prevs_count in
    omega (arith, lt, count)

pub index_mut-requires : goal.index_mut-requires
index_mut-requires c =
    let s = c.requires.stands in
    let l = links_of c.args.self.now in
    let t = c.args.task in
    let lt = has_place l c.args.child t s.0 s.1 in
    let count = s.1.ring.prevs_count in
    let read = slice_get_read l.prevs (length l.prevs) (t + 1) c.index-back.result.now refl (omega (arith, lt, count)) c.index-back.ensures in
    let below = get_below l.nexts c.index-back.result.now (t + 1) (behind_it l c.args.child t c.index-back.result.now s.0 s.1 read).on in
    omega (arith, below, c.args.self.now.nexts.ok.0)

pub overflow_add-task : goal.overflow_add-task
overflow_add-task c =
    let s = c.requires.stands in
    let lt = has_place _ _ _ _ s.1 in
    let few = c.requires.few in
    omega (arith, lt, few)

pub index_mut-requires-2 : goal.index_mut-requires-2
index_mut-requires-2 c =
    let s = c.requires.stands in
    let lt = has_place _ _ _ _ s.1 in
    let count = s.1.ring.prevs_count in
    omega (arith, lt, count)

pub returns : goal.returns
returns c = λ order s.
    let l = links_of c.args.self.now in
    let t = c.args.task in
    let child = c.args.child in
    let back = c.index-back.result.now in
    let lt = has_place l child t order s in
    let count = s.ring.prevs_count in
    let read = slice_get_read l.prevs (length l.prevs) (t + 1) back refl (omega (arith, lt, count)) c.index-back.ensures in
    let ring = put_ring l t child back order s read in
    subst (λ ns. IsRing (child + 1) (put_before t child order) (record { nexts = ns; prevs = c.push_reserved-2.new.self.items }))
    (sym c.push_reserved.ensures.items)
    (subst (λ ps. IsRing (child + 1) (put_before t child order) (record { nexts = slice_set l.nexts back (child + 1) ++ (t + 1) ∷ []; prevs = ps }))
    (sym c.push_reserved-2.ensures.items) ring)

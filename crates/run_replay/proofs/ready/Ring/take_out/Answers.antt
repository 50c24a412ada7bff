use Rattle.std.proofs.Common.{◌+◌, refl, length, arith}
use Rattle.std.proofs.lemmas.Option.{slice_get_read}
use Rattle.task_machine.proofs.Places.{get_below}
use Rattle.run_replay.specs.Ready.{links_of}
use Rattle.run_replay.proofs.Rings.{ahead_of_it, behind_it, has_place, out_ring}
use Rattle.run_replay.proofs.ready.Ring.take_out.Goals as goal

pub index-back-requires : goal.index-back-requires
index-back-requires c =
    let s = c.requires.stands.2 in
    let lt = has_place _ _ _ _ s in
    let count = s.ring.prevs_count in
    omega (arith, lt, count)

pub index-next-requires : goal.index-next-requires
index-next-requires c =
    let s = c.requires.stands.2 in
    let lt = has_place _ _ _ _ s in
    let count = s.ring.nexts_count in
    omega (arith, lt, count)

pub index_mut-requires : goal.index_mut-requires
index_mut-requires c =
    let (tasks, order, s) = c.requires.stands in
    let l = links_of c.args.self.now in
    let t = c.args.task in
    let back = c.index-back.result.now in
    let lt = has_place l tasks t order s in
    let count = s.ring.prevs_count in
    let read = slice_get_read l.prevs (length l.prevs) (t + 1) back refl (omega (arith, lt, count)) c.index-back.ensures in
    let below = get_below l.nexts back (t + 1) (behind_it l tasks t back order s read).on in
    omega (arith, below, c.args.self.now.nexts.ok.0)

pub index_mut-requires-2 : goal.index_mut-requires-2
index_mut-requires-2 c =
    let (tasks, order, s) = c.requires.stands in
    let l = links_of c.args.self.now in
    let t = c.args.task in
    let next = c.index-next.result.now in
    let lt = has_place l tasks t order s in
    let count = s.ring.nexts_count in
    let read = slice_get_read l.nexts (length l.nexts) (t + 1) next refl (omega (arith, lt, count)) c.index-next.ensures in
    let below = get_below l.prevs next (t + 1) (ahead_of_it l tasks t next order s read).back in
    omega (arith, below, c.args.self.now.prevs.ok.0)

pub returns : goal.returns
returns c = λ tasks order s.
    let l = links_of c.args.self.now in
    let t = c.args.task in
    let back = c.index-back.result.now in
    let next = c.index-next.result.now in
    let lt = has_place l tasks t order s in
    let prevs = s.ring.prevs_count in
    let nexts = s.ring.nexts_count in
    let read_back = slice_get_read l.prevs (length l.prevs) (t + 1) back refl (omega (arith, lt, prevs)) c.index-back.ensures in
    let read_next = slice_get_read l.nexts (length l.nexts) (t + 1) next refl (omega (arith, lt, nexts)) c.index-next.ensures in
    out_ring l tasks t back next order s read_back read_next

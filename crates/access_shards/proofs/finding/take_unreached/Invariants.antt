use Rattle.std.proofs.Common.{◌≡◌, ◌≤◌, take, vec_len, vec_capacity}
use Rattle.fut_base.specs.Dag.{Among}
use Rattle.order_list.specs.Frames.{IsAsBefore}
use Rattle.reach_table.specs.Telling.{AsksAtMost}
use Rattle.access_shards.specs.declared.kept.Access.{Access}
use Rattle.access_shards.specs.Finding.{FindsApart}
use Rattle.access_shards.proofs.finding.take_unreached.Given as goal

abbrev pub invariant-loop-reader : goal.invariant-loop-reader
invariant-loop-reader g l =
    let first = l.initial.judge in
    let looked = take l.reader-index l.readers in
    record {
      finds : FindsApart l.reach l.at (g.J.Judge.known first) (g.J.Judge.english first) (g.J.Judge.hebrew first) looked l.left.items;
      those : (a : Access) → Among a l.left.items → Among a l.readers;
      len : vec_len l.left ≤ l.reader-index;
      capacity : vec_capacity l.left ≡ vec_capacity l.initial.left;
      asks : AsksAtMost l.reach l.reader-index (g.J.Judge.asked first) (g.J.Judge.asked l.judge);
      judge : IsAsBefore g.J.Judge first l.judge;
    }

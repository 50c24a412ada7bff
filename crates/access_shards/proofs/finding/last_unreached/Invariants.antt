use Rattle.std.proofs.Common.{◌+◌, take}
use Rattle.order_list.specs.Frames.{IsAsBefore}
use Rattle.reach_table.specs.Telling.{AsksAtMost}
use Rattle.access_shards.specs.Kept.{all_kept}
use Rattle.access_shards.specs.Finding.{FindsLast}
use Rattle.access_shards.proofs.finding.last_unreached.Given as goal

abbrev pub invariant-loop-reader : goal.invariant-loop-reader
invariant-loop-reader g l =
    let first = l.fn.judge in
    let looked = all_kept l.fn.writer (take l.reader-index l.readers) in
    record {
      finds : FindsLast l.reach l.at (g.J.Judge.known first) (g.J.Judge.english first) (g.J.Judge.hebrew first) looked l.found;
      asks : AsksAtMost l.reach (l.reader-index + 1) (g.J.Judge.asked first) (g.J.Judge.asked l.judge);
      judge : IsAsBefore g.J.Judge first l.judge;
    }

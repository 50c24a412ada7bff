use Rattle.std.proofs.Common.{◌-◌, ◌+◌, ◌<◌, ◌≤◌}
use Rattle.order_list.specs.Frames.{IsAsBefore}
use Rattle.access_shards.specs.Runs.{MayBeRow}
use Rattle.access_shards.proofs.Spans.{AreFrom}
use Rattle.access_shards.proofs.run.find_start.Given as goal

abbrev pub invariant-loop-floor : goal.invariant-loop-floor
invariant-loop-floor g l =
    let first = l.initial.judge in
    record {
      floor_is : l.floor ≤ l.start;
      start_is : l.start ≤ l.fn.span.start;
      from : MayBeRow l.listed l.readers l.row → AreFrom (g.J.Judge.english first) (g.J.Judge.hebrew first) l.at l.row l.floor l.start l.span.low;
      asks : g.J.Judge.asked l.judge + l.start + l.fn.span.floor ≤ g.J.Judge.asked first + l.fn.span.start + l.floor;
      each : l.floor < l.start → g.J.Judge.asked l.judge + l.start ≤ g.J.Judge.asked first + l.fn.span.start;
      last : g.J.Judge.asked l.judge + l.start ≤ g.J.Judge.asked first + l.fn.span.start + 1;
      judge : IsAsBefore g.J.Judge first l.judge;
    }

abbrev pub decreases-loop-floor : goal.decreases-loop-floor
decreases-loop-floor g l = l.start - l.floor

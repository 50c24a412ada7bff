use Rattle.std.proofs.Common.{◌-◌, ◌+◌, ◌<◌, ◌≤◌, ◌^◌, ℕ, length}
use Rattle.order_list.specs.Frames.{IsAsBefore}
use Rattle.access_shards.specs.Runs.{Spans}
use Rattle.access_shards.proofs.run.find_end.Given as goal

abbrev pub invariant-loop-span : goal.invariant-loop-span
invariant-loop-span g l =
    let first = l.initial.judge in
    record {
      span : Spans (g.J.Judge.english first) (g.J.Judge.hebrew first) l.at l.listed l.readers l.row l.span;
      from : l.fn.begun.low ≤ l.span.low;
      to : l.span.high ≤ l.fn.begun.high;
      counts : g.J.Judge.asked l.judge + l.span.start + l.span.high + l.fn.begun.floor + l.fn.begun.low
          ≤ g.J.Judge.asked first + l.fn.begun.start + l.fn.begun.high + l.span.floor + l.span.low;
      asks : g.J.Judge.asked l.judge + l.span.high + l.fn.begun.low ≤ g.J.Judge.asked first + l.fn.begun.high + l.span.low;
      halves : (bits : ℕ) → l.fn.begun.high < l.fn.begun.low + 2 ^ bits
          → (k : ℕ) × (l.span.high < l.span.low + 2 ^ k) × (g.J.Judge.asked l.judge + k ≤ g.J.Judge.asked first + bits);
      judge : IsAsBefore g.J.Judge first l.judge;
    }

abbrev pub decreases-loop-span : goal.decreases-loop-span
decreases-loop-span g l = l.span.high - l.span.low

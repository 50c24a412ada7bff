use Rattle.std.proofs.Common.{◌+◌, ◌≤◌, take}
use Rattle.order_list.specs.Frames.{IsAsBefore}
use Rattle.reach_table.specs.Telling.{ReachesOne}
use Rattle.reach_table.proofs.group.reaches_one.Given as goal

abbrev pub invariant-loop-w : goal.invariant-loop-w
invariant-loop-w g l =
    let first = l.initial.judge in
    record {
      none : ReachesOne (g.J.Judge.english first) (g.J.Judge.hebrew first) l.u.number (take l.w-index l.strands) → ⊥;
      asks : g.J.Judge.asked l.judge ≤ g.J.Judge.asked first + l.w-index;
      judge : IsAsBefore g.J.Judge first l.judge;
    }

use Rattle.std.proofs.Common.{arith}
use Rattle.race_report.specs.Search.{has}
use Rattle.race_report.proofs.Paths.{stays_inside}
use Rattle.race_report.proofs.search.reached_from.Goals as goal

pub returns-then-len-before : goal.returns-then-len-before
returns-then-len-before c =
    let set = c.spread.new.reached in
    let ends = c.in_ok-spread.ensures in
    let closed = ends.closed (omega (arith, c.len.ensures.len, c.len-before.ensures.len)) in
    λ v. (
      ends.sound c.args.start c.loop-reached.invariant.sound v,
      λ r. stays_inside c.args.steps.now (has set) closed c.args.start v r (ends.kept c.args.start c.loop-reached.invariant.begun),
    )

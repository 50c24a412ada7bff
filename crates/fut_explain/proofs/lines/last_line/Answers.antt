use Rattle.std.proofs.Common.{arith}
use Rattle.fut_explain.proofs.Ends.{last_line_is, begins_text, begins_line}
use Rattle.fut_explain.proofs.lines.last_line.Goals as goal
use Rattle.fut_explain.proofs.lines.last_line.Goals.{then-loop-at-test+else-text-at-ne10, else-loop-at-test}

pub returns : goal.returns
returns c =
    let text = c.args.text.now in
    let at = c.loop-at.at in
    elim c.loop-at-test.branch [
      | then-loop-at-test+else-text-at-ne10 w ↦ last_line_is text at c.loop-at.invariant.within c.loop-at.invariant.all
          (begins_line text at _ (omega arith) c.loop-at.invariant.within w.if-text-at-ne10.false)
      | else-loop-at-test w ↦ last_line_is text at c.loop-at.invariant.within c.loop-at.invariant.all (begins_text text at (omega arith))
    ]

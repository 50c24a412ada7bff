use Rattle.std.proofs.Common.{arith}
use Rattle.fut_explain.proofs.Ends.{first_line_is, ends_text, ends_line}
use Rattle.fut_explain.proofs.lines.first_line.Goals as goal
use Rattle.fut_explain.proofs.lines.first_line.Goals.{then-loop-n-test+else-text-n-ne10, else-loop-n-test}

pub returns : goal.returns
returns c =
    let text = c.args.text.now in
    let n = c.loop-n.n in
    elim c.loop-n-test.branch [
      | then-loop-n-test+else-text-n-ne10 w ↦ first_line_is text n c.loop-n.invariant.all (ends_line text n _ (omega arith) w.if-text-n-ne10.false)
      | else-loop-n-test w ↦ first_line_is text n c.loop-n.invariant.all (ends_text text n (omega arith))
    ]

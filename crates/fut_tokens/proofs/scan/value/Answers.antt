use Rattle.std.proofs.Common.{arith}
use Rattle.fut_tokens.proofs.Values.{out_of_range}
use Rattle.fut_tokens.proofs.scan.value.Goals as goal

pub returns-then-value-digit : goal.returns-then-value-digit
returns-then-value-digit c =
    let d = c.requires c.loop-d.d-index c.loop-d-test.true in
    out_of_range c.args.digits.now c.loop-d.d-index c.loop-d.value c.from-digit.result c.loop-d-test.true c.loop-d.invariant.rest c.from-digit.ensures
    (omega (arith, d.1, c.from-digit.ensures)) c.if-value-digit.true

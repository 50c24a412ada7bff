use Rattle.std.proofs.Common.{arith, take, length-take, ap}
use Rattle.fut_tokens.specs.declared.token.Position.{Position}
use Rattle.fut_tokens.proofs.Places.{column_small}
use Rattle.fut_tokens.proofs.lexer.place_at.Goals as goal

pub place_on-here-requires-clause-column : goal.place_on-here-requires-clause-column
place_on-here-requires-clause-column c =
    let h = column_small (take c.loop-i.i c.args.text.now) in
    let e = ap (λ (p : Position). p.column) c.loop-i.invariant in
    omega (arith, h, e, length-take c.loop-i.i c.args.text.now)

use Rattle.std.proofs.Common.{arith, ap, refl, take, length-take}
use Rattle.fut_tokens.specs.declared.token.Position.{Position}
use Rattle.fut_tokens.proofs.Places.{column_small}
use Rattle.fut_explain.proofs.Placing.{goes_first}
use Rattle.fut_explain.proofs.lines.bytes_before.Goals as goal

pub loop-at-init : goal.loop-at-init
loop-at-init c = record { here = refl; goes = goes_first c.args.text.now c.args.place c.requires.within }

pub place_on-here-requires-clause-column : goal.place_on-here-requires-clause-column
place_on-here-requires-clause-column c =
    let h = column_small (take c.loop-at.at c.args.text.now) in
    let e = ap (λ (p : Position). p.column) c.loop-at.invariant.here in
    omega (arith, h, e, length-take c.loop-at.at c.args.text.now)

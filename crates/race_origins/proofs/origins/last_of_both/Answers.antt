use Rattle.std.proofs.Common.{◌≡◌, ◌+◌, ◌-◌, arith, sym}
use Rattle.fut_base.specs.Events.{event_of}
use Rattle.race_origins.specs.Parting.{has_both}
use Rattle.race_origins.proofs.Places.{event_at, none_from_here}
use Rattle.race_origins.proofs.origins.last_of_both.Goals as goal

pub returns-then-has_both : goal.returns-then-has_both
returns-then-has_both c =
    let e = c.index-entries-place.result in (
      event_of e,
      event_at c.args.entries.now (c.loop-place.place - 1) e (omega arith) c.index-entries-place.is,
      sym c.if-has_both.ensures,
      λ k y lt there. c.loop-place.invariant k y (omega arith) there,
    )

pub loop-place-preserved : goal.loop-place-preserved
loop-place-preserved c =
    let e = c.index-entries-place.result in
    let i = c.loop-place.place - 1 in
    let next : c.loop-place.place ≡ i + 1 = omega arith in
    none_from_here (has_both c.args.one.now c.args.other.now) _ i c.loop-place.place (event_of e) next
    (event_at c.args.entries.now i e (omega arith) c.index-entries-place.is) (sym c.if-has_both.ensures) c.loop-place.invariant

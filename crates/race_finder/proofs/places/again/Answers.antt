use Rattle.std.proofs.Common.{arith}
use Rattle.race_finder.specs.declared.places.Pair.{Pair}
use Rattle.race_finder.proofs.Placing.{next_put}
use Rattle.race_finder.proofs.places.again.Goals as goal

pub loop-pair-preserved : goal.loop-pair-preserved
loop-pair-preserved c =
    let none : Pair = record { english = record { 0 = 0 }; hebrew = record { 0 = 0 } } in
    let e = c.insert.ensures in
    next_put c.loop-pair.lists c.insert.new.self c.args.placed.now c.args.capacity c.loop-pair.pair-index c.insert.result.0 none
    (omega arith) c.loop-pair.invariant
    (record { english = e.english; hebrew = e.hebrew; was = e.was_kept; now = e.kept })

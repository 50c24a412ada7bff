use Rattle.race_finder.proofs.Placing.{ArePut}
use Rattle.race_finder.proofs.places.again.Given as goal

abbrev pub invariant-loop-pair : goal.invariant-loop-pair
invariant-loop-pair l = ArePut l.lists l.placed l.capacity l.pair-index

use Rattle.std.proofs.Common.{◌≡◌, ◌+◌, length, ℕ}
use Rattle.run_book.specs.Books.{given_to, taken_from}
use Rattle.run_book.proofs.finishing.gather_all.Given as goal

abbrev pub invariant-loop-hand : goal.invariant-loop-hand
invariant-loop-hand g l = (l.counts.rest.parts + length l.hands.items ≡ l.initial.counts.rest.parts + length l.initial.hands.items)
    × (l.counts.rest.given + given_to l.hands.items ≡ l.initial.counts.rest.given + given_to l.initial.hands.items)
    × (l.counts.rest.taken + taken_from l.hands.items ≡ l.initial.counts.rest.taken + taken_from l.initial.hands.items)
    × (l.counts.running ≡ l.initial.counts.running)

abbrev pub decreases-loop-hand : goal.decreases-loop-hand
decreases-loop-hand g l = length l.hands.items

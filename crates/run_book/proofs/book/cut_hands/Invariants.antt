use Rattle.std.proofs.Common.{◌≡◌, length}
use Rattle.run_book.specs.Books.{AllNew, HasCutMany}
use Rattle.run_book.proofs.book.cut_hands.Given as goal

abbrev pub invariant-loop-hand : goal.invariant-loop-hand
invariant-loop-hand g l = (length l.all.items ≡ l._hand) × AllNew l.all.items × HasCutMany l.initial.counts l._hand l.counts

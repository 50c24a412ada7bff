use Rattle.std.proofs.Common.{length, Some}
use Rattle.order_list.specs.Chain.{walk}
use Rattle.order_list.proofs.Sparse.{HasSought}
use Rattle.order_list.proofs.window.window.Given as goal

abbrev pub invariant-loop-i : goal.invariant-loop-i
invariant-loop-i l = HasSought l.labels l.nexts l.prevs (walk l.nexts (length l.nexts) (Some 0)) l.x l.i l.span

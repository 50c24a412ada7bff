use Rattle.std.proofs.Common.{ℕ, List}
use Rattle.order_list.specs.Spans.{IsRoute}
use Rattle.order_list.proofs.Spreading.{IsSpreading}
use Rattle.order_list.proofs.spread.spread.Given as goal

abbrev pub invariant-loop-k : goal.invariant-loop-k
invariant-loop-k l = (items rest : List ℕ) → IsRoute l.fn.labels l.nexts l.window items rest → IsSpreading l.fn.labels l.nexts l.window items
    rest l.labels l.k l.label l.at

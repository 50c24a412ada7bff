use Rattle.std.proofs.Common.{ℕ, List}
use Rattle.order_list.specs.Spans.{Leads}
use Rattle.order_list.proofs.Spans.{HasGone}
use Rattle.order_list.proofs.span.go_along.Given as goal

abbrev pub invariant-loop-k : goal.invariant-loop-k
invariant-loop-k l = (xs : List ℕ) → Leads l.links l.fn.at xs → HasGone l.labels l.links l.low l.high l.from xs l.k l.last l.stop

use Rattle.std.proofs.Common.{◌≡◌, List, ℕ, []}
use Rattle.order_query.specs.Showing.{AreItemsOf, with_words}
use Rattle.order_query.proofs.Puts.{IsPutting}
use Rattle.order_query.proofs.orders.Orders.show_window.Given as goal

abbrev pub invariant-loop-k : goal.invariant-loop-k
invariant-loop-k l =
    (l.seat.table_id ≡ l.fn.seat.table_id) × (l.seat.me ≡ (with_words l.fn.seat.me.0 l.seat.me.0.words, []))
    × ((items : List ℕ) → AreItemsOf l.list.order l.fn.window items → IsPutting l.fn.seat.me.0.words l.side l.list.labels items l.seat.me.0.words l.k l.at)

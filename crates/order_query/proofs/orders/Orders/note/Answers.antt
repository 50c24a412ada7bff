use Rattle.std.proofs.Common.{ℕ, ◌∙◌, sym, ap, length}
use Rattle.atomic_table.specs.Table.{Me}
use Rattle.order_query.specs.declared.view.View.{View}
use Rattle.order_query.specs.Logs.{count_of}
use Rattle.order_query.specs.Reading.{Writing}
use Rattle.order_query.proofs.Growing.{english_count}
use Rattle.order_query.proofs.orders.Orders.note.Goals as goal

pub returns-clause-count : goal.returns-clause-count
returns-clause-count c =
    let kept = c.writer.invariant in
    ap (λ (m : Me (Unit {0}) View). count_of m.0.log) c.split_any.ensures.new
    ∙ sym (english_count c.writer.inside.seat.me.0.log kept.earlier.0)
    ∙ ap (length {A = ℕ}) (sym kept.shown.english.order_is)
    ∙ ap (λ (w : Writing). length w.lists.english.order) c.writer.view_is

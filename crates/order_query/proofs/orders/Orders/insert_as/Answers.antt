use Rattle.std.proofs.Common.{◌<◌, ◌≤◌, [], ◌∷◌, ◌++◌, ◌∙◌, length, sym, subst, ap}
use Rattle.order_query.specs.declared.view.Insert.{Insert}
use Rattle.order_query.specs.Reading.{Writing}
use Rattle.order_query.specs.Showing.{MayCount}
use Rattle.order_query.proofs.Landing.{may_show, may_count, is_writing}
use Rattle.order_query.proofs.orders.Orders.insert_as.Goals as goal

pub show_windows-writer-inside-requires-clause-may : goal.show_windows-writer-inside-requires-clause-may
show_windows-writer-inside-requires-clause-may g c =
    let old = c.writer.inside.lists in
    let mid = c.make_space-windows.new.self in
    let made = c.make_space-windows.ensures in
    let seat = c.writer.inside.seat in
    let x = c.args.after_e.0 in
    let y = c.args.after_h.0 in
    let home = ap (λ (w : Writing). w.home) c.writer.view_is ∙ c.requires.home in
    let x_in = subst (λ (w : Writing). x < length w.lists.english.order) (sym c.writer.view_is) c.requires.e_in in
    let y_in = subst (λ (w : Writing). y < length w.lists.hebrew.order) (sym c.writer.view_is) c.requires.h_in in
    let room = subst (λ (w : Writing). 1 ≤ w.lists.english.room) (sym c.writer.view_is) c.requires.room in (
      old,
      x,
      y,
      may_show c.args.self.now seat.table_id seat.me old mid c.writer.inside.version x y c.make_space-windows.result c.writer.invariant home x_in y_in room
          made.was_kept made.kept made.english made.hebrew,
    )

pub show_item-requires-clause-may : goal.show_item-requires-clause-may
show_item-requires-clause-may g c =
    let old = c.writer.inside.lists in
    let mid = c.make_space-windows.new.self in
    let made = c.make_space-windows.ensures in
    let seat = c.writer.inside.seat in
    let x = c.args.after_e.0 in
    let y = c.args.after_h.0 in
    let home = ap (λ (w : Writing). w.home) c.writer.view_is ∙ c.requires.home in
    let x_in = subst (λ (w : Writing). x < length w.lists.english.order) (sym c.writer.view_is) c.requires.e_in in
    let y_in = subst (λ (w : Writing). y < length w.lists.hebrew.order) (sym c.writer.view_is) c.requires.h_in in
    let room = subst (λ (w : Writing). 1 ≤ w.lists.english.room) (sym c.writer.view_is) c.requires.room in
    let new = c.insert-item.new.self in
    let item = c.insert-item.result.0 in
    let e = c.insert-item.ensures in
    let s = c.show_windows-writer-inside.ensures in
    let me2 = c.show_windows-writer-inside.new.seat.me in (
      mid,
      subst (λ (i : Insert). MayCount c.args.self.now me2 new item i mid) (sym c.requires.insert)
          (may_count c.args.self.now seat.table_id seat.me old mid c.writer.inside.version x y c.make_space-windows.result c.writer.invariant home x_in y_in
          room made.was_kept made.kept made.english made.hebrew new item e.kept e.english e.hebrew me2 s.view s.size s.shown),
    )

pub invariant_of-writer : goal.invariant_of-writer
invariant_of-writer g c =
    let old = c.writer.inside.lists in
    let mid = c.make_space-windows.new.self in
    let made = c.make_space-windows.ensures in
    let seat = c.writer.inside.seat in
    let x = c.args.after_e.0 in
    let y = c.args.after_h.0 in
    let home = ap (λ (w : Writing). w.home) c.writer.view_is ∙ c.requires.home in
    let x_in = subst (λ (w : Writing). x < length w.lists.english.order) (sym c.writer.view_is) c.requires.e_in in
    let y_in = subst (λ (w : Writing). y < length w.lists.hebrew.order) (sym c.writer.view_is) c.requires.h_in in
    let room = subst (λ (w : Writing). 1 ≤ w.lists.english.room) (sym c.writer.view_is) c.requires.room in
    let new = c.insert-item.new.self in
    let item = c.insert-item.result.0 in
    let e = c.insert-item.ensures in
    let s = c.show_windows-writer-inside.ensures in
    let me2 = c.show_windows-writer-inside.new.seat.me in
    let t = c.show_item.ensures in
    let log = t.log ∙ ap (λ (i : Insert). me2.0.log ++ i ∷ []) c.requires.insert in
    is_writing c.args.self.now seat.table_id seat.me old mid c.writer.inside.version x y c.make_space-windows.result c.writer.invariant home x_in y_in room
    made.was_kept made.kept made.english made.hebrew new item e.kept e.english e.hebrew me2 s.view s.size s.shown c.show_item.new.seat.table_id
    c.show_item.new.seat.me c.show_windows-writer-inside.result (t.home ∙ s.home) t.alone t.writes t.size s.word t.version s.even s.most log t.shown

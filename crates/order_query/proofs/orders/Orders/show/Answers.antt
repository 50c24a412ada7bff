use Rattle.std.proofs.Common.{◌≡◌, ℕ, ◌+◌, ◌*◌, ◌≤◌, List, [], ◌∙◌, length, sym, subst, ap, arith, Option, Some}
use Rattle.order_list.specs.declared.place.Window.{Window}
use Rattle.order_list.specs.Ordered.{Ordered}
use Rattle.order_list.specs.Labels.{HasMadeSpace}
use Rattle.order_query.specs.Reading.{Shows}
use Rattle.order_query.specs.Showing.{word_of, with_words, ChangesSide}
use Rattle.order_query.proofs.Puts.{items_of, changes_side, shows_window, words_now}
use Rattle.order_query.proofs.orders.Orders.show.Goals as goal

made_some : (old : Ordered) (x : ℕ) (window : Option Window) (w : Window) (new : Ordered) → window ≡ Some w → HasMadeSpace old x window new
    → HasMadeSpace old x (Some w) new
made_some old x window w new is m = subst (λ (o : Option Window). HasMadeSpace old x o new) is m

pub show_window-requires : goal.show_window-requires
show_window-requires c =
    let s = c.requires.space in
    record {
      home = c.requires.home;
      size = c.requires.size;
      alone = c.requires.alone;
      writes = c.requires.writes;
      odd = c.requires.odd;
      low = c.requires.low;
      high = c.requires.high;
      fits = c.requires.fits;
      kept = c.requires.kept;
      items = items_of s.0 c.args.list.now s.1 c.in-Some.window (made_some s.0 s.1 c.args.window c.in-Some.window c.args.list.now c.in-Some.is s.2);
    }

pub returns-in-Some-clause-view : goal.returns-in-Some-clause-view
returns-in-Some-clause-view c =
    let s = c.requires.space in
    let v = c.args.seat.now.me.0 in
    let are = items_of s.0 c.args.list.now s.1 c.in-Some.window (made_some s.0 s.1 c.args.window c.in-Some.window c.args.list.now c.in-Some.is s.2) in
    let e = c.show_window.ensures.view are.0 are.1 in
    e ∙ ap (λ (ws : List ℕ). (with_words v ws, [])) (sym (words_now c.args.seat.now.me c.show_window.new.seat.me _ e))

pub returns-in-Some-clause-others : goal.returns-in-Some-clause-others
returns-in-Some-clause-others c =
    let s = c.requires.space in
    let v = c.args.seat.now.me.0 in
    let are = items_of s.0 c.args.list.now s.1 c.in-Some.window (made_some s.0 s.1 c.args.window c.in-Some.window c.args.list.now c.in-Some.is s.2) in
    let e = c.show_window.ensures.view are.0 are.1 in
    subst (ChangesSide v.words c.args.side) (sym (words_now c.args.seat.now.me c.show_window.new.seat.me _ e))
    (changes_side v.words c.args.side c.args.list.now.labels are.0)

pub returns-in-Some-clause-shown : goal.returns-in-Some-clause-shown
returns-in-Some-clause-shown c = λ old x order made shows.
    let new = c.args.list.now in
    let v = c.args.seat.now.me.0 in
    let m = made_some old x c.args.window c.in-Some.window new c.in-Some.is made in
    let are = items_of old new x c.in-Some.window m in
    let e = c.show_window.ensures.view are.0 are.1 in
    let fits : 2 * length new.order + 2 ≤ length v.words = omega (arith, c.requires.fits, c.requires.size) in
    subst (λ (ws : List ℕ). Shows ws (word_of c.args.side) order new) (sym (words_now c.args.seat.now.me c.show_window.new.seat.me _ e))
    (shows_window v.words c.args.side order old new x c.in-Some.window c.requires.high fits c.requires.kept m shows)

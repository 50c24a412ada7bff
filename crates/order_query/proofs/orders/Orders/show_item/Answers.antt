use Rattle.std.proofs.Common.{◌≡◌, ◌+◌, ◌*◌, ◌≤◌, [], ◌∷◌, ◌++◌, ◌∙◌, length, sym, subst, ap, arith}
use Rattle.std.specs.Prelude.{slice_index, slice_set}
use Rattle.atomic_table.specs.Table.{Me}
use Rattle.order_list.specs.Ordered.{Ordered}
use Rattle.order_query.specs.declared.view.View.{View}
use Rattle.order_query.specs.Logs.{english_word, hebrew_word}
use Rattle.order_query.specs.Plays.{after_store}
use Rattle.order_query.specs.Reading.{ShowBoth}
use Rattle.order_query.specs.Rule.{IsPublished, MayWrite}
use Rattle.order_query.specs.Showing.{with_words}
use Rattle.order_query.proofs.Counting.{stored_twice, words_labelled, labelled_size, labelled_rise, shows_both}
use Rattle.order_query.proofs.Puts.{both_on}
use Rattle.order_query.proofs.Writing.{label_uncounted, next_count}
use Rattle.order_query.proofs.orders.Orders.show_item.Goals as goal

pub store-requires-clause-may : goal.store-requires-clause-may
store-requires-clause-may g c = λ p.
    let k = c.requires.may.1 in
    let v = c.args.seat.now.me.0 in
    label_uncounted v.words v.log (english_word c.args.item.0) c.label.result (omega (arith, k.item_is)) p

pub store-requires-2-clause-may : goal.store-requires-2-clause-may
store-requires-2-clause-may g c = λ p.
    let k = c.requires.may.1 in
    let v = c.store.new.seat.me.0 in
    let same = ap (λ (m : Me (Unit {0}) View). length m.0.log) c.store.ensures.view in
    label_uncounted v.words v.log (hebrew_word c.args.item.0) c.label-2.result (omega (arith, k.item_is, same)) p

pub count-requires-clause-may : goal.count-requires-clause-may
count-requires-clause-may g c =
    let k = c.requires.may.1 in
    let old = c.requires.may.0 in
    let home = c.args.self.now in
    let me = c.args.seat.now.me in
    let lists = c.args.lists.now in
    let item = c.args.item.0 in
    let insert = g.N.Naming.insert in
    let a = c.label.result in
    let b = c.label-2.result in
    let n = c.from.result + 1 in
    let a_is = c.label.ensures ∙ ap (λ (l : Ordered). slice_index l.labels item) c.english.ensures.list in
    let b_is = c.label-2.ensures ∙ ap (λ (l : Ordered). slice_index l.labels item) c.hebrew.ensures.list in
    let ws = words_labelled home me lists item insert old k a b a_is b_is in
    let is : c.store-2.new.seat.me ≡ (with_words me.0 ws, []) = stored_twice me c.store.new.seat.me c.store-2.new.seat.me (english_word item) (hebrew_word
    item) a b c.store.ensures.view c.store-2.ensures.view in
    let P : Me (Unit {0}) View → Type 0 = λ m. IsPublished m.0.words m.0.log → MayWrite m.0.words m.0.log (slice_set m.0.words 1 n) (m.0.log ++ insert ∷ []) in
    let next : n ≡ length me.0.log + 2 = omega (arith, c.from.ensures, k.item_is) in
    let room : 2 * length me.0.log + 6 ≤ length ws = omega (arith, k.item_is, k.fits, k.size, labelled_size home me lists item insert old k a b a_is b_is) in
    subst P (sym is) (λ p. next_count ws me.0.log insert n next room (λ _. labelled_rise home me lists item insert old k a b a_is b_is) p)

pub returns-clause-shown : goal.returns-clause-shown
returns-clause-shown g c =
    let k = c.requires.may.1 in
    let old = c.requires.may.0 in
    let home = c.args.self.now in
    let me = c.args.seat.now.me in
    let lists = c.args.lists.now in
    let item = c.args.item.0 in
    let insert = g.N.Naming.insert in
    let a = c.label.result in
    let b = c.label-2.result in
    let n = c.from.result + 1 in
    let a_is = c.label.ensures ∙ ap (λ (l : Ordered). slice_index l.labels item) c.english.ensures.list in
    let b_is = c.label-2.ensures ∙ ap (λ (l : Ordered). slice_index l.labels item) c.hebrew.ensures.list in
    let ws = words_labelled home me lists item insert old k a b a_is b_is in
    let is : c.store-2.new.seat.me ≡ (with_words me.0 ws, []) = stored_twice me c.store.new.seat.me c.store-2.new.seat.me (english_word item) (hebrew_word
    item) a b c.store.ensures.view c.store-2.ensures.view in
    let all : c.count.new.seat.me ≡ (after_store (with_words me.0 ws) 1 n (me.0.log ++ insert ∷ []), []) = c.count.ensures.view
    ∙ ap (λ (m : Me (Unit {0}) View). (after_store m.0 1 n (m.0.log ++ insert ∷ []), [])) is in
    subst (λ (m : Me (Unit {0}) View). ShowBoth m.0.words m.0.log lists) (sym all)
    (both_on ws 1 n (me.0.log ++ insert ∷ []) lists (omega arith) (shows_both home me lists item insert old k a b a_is b_is))

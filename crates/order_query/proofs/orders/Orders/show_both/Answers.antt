use Rattle.std.proofs.Common.{◌≡◌, ℕ, ◌+◌, List, ◌∙◌, length, sym, subst, ap, arith, get_or-set_same}
use Rattle.std.specs.Prelude.{slice_index, slice_set}
use Rattle.atomic_table.specs.Table.{Me}
use Rattle.atomic_table.specs.Seated.{TableId}
use Rattle.order_list.specs.declared.place.Windows.{Windows}
use Rattle.order_list.specs.Ordered.{Ordered}
use Rattle.order_list.specs.Sides.{Lists}
use Rattle.order_list.specs.Labels.{HasMadeSpace}
use Rattle.order_query.specs.declared.view.Insert.{Insert}
use Rattle.order_query.specs.declared.view.View.{View}
use Rattle.order_query.specs.Logs.{AreRising, english_of, hebrew_of, english_word, hebrew_word}
use Rattle.order_query.specs.Reading.{Shows, ShowBoth}
use Rattle.order_query.specs.Showing.{ChangesSide, MayShow}
use Rattle.order_query.proofs.Puts.{both_on, both_shown}
use Rattle.order_query.proofs.Writing.{next_version, shown_rise}
use Rattle.order_query.proofs.orders.Orders.show_both.Goals as goal

abbrev log_in : Me (Unit {0}) View → List Insert
log_in m = m.0.log

abbrev words_in : Me (Unit {0}) View → List ℕ
words_in m = m.0.words

-- the words have the new labels of both lists while the version is still odd
shown_odd : (home : TableId) (me : Me (Unit {0}) View) (lists old : Lists) (version x y : ℕ) (w : Windows)
    (m : MayShow home me lists version w old x y) (w1 w2 w3 : List ℕ) (e h : Ordered)
    → w1 ≡ slice_set me.0.words 0 (version + 1) → e ≡ lists.english → h ≡ lists.hebrew
    → ((o : Ordered) (k : ℕ) (order : List ℕ) → HasMadeSpace o k w.english e → Shows w1 english_word order o → Shows w2 english_word order e)
    → ChangesSide w1 2 w2
    → ((o : Ordered) (k : ℕ) (order : List ℕ) → HasMadeSpace o k w.hebrew h → Shows w2 hebrew_word order o → Shows w3 hebrew_word order h) → ChangesSide w2 3 w3
    → ShowBoth w3 me.0.log lists
shown_odd home me lists old version x y w m w1 w2 w3 e h words e_is h_is english c2 hebrew c3 =
    let log = me.0.log in
    let first = subst (λ (ws : List ℕ). ShowBoth ws log old) (sym words) (both_on me.0.words 0 (version + 1) log old (omega arith) m.shown) in
    both_shown w1 w2 w3 log old lists first
    (λ s. subst (λ (l : Ordered). Shows w2 english_word (english_of log) l) e_is
    (english old.english x (english_of log) (subst (λ (l : Ordered). HasMadeSpace old.english x w.english l) (sym e_is) m.english) s)) c2
    (λ s. subst (λ (l : Ordered). Shows w3 hebrew_word (hebrew_of log) l) h_is
    (hebrew old.hebrew y (hebrew_of log) (subst (λ (l : Ordered). HasMadeSpace old.hebrew y w.hebrew l) (sym h_is) m.hebrew) s)) c3

pub store-requires-2-clause-may : goal.store-requires-2-clause-may
store-requires-2-clause-may c = λ p.
    let may = c.requires.may in
    let m = may.3 in
    let v = c.show-2.new.seat.me.0 in
    let log = ap log_in c.show-2.ensures.view ∙ ap log_in c.show.ensures.view ∙ ap log_in c.store.ensures.view in
    let zero_odd : slice_index c.store.new.seat.me.0.words 0 ≡ c.args.version + 1 = ap (λ (l : List ℕ). slice_index l 0) (ap words_in
    c.store.ensures.view) ∙ get_or-set_same c.args.seat.now.me.0.words 0 (c.args.version + 1) 0 (omega (arith, m.size, m.fits)) in
    let version : slice_index v.words 0 ≡ c.args.version + 1 = c.show-2.ensures.others.others 0 (λ y e.
    omega (arith, e)) ∙ c.show.ensures.others.others 0 (λ y e. omega (arith, e)) ∙ zero_odd in
    let rise = shown_rise v.words c.args.seat.now.me.0.log c.args.lists.now m.kept (shown_odd c.args.self.now c.args.seat.now.me c.args.lists.now may.0
    c.args.version may.1 may.2 c.args.windows may.3 c.store.new.seat.me.0.words c.show.new.seat.me.0.words v.words c.english.result.now c.hebrew.result.now
    (ap words_in c.store.ensures.view) c.english.ensures.list c.hebrew.ensures.list c.show.ensures.shown c.show.ensures.others
    c.show-2.ensures.shown c.show-2.ensures.others) in
    next_version v.words v.log (c.args.version + 2) (omega (arith, version)) (omega (arith, m.calm, ap (length {A = Insert}) log))
    (λ _. subst (AreRising v.words) (sym log) rise) p

pub returns-clause-shown : goal.returns-clause-shown
returns-clause-shown c =
    let may = c.requires.may in
    let v = c.show-2.new.seat.me.0 in
    let log = c.args.seat.now.me.0.log in
    subst (λ (ws : List ℕ). ShowBoth ws log c.args.lists.now) (sym (ap words_in c.store-2.ensures.view))
    (both_on v.words 0 (c.args.version + 2) log c.args.lists.now (omega arith)
    (shown_odd c.args.self.now c.args.seat.now.me c.args.lists.now may.0 c.args.version may.1 may.2 c.args.windows may.3 c.store.new.seat.me.0.words
    c.show.new.seat.me.0.words v.words c.english.result.now c.hebrew.result.now (ap words_in c.store.ensures.view) c.english.ensures.list
    c.hebrew.ensures.list c.show.ensures.shown c.show.ensures.others c.show-2.ensures.shown c.show-2.ensures.others))

use Rattle.std.proofs.Common.{ℕ, ◌+◌, ◌%◌, List, [], ◌∙◌, sym, subst, refl, ap, arith}
use Rattle.std.specs.Prelude.{slice_set}
use Rattle.atomic_table.specs.Table.{Me}
use Rattle.order_query.specs.declared.view.View.{View}
use Rattle.order_query.specs.Showing.{word_of, with_words}
use Rattle.order_query.proofs.Puts.{IsPutting, put_none, put_turn, put_more, put_no_end, put_all, more_words, words_now}
use Rattle.order_query.proofs.Writing.{label_while_odd}
use Rattle.order_query.proofs.orders.Orders.show_window.Goals as goal
use Rattle.order_query.proofs.orders.Orders.show_window.Goals.{in-Some, in_default}

pub loop-k-init : goal.loop-k-init
loop-k-init c = (
  refl,
  ap (λ (t : List (ℕ × Unit {0})). (c.args.seat.now.me.0, t)) c.requires.alone,
  (λ items are. put_none c.args.seat.now.me.0.words c.args.side c.args.list.now c.args.window items c.requires.kept are),
)

pub label-requires : goal.label-requires
label-requires c =
    let are = c.requires.items in
    (put_turn c.args.seat.now.me.0.words c.args.side c.args.list.now c.args.window are.0 c.requires.kept are.1 c.loop-k.seat.me.0.words c.loop-k.k c.loop-k.at
    c.loop-k-test.true (c.loop-k.invariant.2 are.0 are.1) c.in-Some.y c.in-Some.is).y_in

pub next-at-requires : goal.next-at-requires
next-at-requires c =
    let are = c.requires.items in
    (put_turn c.args.seat.now.me.0.words c.args.side c.args.list.now c.args.window are.0 c.requires.kept are.1 c.loop-k.seat.me.0.words c.loop-k.k c.loop-k.at
    c.loop-k-test.true (c.loop-k.invariant.2 are.0 are.1) c.in-Some.y c.in-Some.is).y_in

pub store-requires : goal.store-requires
store-requires c =
    let are = c.requires.items in
    let putting = c.loop-k.invariant.2 are.0 are.1 in
    let turn = put_turn c.args.seat.now.me.0.words c.args.side c.args.list.now c.args.window are.0 c.requires.kept are.1 c.loop-k.seat.me.0.words c.loop-k.k
    c.loop-k.at c.loop-k-test.true putting c.in-Some.y c.in-Some.is in
    let me = c.loop-k.invariant.1 in
    record {
      home = c.loop-k.invariant.0 ∙ c.requires.home;
      word = omega (arith, turn.y_in, c.requires.fits, c.requires.high);
      alone = ap (λ (m : Me (Unit {0}) View). m.1) me;
      writes = ap (λ (m : Me (Unit {0}) View). m.0.writes) me ∙ c.requires.writes;
      may = λ p. label_while_odd c.loop-k.seat.me.0.words c.loop-k.seat.me.0.log (word_of c.args.side c.in-Some.y.0) c.label.result
          (omega (arith, c.requires.low)) (ap (λ (n : ℕ). n % 2) putting.version ∙ c.requires.odd) p;
    }

pub loop-k-preserved : goal.loop-k-preserved
loop-k-preserved c =
    let v = c.args.seat.now.me.0 in
    let before = c.loop-k.seat.me in
    elim c.match-at.branch [
      | in-Some w ↦ rw (w.seat-is, w.at-is) (
        w.store.ensures.home ∙ c.loop-k.invariant.0,
        more_words v before w.store.new.seat.me _ c.loop-k.invariant.1 w.store.ensures.view,
        (λ items are.
            let word = word_of c.args.side w.in-Some.y.0 in
            let is = words_now before w.store.new.seat.me _ w.store.ensures.view ∙ ap (slice_set before.0.words word) w.label.ensures in
            subst (λ (ws : List ℕ). IsPutting v.words c.args.side c.args.list.now.labels items ws (c.loop-k.k + 1) w.next-at.result) (sym is)
            (put_more v.words c.args.side c.args.list.now c.args.window items c.requires.kept are before.0.words c.loop-k.k c.loop-k.at c.loop-k-test.true
            (c.loop-k.invariant.2 items are) w.in-Some.y w.next-at.result w.in-Some.is c.requires.low w.next-at.ensures)),
      )
      | in_default w ↦ absurd (
          let are = c.requires.items in
          put_no_end v.words c.args.side c.args.list.now c.args.window are.0 c.requires.kept are.1 before.0.words c.loop-k.k c.loop-k.at c.loop-k-test.true
          (c.loop-k.invariant.2 are.0 are.1) w.in_default.is)
    ]

pub returns : goal.returns
returns c =
    let v = c.args.seat.now.me.0 in
    record {
      home = c.loop-k.invariant.0;
      view = λ items are.
          c.loop-k.invariant.1
          ∙ ap (λ (ws : List ℕ). (with_words v ws, [])) (put_all v.words c.args.side c.args.list.now c.args.window items c.requires.kept are
          c.loop-k.seat.me.0.words c.loop-k.k c.loop-k.at c.loop-k-test.false (c.loop-k.invariant.2 items are));
    }

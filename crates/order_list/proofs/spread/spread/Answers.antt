use Rattle.std.proofs.Common.{ℕ, subst, arith, Option}
use Rattle.order_list.proofs.Spreading.{IsSpreading, turn, no_end, spread_none, spread_all}
use Rattle.order_list.proofs.spread.spread.Goals as goal
use Rattle.order_list.proofs.spread.spread.Goals.{in-Some, in_default}

pub loop-k-init : goal.loop-k-init
loop-k-init c = λ items rest r. spread_none c.args.labels.now c.args.nexts.now c.args.window items rest r

pub bounds-labels-x : goal.bounds-labels-x
bounds-labels-x c =
    let way = c.requires.route in
    let old = c.args.labels.now in
    let P : Option ℕ → Type 0 = λ o. IsSpreading old c.args.nexts.now c.args.window way.0 way.1 c.loop-k.labels c.loop-k.k c.loop-k.label o in
    let t = turn old c.args.nexts.now c.args.window way.0 way.1 c.loop-k.labels c.loop-k.k c.loop-k.label c.in-Some.x way.2 c.loop-k-test.true
    (subst P c.in-Some.is (c.loop-k.invariant way.0 way.1 way.2)) in
    omega (arith, t.in_nexts, way.2.same_count, c.loop-k.auto.labels)

pub bounds-nexts-x : goal.bounds-nexts-x
bounds-nexts-x c =
    let way = c.requires.route in
    let old = c.args.labels.now in
    let P : Option ℕ → Type 0 = λ o. IsSpreading old c.args.nexts.now c.args.window way.0 way.1 c.loop-k.labels c.loop-k.k c.loop-k.label o in
    let t = turn old c.args.nexts.now c.args.window way.0 way.1 c.loop-k.labels c.loop-k.k c.loop-k.label c.in-Some.x way.2 c.loop-k-test.true
    (subst P c.in-Some.is (c.loop-k.invariant way.0 way.1 way.2)) in
    t.in_nexts

pub overflow_add-label : goal.overflow_add-label
overflow_add-label c =
    let way = c.requires.route in
    let old = c.args.labels.now in
    let P : Option ℕ → Type 0 = λ o. IsSpreading old c.args.nexts.now c.args.window way.0 way.1 c.loop-k.labels c.loop-k.k c.loop-k.label o in
    let t = turn old c.args.nexts.now c.args.window way.0 way.1 c.loop-k.labels c.loop-k.k c.loop-k.label c.in-Some.x way.2 c.loop-k-test.true
    (subst P c.in-Some.is (c.loop-k.invariant way.0 way.1 way.2)) in
    omega (arith, t.fits)

pub loop-k-preserved : goal.loop-k-preserved
loop-k-preserved c = λ items rest r.
    let old = c.args.labels.now in
    let P : Option ℕ → Type 0 = λ o. IsSpreading old c.args.nexts.now c.args.window items rest c.loop-k.labels c.loop-k.k c.loop-k.label o in
    elim c.match-at.branch [
      | in-Some w ↦ rw (w.labels-is, w.at-is, w.label-is) (turn old c.args.nexts.now c.args.window items rest c.loop-k.labels c.loop-k.k c.loop-k.label
          w.in-Some.x r c.loop-k-test.true (subst P w.in-Some.is (c.loop-k.invariant items rest r))).after
      | in_default w ↦ absurd (no_end old c.args.nexts.now c.args.window items rest c.loop-k.labels c.loop-k.k c.loop-k.label c.loop-k-test.true
          (subst P w.in_default.is (c.loop-k.invariant items rest r)))
    ]

pub returns : goal.returns
returns c = λ items rest r. spread_all c.args.labels.now c.args.nexts.now c.args.window items rest c.loop-k.labels c.loop-k.k c.loop-k.label c.loop-k.at
    c.loop-k-test.false (c.loop-k.invariant items rest r)

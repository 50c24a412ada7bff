use Rattle.std.proofs.Common.{◌≡◌, ℕ, ◌<◌, ◌∙◌, length, sym, subst, ap, arith}
use Rattle.order_list.specs.Spans.{IsStretch}
use Rattle.order_list.proofs.Spans.{gone_none, met, met_below, gone_more, gone_out, gone_all, leads_one}
use Rattle.order_list.proofs.span.go_along.Goals as goal

pub loop-k-init : goal.loop-k-init
loop-k-init c = λ xs l. gone_none c.args.labels.now c.args.links.now c.args.low c.args.high c.args.from xs c.args.at l

pub between-requires : goal.between-requires
between-requires c = λ x is.
    let way = c.requires.way in
    let gone = c.loop-k.invariant way.0 way.1.leads in
    let below : x < length c.args.links.now = met_below c.args.labels.now c.args.links.now c.args.low c.args.high c.args.from way.0 c.loop-k.k c.loop-k.last x
    c.loop-k.stop gone is (length c.args.links.now) way.1.below in
    omega (arith, below, way.1.same_count)

pub bounds-links-x : goal.bounds-links-x
bounds-links-x c =
    let way = c.requires.way in
    let gone = c.loop-k.invariant way.0 way.1.leads in
    let m = met c.args.labels.now c.args.low c.args.high c.in-Some.x c.loop-k.stop (sym c.between.ensures ∙ c.in-Some.is) in
    met_below c.args.labels.now c.args.links.now c.args.low c.args.high c.args.from way.0 c.loop-k.k c.loop-k.last c.in-Some.x c.loop-k.stop gone m.is
    (length c.args.links.now) way.1.below

pub loop-k-preserved : goal.loop-k-preserved
loop-k-preserved c = λ xs l.
    let m = met c.args.labels.now c.args.low c.args.high c.in-Some.x c.loop-k.stop (sym c.between.ensures ∙ c.in-Some.is) in
    gone_more c.args.labels.now c.args.links.now c.args.low c.args.high c.args.from xs c.loop-k.k c.loop-k.last c.in-Some.x c.loop-k.stop
    (c.loop-k.invariant xs l) m.is m.above m.below

pub returns-in-None : goal.returns-in-None
returns-in-None c = λ xs l.
    gone_out c.args.labels.now c.args.links.now c.args.low c.args.high c.args.from xs c.loop-k.k c.loop-k.last c.loop-k.stop (c.loop-k.invariant xs l)
    (sym c.between.ensures ∙ c.in-None.is)

pub returns : goal.returns
returns c = λ xs l.
    let way = c.requires.way in
    let same : length way.0 ≡ length xs = ap (length {A = ℕ}) (leads_one c.args.links.now c.args.at way.0 xs way.1.leads l) in
    let k_is : c.loop-k.k ≡ length c.args.links.now = omega (arith, c.loop-k-test.false, c.loop-k.auto.k-end) in
    subst (λ k. IsStretch c.args.labels.now c.args.links.now c.args.low c.args.high c.args.from xs
    (record { last = c.loop-k.last; items = k; stop = c.loop-k.stop })) k_is
    (gone_all c.args.labels.now c.args.links.now c.args.low c.args.high c.args.from xs c.loop-k.k c.loop-k.last c.loop-k.stop (c.loop-k.invariant xs l)
    (omega (arith, same, way.1.short, k_is)))

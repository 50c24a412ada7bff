use Rattle.std.proofs.Common.{◌+◌, ◌-◌, ◌/◌, arith, refl, inl, inr}
use Rattle.std.proofs.lemmas.Result.{err_from_is_err_and}
use Rattle.order_list.proofs.Frames.{asked_again}
use Rattle.reach_table.proofs.Reaching.{moved_on}
use Rattle.access_shards.proofs.Spans.{some_bits, halved, looks_at}
use Rattle.access_shards.proofs.run.find_end.Goals as goal

pub returns-in_err-span-clause-moved : goal.returns-in_err-span-clause-moved
returns-in_err-span-clause-moved g c =
    let p = err_from_is_err_and c.from_residual.result c.from_residual.ensures.1 in
    rw (p.1, p.2) (moved_on g.J.Judge _ c.loop-span.invariant.judge c.in_err-span.ensures.moved)

pub returns-in_err-span-clause-halves : goal.returns-in_err-span-clause-halves
returns-in_err-span-clause-halves g c = λ bits lt.
    let k = c.loop-span.invariant.halves bits lt in
    let some = some_bits c.loop-span.span.low c.loop-span.span.high k.0 c.loop-span-test.true k.1 in
    omega (arith, some, k.2, c.look_at.ensures.asks)

pub loop-span-preserved : goal.loop-span-preserved
loop-span-preserved g c =
    let i = c.loop-span.invariant in
    let e = c.look_at.ensures in
    let low = c.loop-span.span.low in
    let high = c.loop-span.span.high in
    let middle = low + (high - low) / 2 in
    let next = c.in_ok-span.span in
    let looks = looks_at (g.J.Judge.english c.args.judge.now) (g.J.Judge.hebrew c.args.judge.now) _ _ c.args.at c.args.listed c.args.readers.now
    c.args.row.now c.loop-span.span middle next i.judge.english i.judge.hebrew c.in_ok-span.ensures.looks in
    let n = looks.narrower in
    record {
      span = record { bounds = n.bounds; is = λ may. looks.is may (i.span.is may) };
      from = elim n.sides [ inl s ↦ omega (arith, s.0, i.from) | inr s ↦ omega (arith, s.0, i.from) ];
      to = elim n.sides [ inl s ↦ omega (arith, s.1, i.to, c.loop-span-test.true) | inr s ↦ omega (arith, s.1, i.to) ];
      counts = omega (arith, n.counts, i.counts, e.asks);
      asks = elim n.sides [
        | inl s ↦ omega (arith, s.0, s.1, i.asks, e.asks, c.loop-span-test.true)
        | inr s ↦ omega (arith, s.0, s.1, i.asks, e.asks)
      ];
      halves = λ bits lt. (
          let k = i.halves bits lt in
          let h = halved low high middle next.low next.high k.0 c.loop-span-test.true refl k.1 n.sides in
          (h.0, h.2, omega (arith, h.1, k.2, e.asks)));
      judge = asked_again g.J.Judge i.judge e.judge;
    }

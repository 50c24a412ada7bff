use Rattle.std.proofs.Common.{◌≡◌, ℕ, ◌+◌, ◌-◌, ◌%◌, ◌/◌, ◌^◌, ◌≤◌, length, Some, sym, ap, subst, arith, ◌∙◌}
use Rattle.std.specs.Prelude.{slice_index}
use Rattle.order_list.specs.Chain.{walk}
use Rattle.order_list.specs.declared.place.Window.{Window}
use Rattle.order_list.specs.Spans.{IsWithinSpan, IsSpan, IsFound}
use Rattle.order_list.proofs.Sparse.{HasSought, sought_none, sought_within, sought_more, sought_all, least_sparse, found_is, found_window, sparse_is}
use Rattle.order_list.proofs.Sparse.{not_sparse, fits}
use Rattle.order_list.proofs.window.window.Goals as goal

pub overflow_add-base : goal.overflow_add-base
overflow_add-base c =
    let label = slice_index c.args.labels.now c.args.x in
    let most = fits c.args.labels.now c.args.nexts.now c.args.prevs.now _ c.args.x c.loop-i.i c.requires.kept c.requires.x_in
    (omega (arith, c.loop-i-test.true)) in
    let P : ℕ → Type 0 = λ p. label - label % p + p ≤ 2 ^ 62 in
    let most' : label - label % c.pow-size.result + c.pow-size.result ≤ 2 ^ 62 = subst P (sym c.pow-size.ensures) most in
    omega (arith, most')

pub widened-span-requires-clause-span : goal.widened-span-requires-clause-span
widened-span-requires-clause-span c =
    let label = slice_index c.args.labels.now c.args.x in
    let order = walk c.args.nexts.now (length c.args.nexts.now) (Some 0) in
    let base : ℕ → ℕ = λ p. label - label % p in
    let P : ℕ → Type 0 = λ p. IsWithinSpan c.args.labels.now c.args.nexts.now c.args.prevs.now order (base p) (base p + p) c.loop-i.span in
    let within = sought_within c.args.labels.now c.args.nexts.now c.args.prevs.now order c.args.x c.loop-i.i c.loop-i.span c.loop-i.invariant in
    subst P (sym c.pow-size.ensures) within

found : (c : goal.After-from)
    → IsFound c.args.labels.now c.args.nexts.now c.args.prevs.now (walk c.args.nexts.now (length c.args.nexts.now) (Some 0)) c.args.x
    (record {
      first = record { 0 = c.widened-span.result.first };
      items = c.widened-span.result.items;
      base = slice_index c.args.labels.now c.args.x - slice_index c.args.labels.now c.args.x % c.pow-size.result;
      gap = c.pow-size.result / c.from.result;
    })
found c =
    let label = slice_index c.args.labels.now c.args.x in
    let order = walk c.args.nexts.now (length c.args.nexts.now) (Some 0) in
    let s = c.widened-span.result in
    let i = c.loop-i.i in
    let P : ℕ → Type 0 = λ p. IsSpan c.args.labels.now c.args.nexts.now c.args.prevs.now order (label - label % p) (label - label % p + p) s in
    let span = subst P c.pow-size.ensures c.widened-span.ensures in
    let sparse = sparse_is i s.items c.is_sparse.result c.is_sparse.ensures c.if-is_sparse.true in
    let least = least_sparse c.args.labels.now c.args.nexts.now c.args.prevs.now order c.args.x i c.loop-i.span s c.loop-i.auto.i (omega (
      arith,
      c.loop-i-test.true,
    )) c.loop-i.invariant span sparse in
    let made : ℕ → ℕ → Window = λ p n. record { first = record { 0 = s.first }; items = s.items; base = label - label % p; gap = p / n } in
    found_is c.args.labels.now c.args.nexts.now c.args.prevs.now order c.args.x i s (made c.pow-size.result c.from.result) least span
    (ap (λ p. made p c.from.result) c.pow-size.ensures ∙ ap (λ n. made (2 ^ i) n) c.from.ensures)

pub returns-then-is_sparse-clause-window : goal.returns-then-is_sparse-clause-window
returns-then-is_sparse-clause-window c = found_window c.args.labels.now c.args.nexts.now c.args.prevs.now _ c.args.x _ (found c)

pub returns-then-is_sparse-clause-found : goal.returns-then-is_sparse-clause-found
returns-then-is_sparse-clause-found c = found c

pub loop-i-preserved : goal.loop-i-preserved
loop-i-preserved c =
    let label = slice_index c.args.labels.now c.args.x in
    let order = walk c.args.nexts.now (length c.args.nexts.now) (Some 0) in
    let s = c.widened-span.result in
    let i = c.loop-i.i in
    let P : ℕ → Type 0 = λ p. IsSpan c.args.labels.now c.args.nexts.now c.args.prevs.now order (label - label % p) (label - label % p + p) s in
    let span = subst P c.pow-size.ensures c.widened-span.ensures in
    sought_more c.args.labels.now c.args.nexts.now c.args.prevs.now order c.args.x i c.loop-i.span s c.loop-i.invariant span
    (not_sparse i s.items c.is_sparse.result c.is_sparse.ensures c.if-is_sparse.false)

pub loop-i-init : goal.loop-i-init
loop-i-init c = sought_none c.args.labels.now c.args.nexts.now c.args.prevs.now _ c.args.x c.requires.kept c.requires.x_in

pub unreachable-requires : goal.unreachable-requires
unreachable-requires c =
    let order = walk c.args.nexts.now (length c.args.nexts.now) (Some 0) in
    let i_is : c.loop-i.i ≡ 63 = omega (arith, c.loop-i-test.false, c.loop-i.auto.i-end) in
    let P : ℕ → Type 0 = λ i. HasSought c.args.labels.now c.args.nexts.now c.args.prevs.now order c.args.x i c.loop-i.span in
    sought_all c.args.labels.now c.args.nexts.now c.args.prevs.now order c.args.x c.loop-i.span (omega (arith, c.requires.kept.count, c.requires.few))
    (subst P i_is c.loop-i.invariant)

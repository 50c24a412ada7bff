use Rattle.std.proofs.Common.{ℕ, ◌≡◌, ◌+◌, ◌*◌, ◌^◌, ◌<◌, ◌≤◌, List, [], ◌∷◌, ◌++◌, length, replicate, refl, ap, sym, ◌∙◌, subst, arith}
use Rattle.std.specs.Prelude.{slice_get, Some, ℤ, pos}
use Rattle.std.proofs.lemmas.List.{length-append, length-replicate}
use Rattle.run_shard.proofs.Fresh.{AllNew, none_new, one_new, all_same, new_shard}
use Rattle.run_shard.proofs.shard.Shard.make.Goals as goal

pub loop-cell-init : goal.loop-cell-init
loop-cell-init g c = (ap (λ l. length l) c.new-logs.ensures.items, subst AllNew (sym c.new-logs.ensures.items) none_new)

pub loop-cell-preserved : goal.loop-cell-preserved
loop-cell-preserved g c =
    let before = c.loop-cell.logs.items in
    let items : c.push.new.self.items ≡ before ++ c.make.result ∷ [] = c.in_ok-push.ensures.items in (
      ap (λ l. length l) items ∙ (length-append before (c.make.result ∷ []) ∙ ap (λ n. n + 1) c.loop-cell.invariant.0),
      subst AllNew (sym items) (one_new before c.make.result c.loop-cell.invariant.1 c.make.ensures.new c.make.ensures.log),
    )

pub invariant_of-result : goal.invariant_of-result
invariant_of-result g c =
    let code = g.J.Run.code in
    let i = g.row.I in
    let n = c.share_of-count.result in
    let values = c.in_ok-values.values.items in
    let logs = c.loop-cell.logs.items in
    let all : values ≡ replicate n (pos 0) = c.in_ok-values.ensures.items_if_clones_equal (λ y h. h) in
    let many : length values ≡ n = ap (λ l. length l) all ∙ length-replicate n (pos 0) in
    let made = c.loop-cell.invariant.0 in
    let low = c.loop-cell-test.false in
    let high = c.loop-cell.auto._cell-end in
    let share = c.share_of-count.ensures in
    let least = share.0 in
    let most = share.1 in
    let same : c.args.cells ≡ code.cells = c.requires.cells.0 in
    let size : (length logs ≡ length values) × (code.cells ≤ 8 * length values + i) × (8 * length values + i < code.cells + 8) =
    (omega (arith, many, made, low, high), omega (arith, many, least, same), omega (arith, many, most, same)) in
    new_shard g.J.Run.clock g.J.Run.orders code i c.args.holder c.args.reader values logs
    (subst (λ m. m < 2 ^ 32) same c.ranges.cells.fits, c.requires.cells.1) c.requires.holder c.requires.reader size
    (λ k v at. all_same n (pos 0) k v (subst (λ l. slice_get l k ≡ Some v) all at)) c.loop-cell.invariant.1

pub returns-clause-new : goal.returns-clause-new
returns-clause-new g c =
    let n = c.share_of-count.result in
    let all : c.in_ok-values.values.items ≡ replicate n (pos 0) = c.in_ok-values.ensures.items_if_clones_equal (λ y h. h) in
    record {
      made = c.requires.holder.none.0;
      values = λ k v at. all_same n (pos 0) k v (subst (λ l. slice_get l k ≡ Some v) all at);
      logs = λ k log at. (c.loop-cell.invariant.1 k log at).0;
    }

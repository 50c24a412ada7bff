use Rattle.std.proofs.Common.{◌<◌, length, refl, ap, ◌∙◌, arith}
use Rattle.steal_pool.proofs.Gathering.{none_gathered, is_returned_at, row_back_at, all_gathered}
use Rattle.steal_pool.proofs.gather.gather.Goals as goal

pub loop-w-init : goal.loop-w-init
loop-w-init g c = none_gathered c.args.workers.now c.requires

pub absorb_row-requires : goal.absorb_row-requires
absorb_row-requires g c =
    let l : c.loop-w.w < length c.loop-w.workers = omega (arith, c.loop-w-test.true, c.loop-w.invariant.count) in
    is_returned_at c.args.workers.now c.loop-w.workers c.loop-w.w c.index-workers-w.result _ c.replace-row.result.items l c.loop-w.invariant refl
    (ap (λ v. v.items) c.replace-row.ensures.value)

pub loop-w-preserved : goal.loop-w-preserved
loop-w-preserved g c =
    let l : c.loop-w.w < length c.loop-w.workers = omega (arith, c.loop-w-test.true, c.loop-w.invariant.count) in
    row_back_at c.args.workers.now c.loop-w.workers c.absorb_row.new.workers c.loop-w.w c.index-workers-w.result _ c.replace-row.result.items l
    c.loop-w.invariant
    (ap (λ v. v.items) c.replace-row.ensures.after ∙ c.new.ensures.items) refl refl refl refl refl refl refl
    (ap (λ v. v.items) c.replace-row.ensures.value) c.absorb_row.ensures

pub returns : goal.returns
returns g c =
    let n = c.loop-w.invariant.count in
    all_gathered c.args.workers.now c.loop-w.workers c.loop-w.w (omega arith) (omega arith) c.loop-w.invariant

use Rattle.std.proofs.Common.{◌<◌, ◌⊎◌, [], length, refl, sym, ◌∙◌, subst, arith}
use Rattle.std.proofs.lemmas.List.{length-set}
use Rattle.steal_pool.specs.declared.worker.Worker.{Worker}
use Rattle.steal_pool.specs.Workers.{Worked, LeavesOnlyIfStopped, IsStopped, HasNothingLeft}
use Rattle.steal_pool.proofs.Working.{no_turn}
use Rattle.steal_pool.proofs.Enrolling.{done_more, rest_more, done_or_same}
use Rattle.steal_pool.proofs.Accounts.{over_of}
use Rattle.steal_pool.proofs.pool.turn_rest.Goals as goal

pub loop-k-init : goal.loop-k-init
loop-k-init g c = record { count = refl; done = λ i d l. absurd (omega arith); rest = λ i d l. refl }

pub returns-then-has_stopped-clause-worked : goal.returns-then-has_stopped-clause-worked
returns-then-has_stopped-clause-worked g c =
    let inv = c.loop-k.invariant in
    let turned = g.B.Body.turned c.args.body.now in (
      inv.count,
      done_or_same (λ a b. Worked turned a [] b []) c.args.workers.now c.loop-k.workers c.loop-k.k (no_turn turned) inv.rest (λ i d b l. (inv.done i d b l).0),
    )

pub turn_own-requires : goal.turn_own-requires
turn_own-requires g c =
    let k = c.loop-k.k in
    let d = c.index-workers-k.result in
    let l : k < length c.args.workers.now = omega (arith, c.loop-k-test.true, c.loop-k.invariant.count) in
    subst LeavesOnlyIfStopped (sym (c.loop-k.invariant.rest k d (omega arith))) (c.requires k d l)

pub loop-k-preserved : goal.loop-k-preserved
loop-k-preserved g c =
    let ms = c.loop-k.workers in
    let k = c.loop-k.k in
    let m = c.turn_own.new.worker in
    let e = c.index-workers-k.result in
    let l : k < length ms = omega (arith, c.loop-k-test.true, c.loop-k.invariant.count) in
    let R : Worker g.row.J.Denot g.row.W.Denot → Worker g.row.J.Denot g.row.W.Denot → Type 0 =
    λ a b. Worked (g.B.Body.turned c.args.body.now) a [] b [] × (IsStopped b ⊎ HasNothingLeft b) in
    record {
      count = length-set ms k m ∙ c.loop-k.invariant.count;
      done = done_more R c.args.workers.now ms k e m l (c.turn_own.ensures.worked, c.turn_own.ensures.end) c.loop-k.invariant.rest c.loop-k.invariant.done;
      rest = rest_more c.args.workers.now ms k m c.loop-k.invariant.rest;
    }

pub returns-clause-worked : goal.returns-clause-worked
returns-clause-worked g c = (c.loop-k.invariant.count, λ i d l. (c.loop-k.invariant.done i d (let n = c.loop-k.invariant.count in omega arith) l).0)

pub returns-clause-over : goal.returns-clause-over
returns-clause-over g c = over_of c.loop-k.workers (λ i d l. let n = c.loop-k.invariant.count in (c.loop-k.invariant.done i d (omega arith) (omega arith)).1)

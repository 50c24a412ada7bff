use Rattle.std.proofs.Common.{◌≡◌, [], inl, sym, ◌∙◌, subst}
use Rattle.steal_pool.specs.AllWorkers.{AllMoved}
use Rattle.steal_pool.proofs.Enrolling.{no_group}
use Rattle.steal_pool.proofs.Accounts.{nothing_left}
use Rattle.steal_pool.proofs.gather.left_jobs.Goals as goal

pub returns-then-not-has_halted : goal.returns-then-not-has_halted
returns-then-not-has_halted g c =
    let ms = c.args.workers.now in
    let none : c.make-jobs.result.items ≡ [] = λ i. (c.make-jobs.ensures i).items in (
      subst (λ xs. AllMoved ms [] ms xs) (sym none) (no_group ms []),
      nothing_left ms (sym c.has_halted.ensures ∙ c.if-not-has_halted.true) (sym c.has_refused.ensures ∙ c.if-has_refused.false) c.requires,
      inl none,
    )

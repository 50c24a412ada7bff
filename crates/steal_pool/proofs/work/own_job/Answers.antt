use Rattle.std.proofs.Common.{refl, sym, ◌∙◌}
use Rattle.steal_pool.proofs.Shifting.{popped}
use Rattle.steal_pool.proofs.Working.{took, was_empty}
use Rattle.steal_pool.proofs.work.own_job.Goals as goal

pub returns-clause-moved : goal.returns-clause-moved
returns-clause-moved g c =
    took c.args.worker.now _ _ refl refl refl (c.take.ensures.after ∙ sym c.in_default.is ∙ c.take.ensures.value) refl
    (popped c.args.worker.now.thief c.pop.new.self c.args.worker.now.thief.own.found_empty c.pop.new.self.own.found_empty c.pop.result c.pop.ensures.victims
    c.pop.ensures.same c.pop.ensures.rule)

pub returns-clause-none : goal.returns-clause-none
returns-clause-none g c = λ e. was_empty _ _ c.args.worker.now.thief.own.found_empty c.pop.new.self.own.found_empty c.pop.result e c.pop.ensures.rule

use Rattle.std.proofs.Common.{refl, sym, ◌∙◌}
use Rattle.steal_pool.proofs.Shifting.{popped}
use Rattle.steal_pool.proofs.Working.{took}
use Rattle.steal_pool.proofs.gather.take_job.Goals as goal

pub returns-clause-moved : goal.returns-clause-moved
returns-clause-moved g c =
    took c.args.worker.now _ _ refl refl refl (c.take.ensures.after ∙ sym c.in_default.is ∙ c.take.ensures.value) (sym c.in_default-pop.ensures.items)
    (popped c.args.worker.now.thief c.pop-2.new.self c.args.worker.now.thief.own.found_empty c.pop-2.new.self.own.found_empty c.pop-2.result
    c.pop-2.ensures.victims c.pop-2.ensures.same c.pop-2.ensures.rule)

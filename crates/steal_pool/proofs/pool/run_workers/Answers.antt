use Rattle.steal_pool.proofs.pool.run_workers.Goals as goal

pub returns-clause-worked : goal.returns-clause-worked
returns-clause-worked g c = (c.for_each_mut.auto.s, λ i d l. let k = (c.for_each_mut.ensures i d l).1 in rw (← k.argument_is, ← k.left) k.call.0)

pub returns-clause-pushed : goal.returns-clause-pushed
returns-clause-pushed g c = λ i d l. let k = (c.for_each_mut.ensures i d (rw (← c.for_each_mut.auto.s) l)).1 in rw (← k.left) k.call.1

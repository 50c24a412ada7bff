use Rattle.strand_tree.proofs.Belonging.{kid_of_spawn, cont_of_spawn}
use Rattle.strand_tree.proofs.placing.spawn.Goals as goal

pub returns-clause-belong : goal.returns-clause-belong
returns-clause-belong g c = λ s task code child args.
    let made = c.fork.result in
    let futures = c.fork.ensures.futures in (
      kid_of_spawn s task code child made.1.number args c.args.at made.0 futures.0,
      cont_of_spawn s task code child made.0.number
          args c.args.at made.1 futures.1,
    )

use Rattle.strand_tree.proofs.Belonging.{of_sync}
use Rattle.strand_tree.proofs.placing.sync.Goals as goal

pub returns-clause-belongs : goal.returns-clause-belongs
returns-clause-belongs g c = λ s task. of_sync s task c.args.at c.join.result c.join.ensures.future

use Rattle.strand_tree.proofs.Belonging.{of_get}
use Rattle.strand_tree.proofs.placing.get.Goals as goal

pub returns-clause-belongs : goal.returns-clause-belongs
returns-clause-belongs g c = λ s task future value. of_get s task future value c.args.at c.join.result c.join.ensures.future

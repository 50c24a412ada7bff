use Rattle.fut_syntax.proofs.OneTree.{program_once}
use Rattle.fut_syntax.proofs.laws.one_tree.Goals as goal

pub returns : goal.returns
returns c = program_once

use Rattle.fut_syntax.proofs.Made.{if_tree}
use Rattle.fut_syntax.proofs.stmts.branch.Goals as goal

pub returns : goal.returns
returns c = if_tree c.args.test c.args.then c.args.other

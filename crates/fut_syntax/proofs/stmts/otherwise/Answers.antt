use Rattle.fut_syntax.proofs.Made.{else_tree}
use Rattle.fut_syntax.proofs.stmts.otherwise.Goals as goal

pub returns : goal.returns
returns c = else_tree c.args.other

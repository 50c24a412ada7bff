use Rattle.fut_syntax.proofs.Made.{while_tree}
use Rattle.fut_syntax.proofs.stmts.repeat.Goals as goal

pub returns : goal.returns
returns c = while_tree c.args.test c.args.body

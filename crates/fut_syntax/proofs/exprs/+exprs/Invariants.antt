use Rattle.std.proofs.Common.{◌+◌, ◌-◌, ◌*◌}
use Rattle.fut_syntax.proofs.exprs.+exprs.Given as goal

abbrev pub decreases-expr : goal.decreases-expr
decreases-expr l = (64 - l.depth) * 3 + 2

abbrev pub decreases-operand : goal.decreases-operand
decreases-operand l = (64 - l.depth) * 3 + 1

abbrev pub decreases-primary : goal.decreases-primary
decreases-primary l = (64 - l.depth) * 3

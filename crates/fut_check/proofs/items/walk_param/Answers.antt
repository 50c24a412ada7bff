use Rattle.std.proofs.Common.{arith}
use Rattle.fut_syntax.specs.Views.{param_tree, items_tree}
use Rattle.fut_rules.proofs.Least.{walked_both, walked_past, past_walked, walked_as}
use Rattle.fut_check.proofs.Statements.{param_faults_are}
use Rattle.fut_check.proofs.items.walk_param.Goals as goal

pub returns : goal.returns
returns c =
    walked_as (walked_past (walked_both c.note_param.ensures (past_walked c.skip.ensures c.walk_type.ensures)) c.skip-2.ensures) (omega arith)
    (param_faults_are (items_tree c.args.items.now) c.args.scope.now.declared c.args.search.now.at _
    (param_tree c.args.param.now) _ _ c.as_slice.ensures c.kind_of.ensures (omega arith))

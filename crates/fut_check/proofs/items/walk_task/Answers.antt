use Rattle.std.proofs.Common.{arith}
use Rattle.fut_syntax.specs.Views.{block_tree, params_tree, items_tree}
use Rattle.fut_rules.proofs.Least.{walked_both, walked_as}
use Rattle.fut_check.proofs.Statements.{task_faults_are}
use Rattle.fut_check.proofs.items.walk_task.Goals as goal

pub returns : goal.returns
returns c =
    walked_as (walked_both c.in_ok-scope.ensures.walked c.in_ok-walk_body.ensures) (omega arith)
    (task_faults_are (items_tree c.args.items.now) (items_tree c.args.before.now) c.args.search.now.at c.args.word.now
    (params_tree c.args.params.now) c.args.depth (block_tree c.args.body.now)
    _ _ (omega (arith, c.in_ok-scope.ensures.walked.at)) c.in_ok-scope.ensures.scope_is)

use Rattle.std.proofs.Common.{arith}
use Rattle.fut_syntax.specs.Views.{block_tree, items_tree}
use Rattle.fut_rules.proofs.Least.{walked_both, walked_past, walked_as}
use Rattle.fut_check.proofs.Statements.{body_faults_are}
use Rattle.fut_check.proofs.items.walk_body.Goals as goal

pub returns : goal.returns
returns c =
    walked_as (walked_past (walked_both c.in_ok-walk_block.ensures.walked c.note_if.ensures) c.skip.ensures) (omega arith)
    (body_faults_are (items_tree c.args.items.now) c.args.scope.now c.args.search.now.at _ _
    (block_tree c.args.body.now) _ c.returns-depth.ensures c.lacks_return.ensures (omega (arith, c.in_ok-walk_block.ensures.walked.at)))

use Rattle.std.proofs.Common.{arith}
use Rattle.fut_syntax.specs.Views.{init_tree, items_tree}
use Rattle.fut_rules.proofs.Least.{walked_both, walked_past, past_walked, walked_as}
use Rattle.fut_check.proofs.Statements.{assign_faults}
use Rattle.fut_check.proofs.stmts.walk_assign.Goals as goal

pub returns : goal.returns
returns c =
    walked_as (walked_past (walked_both c.note_assigned.ensures (past_walked c.skip.ensures c.walk_init.ensures)) c.skip-2.ensures) (omega arith)
    (assign_faults (items_tree c.args.items.now) c.args.scope.now c.args.search.now.at c.args.word.now (init_tree c.args.value.now) _ _ _ c.visible.ensures
    (omega arith) c.variable_need.ensures)

use Rattle.std.proofs.Common.{arith}
use Rattle.fut_syntax.specs.Views.{expr_tree, items_tree}
use Rattle.fut_rules.proofs.Least.{walked_both, walked_past, past_walked, walked_as}
use Rattle.fut_check.proofs.Statements.{store_faults}
use Rattle.fut_check.proofs.stmts.walk_store.Goals as goal

pub returns : goal.returns
returns c =
    walked_as
    (walked_past
    (walked_both (walked_both c.note_element.ensures (past_walked c.skip.ensures c.walk_needed.ensures)) (past_walked c.skip-2.ensures c.walk_needed-2.ensures))
    c.skip-3.ensures)
    (omega arith)
    (store_faults (items_tree c.args.items.now) c.args.scope.now c.args.search.now.at c.args.word.now (expr_tree c.args.index.now) (expr_tree c.args.value.now)
    _ _ _ _ _ _ c.visible.ensures c.visible-2.ensures c.visible-3.ensures (omega arith) (omega arith) c.element_need.ensures)

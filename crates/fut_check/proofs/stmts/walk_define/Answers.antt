use Rattle.std.proofs.Common.{arith}
use Rattle.fut_syntax.specs.Views.{type_tree, init_tree, items_tree}
use Rattle.fut_rules.proofs.Least.{walked_both, walked_past, past_walked, walked_as}
use Rattle.fut_check.proofs.Statements.{define_faults}
use Rattle.fut_check.proofs.stmts.walk_define.Goals as goal

pub returns : goal.returns
returns c =
    walked_as
    (walked_past
    (walked_both
    (walked_both (past_walked c.skip.ensures c.note_declared.ensures) (past_walked c.skip-2.ensures c.walk_type.ensures))
    (past_walked c.skip-3.ensures c.walk_init.ensures))
    c.skip-4.ensures)
    (omega arith)
    (define_faults (items_tree c.args.items.now) c.args.scope.now c.args.search.now.at c.args.word.now (type_tree c.args.written.now)
    (init_tree c.args.value.now)
    _ _ _ _ _ _ c.kind_of-kind.ensures c.visible.ensures (omega arith) (omega arith) (omega arith) c.init_need.ensures)

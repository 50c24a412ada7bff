use Rattle.std.proofs.Common.{◌≡◌, ◌+◌, ap, sym, ◌∙◌, subst}
use Rattle.std.specs.Prelude.{OnOk}
use Rattle.std.proofs.lemmas.Result.{on_ok_weaker}
use Rattle.fut_syntax.specs.declared.tree.Stmt.{If, While}
use Rattle.fut_syntax.specs.declared.tree.Tail.{Else}
use Rattle.fut_syntax.specs.Trees as tree
use Rattle.fut_syntax.specs.Views.{expr_tree, stmt_tree, block_tree, tail_tree}
use Rattle.fut_syntax.proofs.Made.{if_tree, while_tree, else_tree}
use Rattle.task_frame.specs.Gathered.{HasStmt, HasBlock, HasTail, Widens, words_of_stmt, words_of_block, words_of_tail}
use Rattle.task_frame.proofs.Gathering.{both, widens_on, block_stays, block_step}
use Rattle.task_frame.proofs.names.+names.Goals as goal

pub note_block-loop-stmt-preserved : goal.note_block-loop-stmt-preserved
note_block-loop-stmt-preserved t c =
    let h = c.loop-stmt.invariant in
    let own = c.in_ok-note_stmt.ensures in
    let g =
    block_step c.args.names.now.items c.loop-stmt.names.items c.note_stmt.new.names.items c.args.body.now c.loop-stmt.stmt-index c.stmt-item.result
    c.loop-stmt-test.true c.stmt-item.is (record { has = h.has; more = h.more }) own.has own.more in
    record { has = g.has; more = g.more }

pub note_stmt-returns-in_ok-note_block-in-If-clause-has : goal.note_stmt-returns-in_ok-note_block-in-If-clause-has
note_stmt-returns-in_ok-note_block-in-If-clause-has t c =
    let w = c.in-If in
    let b = c.as_slice-in-If.result.now in
    let is : stmt_tree c.args.stmt.now ≡ tree.If' (expr_tree w.field-0) (block_tree b) (tail_tree w.tail) =
    ap stmt_tree (w.is ∙ ap (λ x. If w.field-0 x w.tail) (sym c.as_slice-in-If.ensures)) ∙ if_tree w.field-0 b w.tail in
    let last = c.note_tail.new.names.items in
    subst (λ s. OnOk c.note_tail.result (HasStmt last s)) (sym is)
    (on_ok_weaker {P = (HasTail last (tail_tree w.tail) × Widens c.note_block.new.names.items last (words_of_tail (tail_tree w.tail)))} {Q =
    (HasBlock last (block_tree b) × HasTail last (tail_tree w.tail))} c.note_tail.result
    (λ x. (block_stays c.note_block.new.names.items last (words_of_tail (tail_tree w.tail)) x.1 (block_tree b) c.in_ok-note_block-in-If.ensures.has, x.0))
    (both c.note_tail.result _ _ c.note_tail.ensures.has c.note_tail.ensures.more))

pub note_stmt-returns-in_ok-note_block-in-If-clause-more : goal.note_stmt-returns-in_ok-note_block-in-If-clause-more
note_stmt-returns-in_ok-note_block-in-If-clause-more t c =
    let w = c.in-If in
    let b = c.as_slice-in-If.result.now in
    let is : stmt_tree c.args.stmt.now ≡ tree.If' (expr_tree w.field-0) (block_tree b) (tail_tree w.tail) =
    ap stmt_tree (w.is ∙ ap (λ x. If w.field-0 x w.tail) (sym c.as_slice-in-If.ensures)) ∙ if_tree w.field-0 b w.tail in
    let last = c.note_tail.new.names.items in
    subst (λ s. OnOk c.note_tail.result (Widens c.args.names.now.items last (words_of_stmt s))) (sym is)
    (on_ok_weaker {P = (Widens c.note_block.new.names.items last (words_of_tail (tail_tree w.tail)))} {Q =
    (Widens c.args.names.now.items last (words_of_block (block_tree b) + words_of_tail (tail_tree w.tail)))} c.note_tail.result
    (widens_on c.args.names.now.items c.note_block.new.names.items last (words_of_block (block_tree b))
    (words_of_tail (tail_tree w.tail)) c.in_ok-note_block-in-If.ensures.more)
    c.note_tail.ensures.more)

pub note_stmt-returns-in-While-clause-has : goal.note_stmt-returns-in-While-clause-has
note_stmt-returns-in-While-clause-has t c =
    let w = c.in-While in
    let b = c.as_slice-in-While.result.now in
    let is : stmt_tree c.args.stmt.now ≡ tree.While' (expr_tree w.field-0) (block_tree b) =
    ap stmt_tree (w.is ∙ ap (λ x. While w.field-0 x) (sym c.as_slice-in-While.ensures)) ∙ while_tree w.field-0 b in
    subst (λ s. OnOk c.note_block-in-While.result (HasStmt c.note_block-in-While.new.names.items s)) (sym is) c.note_block-in-While.ensures.has

pub note_stmt-returns-in-While-clause-more : goal.note_stmt-returns-in-While-clause-more
note_stmt-returns-in-While-clause-more t c =
    let w = c.in-While in
    let b = c.as_slice-in-While.result.now in
    let is : stmt_tree c.args.stmt.now ≡ tree.While' (expr_tree w.field-0) (block_tree b) =
    ap stmt_tree (w.is ∙ ap (λ x. While w.field-0 x) (sym c.as_slice-in-While.ensures)) ∙ while_tree w.field-0 b in
    subst (λ s. OnOk c.note_block-in-While.result (Widens c.args.names.now.items c.note_block-in-While.new.names.items (words_of_stmt s)))
    (sym is) c.note_block-in-While.ensures.more

pub note_tail-returns-in-Else-clause-has : goal.note_tail-returns-in-Else-clause-has
note_tail-returns-in-Else-clause-has t c =
    let b = c.as_slice.result.now in
    let is : tail_tree c.args.tail.now ≡ tree.ElseOf (block_tree b) = ap tail_tree (c.in-Else.is ∙ ap Else (sym c.as_slice.ensures)) ∙ else_tree b in
    subst (λ s. OnOk c.note_block.result (HasTail c.note_block.new.names.items s)) (sym is) c.note_block.ensures.has

pub note_tail-returns-in-Else-clause-more : goal.note_tail-returns-in-Else-clause-more
note_tail-returns-in-Else-clause-more t c =
    let b = c.as_slice.result.now in
    let is : tail_tree c.args.tail.now ≡ tree.ElseOf (block_tree b) = ap tail_tree (c.in-Else.is ∙ ap Else (sym c.as_slice.ensures)) ∙ else_tree b in
    subst (λ s. OnOk c.note_block.result (Widens c.args.names.now.items c.note_block.new.names.items (words_of_tail s))) (sym is) c.note_block.ensures.more

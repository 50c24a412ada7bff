use Rattle.std.proofs.Common.{◌≡◌, List, ◌∷◌, sym, ap, subst, ◌∙◌}
use Rattle.std.proofs.lemmas.Result.{on_ok_weaker}
use Rattle.fut_tokens.specs.declared.token.Token.TheVariants as t
use Rattle.fut_syntax.specs.declared.tree.Stmt.{Stmt}
use Rattle.fut_syntax.specs.Trees as trees
use Rattle.fut_syntax.specs.Tokens.{stmt_before, block_before, tail_before}
use Rattle.fut_syntax.specs.Views.{expr_tree, stmt_tree, block_tree, tail_tree}
use Rattle.fut_print.specs.Writing.{Wrote}
use Rattle.fut_syntax.proofs.Made.{if_tree, while_tree, else_tree}
use Rattle.fut_print.proofs.Written.{wrote_as, then_wrote, block_done}
use Rattle.fut_print.proofs.write_stmts.+put_stmts.Goals as goal

pub put_stmt-returns-in_ok-put_block-in-If : goal.put_stmt-returns-in_ok-put_block-in-If
put_stmt-returns-in_ok-put_block-in-If n c =
    let made = trees.If' (expr_tree c.in-If.test) (block_tree c.in-If.then) (tail_tree c.in-If.other) in
    let same : stmt_tree c.args.tree.now ≡ made = ap stmt_tree c.in-If.is ∙ if_tree c.in-If.test c.in-If.then c.in-If.other in
    on_ok_weaker c.put_tail.result
    (λ last.
    wrote_as stmt_before c.args.out.now.items c.put_tail.new.out.items made (stmt_tree c.args.tree.now) (sym same)
    (then_wrote c.args.out.now.items c.put_block.new.out.items c.put_tail.new.out.items
    (then_wrote c.args.out.now.items c.put_expr.new.out.items c.put_block.new.out.items
    (then_wrote c.args.out.now.items c.put-in-If.new.out.items c.put_expr.new.out.items c.in_ok-put-in-If.ensures c.in_ok-put_expr-in-If.ensures)
    c.in_ok-put_block-in-If.ensures) last))
    c.put_tail.ensures

pub put_stmt-returns-in_ok-put_expr-in-While : goal.put_stmt-returns-in_ok-put_expr-in-While
put_stmt-returns-in_ok-put_expr-in-While n c =
    let made = trees.While' (expr_tree c.in-While.test) (block_tree c.in-While.body) in
    let same : stmt_tree c.args.tree.now ≡ made = ap stmt_tree c.in-While.is ∙ while_tree c.in-While.test c.in-While.body in
    on_ok_weaker c.put_block-in-While.result
    (λ last.
    wrote_as stmt_before c.args.out.now.items c.put_block-in-While.new.out.items made (stmt_tree c.args.tree.now) (sym same)
    (then_wrote c.args.out.now.items c.put_expr-in-While.new.out.items c.put_block-in-While.new.out.items
    (then_wrote c.args.out.now.items c.put-in-While.new.out.items c.put_expr-in-While.new.out.items c.in_ok-put-in-While.ensures
    c.in_ok-put_expr-in-While.ensures) last))
    c.put_block-in-While.ensures

pub put_tail-returns-in_ok-put-in-Else : goal.put_tail-returns-in_ok-put-in-Else
put_tail-returns-in_ok-put-in-Else n c =
    let made = trees.ElseOf (block_tree c.in-Else.other) in
    let same : tail_tree c.args.tree.now ≡ made = ap tail_tree c.in-Else.is ∙ else_tree c.in-Else.other in
    on_ok_weaker c.put_block.result
    (λ last.
    wrote_as tail_before c.args.out.now.items c.put_block.new.out.items made (tail_tree c.args.tree.now) (sym same)
    (then_wrote c.args.out.now.items c.put.new.out.items c.put_block.new.out.items c.in_ok-put-in-Else.ensures last))
    c.put_block.ensures

pub put_block-returns : goal.put_block-returns
put_block-returns n c =
    on_ok_weaker c.put-2.result
    (λ last.
    subst (λ (b : List Stmt). Wrote c.args.out.now.items c.put-2.new.out.items (λ r. t.LeftBrace ∷ block_before (block_tree b) r)) c.as_slice-stmt-items.ensures
    (block_done c.loop-stmt.stmt-index c.as_slice-stmt-items.result.now c.loop-stmt.out.items c.args.out.now.items c.put-2.new.out.items
    c.loop-stmt-test.false c.loop-stmt.invariant last))
    c.put-2.ensures

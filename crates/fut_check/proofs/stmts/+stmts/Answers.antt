use Rattle.std.proofs.Common.{rules, ◌≡◌, ◌+◌, ◌++◌, length, drop, sym, ap, subst, ◌∙◌, arith}
use Rattle.fut_syntax.specs.declared.tree.Stmt.{If, While, the_lemmas}
use Rattle.fut_syntax.specs.declared.tree.Tail.{Else}
use Rattle.fut_syntax.specs.Trees as trees
use Rattle.fut_syntax.specs.Views.{expr_tree, stmt_tree, block_tree, tail_tree, items_tree}
use Rattle.fut_syntax.proofs.Made.{if_tree, while_tree, else_tree}
use Rattle.fut_rules.specs.Faults.{least}
use Rattle.fut_rules.specs.Names.{Scope}
use Rattle.fut_check.specs.Passing.{Passed}
use Rattle.fut_check.specs.Stmts.{stmt_faults, block_faults, tail_faults, scope_after, with_declared, declared_in_block, declared_in_tail}
use Rattle.fut_rules.specs.Widths.{stmt_width, block_width, tail_width}
use Rattle.fut_check.proofs.Bodies.{if_passed, while_passed, else_passed, block_step, declared_step, visible_step, count_step}
use Rattle.fut_rules.proofs.Drops.{dropped}
use Rattle.fut_check.proofs.stmts.+stmts.Goals as goal

pub walk_stmt-walk_block-requires : goal.walk_stmt-walk_block-requires
walk_stmt-walk_block-requires t c =
    let is : stmt_tree c.args.stmt.now ≡ trees.If' (expr_tree c.in-If.test) (block_tree c.as_slice-in-If.result.now) (tail_tree c.in-If.tail) =
    ap stmt_tree (c.in-If.is ∙ ap (λ b. If c.in-If.test b c.in-If.tail) (sym c.as_slice-in-If.ensures))
    ∙ if_tree c.in-If.test c.as_slice-in-If.result.now c.in-If.tail
    in (search (rules, the_lemmas), omega (arith, ap stmt_width is))

pub walk_stmt-skip-requires-in-If : goal.walk_stmt-skip-requires-in-If
walk_stmt-skip-requires-in-If t c =
    let is : stmt_tree c.args.stmt.now ≡ trees.If' (expr_tree c.in-If.test) (block_tree c.as_slice-in-If.result.now) (tail_tree c.in-If.tail) =
    ap stmt_tree (c.in-If.is ∙ ap (λ b. If c.in-If.test b c.in-If.tail) (sym c.as_slice-in-If.ensures))
    ∙ if_tree c.in-If.test c.as_slice-in-If.result.now c.in-If.tail
    in omega (arith, ap stmt_width is, c.in_ok-walk_block-in-If.ensures.walked.at, c.in_ok-walk_block-in-If.ensures.walked.end)

pub walk_stmt-walk_tail-requires : goal.walk_stmt-walk_tail-requires
walk_stmt-walk_tail-requires t c =
    let is : stmt_tree c.args.stmt.now ≡ trees.If' (expr_tree c.in-If.test) (block_tree c.as_slice-in-If.result.now) (tail_tree c.in-If.tail) =
    ap stmt_tree (c.in-If.is ∙ ap (λ b. If c.in-If.test b c.in-If.tail) (sym c.as_slice-in-If.ensures))
    ∙ if_tree c.in-If.test c.as_slice-in-If.result.now c.in-If.tail
    in (search (rules, the_lemmas), omega (arith, ap stmt_width is, c.in_ok-walk_block-in-If.ensures.walked.at, c.in_ok-walk_block-in-If.ensures.walked.end))

pub walk_stmt-walk_block-requires-in-While : goal.walk_stmt-walk_block-requires-in-While
walk_stmt-walk_block-requires-in-While t c =
    let is : stmt_tree c.args.stmt.now ≡ trees.While' (expr_tree c.in-While.test) (block_tree c.as_slice-in-While.result.now) =
    ap stmt_tree (c.in-While.is ∙ ap (λ b. While c.in-While.test b) (sym c.as_slice-in-While.ensures))
    ∙ while_tree c.in-While.test c.as_slice-in-While.result.now
    in (search (rules, the_lemmas), omega (arith, ap stmt_width is))

pub walk_stmt-skip-requires-in-While : goal.walk_stmt-skip-requires-in-While
walk_stmt-skip-requires-in-While t c =
    let is : stmt_tree c.args.stmt.now ≡ trees.While' (expr_tree c.in-While.test) (block_tree c.as_slice-in-While.result.now) =
    ap stmt_tree (c.in-While.is ∙ ap (λ b. While c.in-While.test b) (sym c.as_slice-in-While.ensures))
    ∙ while_tree c.in-While.test c.as_slice-in-While.result.now
    in omega (arith, ap stmt_width is, c.in_ok-walk_block-in-While.ensures.walked.at, c.in_ok-walk_block-in-While.ensures.walked.end)

pub walk_stmt-returns-in_ok-walk_block-in-While : goal.walk_stmt-returns-in_ok-walk_block-in-While
walk_stmt-returns-in_ok-walk_block-in-While t c =
    let is : stmt_tree c.args.stmt.now ≡ trees.While' (expr_tree c.in-While.test) (block_tree c.as_slice-in-While.result.now) =
    ap stmt_tree (c.in-While.is ∙ ap (λ b. While c.in-While.test b) (sym c.as_slice-in-While.ensures))
    ∙ while_tree c.in-While.test c.as_slice-in-While.result.now
    in
    let g = items_tree c.args.items.now in
    let s = c.args.scope.now in
    subst
    (λ (x : trees.Stmt). Passed c.args.search.now c.skip-in-While.new.self (stmt_width x)
    (stmt_faults g s c.args.search.now.at x) c.walk_block-in-While.new.scope (scope_after s x)) (sym is)
    (while_passed g s _ _ _ _ _ _ _ c.walk_test-in-While.ensures c.in_ok-walk_block-in-While.ensures c.skip-in-While.ensures)

pub walk_tail-walk_block-requires : goal.walk_tail-walk_block-requires
walk_tail-walk_block-requires t c =
    let is : tail_tree c.args.tail.now ≡ trees.ElseOf (block_tree c.as_slice.result.now) =
    ap tail_tree (c.in-Else.is ∙ ap Else (sym c.as_slice.ensures)) ∙ else_tree c.as_slice.result.now
    in (search (rules, the_lemmas), omega (arith, ap tail_width is))

pub walk_tail-skip-requires-in-Else : goal.walk_tail-skip-requires-in-Else
walk_tail-skip-requires-in-Else t c =
    let is : tail_tree c.args.tail.now ≡ trees.ElseOf (block_tree c.as_slice.result.now) =
    ap tail_tree (c.in-Else.is ∙ ap Else (sym c.as_slice.ensures)) ∙ else_tree c.as_slice.result.now
    in omega (arith, ap tail_width is, c.in_ok-walk_block-in-Else.ensures.walked.at, c.in_ok-walk_block-in-Else.ensures.walked.end)

pub walk_tail-returns-in_ok-walk_block-in-Else : goal.walk_tail-returns-in_ok-walk_block-in-Else
walk_tail-returns-in_ok-walk_block-in-Else t c =
    let is : tail_tree c.args.tail.now ≡ trees.ElseOf (block_tree c.as_slice.result.now) =
    ap tail_tree (c.in-Else.is ∙ ap Else (sym c.as_slice.ensures)) ∙ else_tree c.as_slice.result.now
    in
    let g = items_tree c.args.items.now in
    let s = c.args.scope.now in
    subst
    (λ (x : trees.Tail). Passed c.args.search.now c.skip-in-Else.new.self (tail_width x) (tail_faults g s c.args.search.now.at x) c.walk_block.new.scope
    (with_declared s (declared_in_tail x))) (sym is)
    (else_passed g s _ _ _ _ _ _ c.skip.ensures c.in_ok-walk_block-in-Else.ensures c.skip-in-Else.ensures)

pub walk_stmt-returns-in_ok-walk_tail-in-If : goal.walk_stmt-returns-in_ok-walk_tail-in-If
walk_stmt-returns-in_ok-walk_tail-in-If t c =
    let is : stmt_tree c.args.stmt.now ≡ trees.If' (expr_tree c.in-If.test) (block_tree c.as_slice-in-If.result.now) (tail_tree c.in-If.tail) =
    ap stmt_tree (c.in-If.is ∙ ap (λ b. If c.in-If.test b c.in-If.tail) (sym c.as_slice-in-If.ensures))
    ∙ if_tree c.in-If.test c.as_slice-in-If.result.now c.in-If.tail
    in
    let g = items_tree c.args.items.now in
    let s = c.args.scope.now in
    subst
    (λ (x : trees.Stmt). Passed c.args.search.now c.walk_tail.new.search (stmt_width x) (stmt_faults g s c.args.search.now.at x) c.walk_tail.new.scope
    (scope_after s x)) (sym is)
    (if_passed g s _ _ _ _ _ _ _ _ _ _ c.walk_test.ensures c.in_ok-walk_block-in-If.ensures c.skip-in-If.ensures c.in_ok-walk_tail-in-If.ensures)

pub walk_block-loop-stmt-preserved : goal.walk_block-loop-stmt-preserved
walk_block-loop-stmt-preserved t c =
    let i = c.loop-stmt.stmt-index in
    let g = items_tree c.args.items.now in
    let x = stmt_tree c.stmt-item.result in
    let rest = block_tree (drop (i + 1) c.args.stmts.now) in
    let s = c.loop-stmt.scope in
    let s1 = c.walk_stmt.new.scope in
    let left : block_tree (drop i c.args.stmts.now) ≡ trees.Then (stmt_tree c.stmt-item.result) (block_tree (drop (i + 1) c.args.stmts.now)) =
    ap block_tree (dropped c.args.stmts.now i c.stmt-item.result (omega arith) c.stmt-item.is)
    in
    let p = c.in_ok-walk_stmt.ensures in
    record {
      end = p.walked.end ∙ c.loop-stmt.invariant.end;
      at = omega (arith, ap block_width left, p.walked.at);
      found = c.loop-stmt.invariant.found ∙ ap (λ b. least c.loop-stmt.search.found (block_faults g s c.loop-stmt.search.at b)) left
          ∙ block_step g s s1 c.loop-stmt.search c.walk_stmt.new.search x rest p;
      returns = ap (λ (q : Scope). q.returns) p.scope_is ∙ c.loop-stmt.invariant.returns;
      declared = declared_step s s1 x rest p.scope_is ∙ ap (λ b. s.declared ++ declared_in_block b) (sym left) ∙ c.loop-stmt.invariant.declared;
      visible = visible_step s s1 x (length c.args.scope.now.visible) p.scope_is c.loop-stmt.invariant.count ∙ c.loop-stmt.invariant.visible;
      count = count_step s s1 x (length c.args.scope.now.visible) p.scope_is c.loop-stmt.invariant.count;
    }

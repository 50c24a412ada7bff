use Rattle.std.proofs.Common.{rules, ◌≡◌, ◌+◌, ◌++◌, length, drop, sym, ap, subst, ◌∙◌, arith}
use Rattle.fut_syntax.specs.declared.tree.Stmt.{If, While, the_lemmas}
use Rattle.fut_syntax.specs.declared.tree.Tail.{Else}
use Rattle.fut_syntax.specs.Trees as trees
use Rattle.fut_syntax.specs.Views.{expr_tree, stmt_tree, block_tree, tail_tree, items_tree}
use Rattle.fut_syntax.proofs.Made.{if_tree, while_tree, else_tree}
use Rattle.fut_rules.specs.Names.{Scope}
use Rattle.fut_check.specs.Stmts.{scope_after, with_declared, declared_in_block, declared_in_tail}
use Rattle.fut_causes.specs.Causes.{stmt_causes, block_causes, tail_causes}
use Rattle.fut_causes.specs.Seeking.{first, Passed}
use Rattle.fut_rules.specs.Widths.{stmt_width, block_width, tail_width}
use Rattle.fut_causes.proofs.Bodies.{if_passed, while_passed, else_passed, block_step, declared_step, visible_step, count_step}
use Rattle.fut_rules.proofs.Drops.{dropped}
use Rattle.fut_causes.proofs.stmts.+stmts.Goals as goal

pub seek_stmt-seek_block-requires : goal.seek_stmt-seek_block-requires
seek_stmt-seek_block-requires t c =
    let is : stmt_tree c.args.stmt.now ≡ trees.If' (expr_tree c.in-If.test) (block_tree c.as_slice-in-If.result.now) (tail_tree c.in-If.tail) =
    ap stmt_tree (c.in-If.is ∙ ap (λ b. If c.in-If.test b c.in-If.tail) (sym c.as_slice-in-If.ensures))
    ∙ if_tree c.in-If.test c.as_slice-in-If.result.now c.in-If.tail
    in (search (rules, the_lemmas), omega (arith, ap stmt_width is))

pub seek_stmt-skip-requires-in-If : goal.seek_stmt-skip-requires-in-If
seek_stmt-skip-requires-in-If t c =
    let is : stmt_tree c.args.stmt.now ≡ trees.If' (expr_tree c.in-If.test) (block_tree c.as_slice-in-If.result.now) (tail_tree c.in-If.tail) =
    ap stmt_tree (c.in-If.is ∙ ap (λ b. If c.in-If.test b c.in-If.tail) (sym c.as_slice-in-If.ensures))
    ∙ if_tree c.in-If.test c.as_slice-in-If.result.now c.in-If.tail
    in omega (arith, ap stmt_width is, c.in_ok-seek_block-in-If.ensures.sought.at, c.in_ok-seek_block-in-If.ensures.sought.end)

pub seek_stmt-seek_tail-requires : goal.seek_stmt-seek_tail-requires
seek_stmt-seek_tail-requires t c =
    let is : stmt_tree c.args.stmt.now ≡ trees.If' (expr_tree c.in-If.test) (block_tree c.as_slice-in-If.result.now) (tail_tree c.in-If.tail) =
    ap stmt_tree (c.in-If.is ∙ ap (λ b. If c.in-If.test b c.in-If.tail) (sym c.as_slice-in-If.ensures))
    ∙ if_tree c.in-If.test c.as_slice-in-If.result.now c.in-If.tail
    in (search (rules, the_lemmas), omega (arith, ap stmt_width is, c.in_ok-seek_block-in-If.ensures.sought.at, c.in_ok-seek_block-in-If.ensures.sought.end))

pub seek_stmt-seek_block-requires-in-While : goal.seek_stmt-seek_block-requires-in-While
seek_stmt-seek_block-requires-in-While t c =
    let is : stmt_tree c.args.stmt.now ≡ trees.While' (expr_tree c.in-While.test) (block_tree c.as_slice-in-While.result.now) =
    ap stmt_tree (c.in-While.is ∙ ap (λ b. While c.in-While.test b) (sym c.as_slice-in-While.ensures))
    ∙ while_tree c.in-While.test c.as_slice-in-While.result.now
    in (search (rules, the_lemmas), omega (arith, ap stmt_width is))

pub seek_stmt-skip-requires-in-While : goal.seek_stmt-skip-requires-in-While
seek_stmt-skip-requires-in-While t c =
    let is : stmt_tree c.args.stmt.now ≡ trees.While' (expr_tree c.in-While.test) (block_tree c.as_slice-in-While.result.now) =
    ap stmt_tree (c.in-While.is ∙ ap (λ b. While c.in-While.test b) (sym c.as_slice-in-While.ensures))
    ∙ while_tree c.in-While.test c.as_slice-in-While.result.now
    in omega (arith, ap stmt_width is, c.in_ok-seek_block-in-While.ensures.sought.at, c.in_ok-seek_block-in-While.ensures.sought.end)

pub seek_stmt-returns-in_ok-seek_block-in-While : goal.seek_stmt-returns-in_ok-seek_block-in-While
seek_stmt-returns-in_ok-seek_block-in-While t c =
    let is : stmt_tree c.args.stmt.now ≡ trees.While' (expr_tree c.in-While.test) (block_tree c.as_slice-in-While.result.now) =
    ap stmt_tree (c.in-While.is ∙ ap (λ b. While c.in-While.test b) (sym c.as_slice-in-While.ensures))
    ∙ while_tree c.in-While.test c.as_slice-in-While.result.now
    in
    let g = items_tree c.args.items.now in
    let s = c.args.scope.now in
    subst
    (λ (x : trees.Stmt). Passed c.args.seek.now c.skip-in-While.new.self (stmt_width x)
    (stmt_causes g s c.args.seek.now.at x) c.seek_block-in-While.new.scope (scope_after s x)) (sym is)
    (while_passed g s _ _ _ _ _ _ _ c.seek_test-in-While.ensures c.in_ok-seek_block-in-While.ensures c.skip-in-While.ensures)

pub seek_tail-seek_block-requires : goal.seek_tail-seek_block-requires
seek_tail-seek_block-requires t c =
    let is : tail_tree c.args.tail.now ≡ trees.ElseOf (block_tree c.as_slice.result.now) =
    ap tail_tree (c.in-Else.is ∙ ap Else (sym c.as_slice.ensures)) ∙ else_tree c.as_slice.result.now
    in (search (rules, the_lemmas), omega (arith, ap tail_width is))

pub seek_tail-skip-requires-in-Else : goal.seek_tail-skip-requires-in-Else
seek_tail-skip-requires-in-Else t c =
    let is : tail_tree c.args.tail.now ≡ trees.ElseOf (block_tree c.as_slice.result.now) =
    ap tail_tree (c.in-Else.is ∙ ap Else (sym c.as_slice.ensures)) ∙ else_tree c.as_slice.result.now
    in omega (arith, ap tail_width is, c.in_ok-seek_block-in-Else.ensures.sought.at, c.in_ok-seek_block-in-Else.ensures.sought.end)

pub seek_tail-returns-in_ok-seek_block-in-Else : goal.seek_tail-returns-in_ok-seek_block-in-Else
seek_tail-returns-in_ok-seek_block-in-Else t c =
    let is : tail_tree c.args.tail.now ≡ trees.ElseOf (block_tree c.as_slice.result.now) =
    ap tail_tree (c.in-Else.is ∙ ap Else (sym c.as_slice.ensures)) ∙ else_tree c.as_slice.result.now
    in
    let g = items_tree c.args.items.now in
    let s = c.args.scope.now in
    subst
    (λ (x : trees.Tail). Passed c.args.seek.now c.skip-in-Else.new.self (tail_width x) (tail_causes g s c.args.seek.now.at x) c.seek_block.new.scope
    (with_declared s (declared_in_tail x))) (sym is)
    (else_passed g s _ _ _ _ _ _ c.skip.ensures c.in_ok-seek_block-in-Else.ensures c.skip-in-Else.ensures)

pub seek_stmt-returns-in_ok-seek_tail-in-If : goal.seek_stmt-returns-in_ok-seek_tail-in-If
seek_stmt-returns-in_ok-seek_tail-in-If t c =
    let is : stmt_tree c.args.stmt.now ≡ trees.If' (expr_tree c.in-If.test) (block_tree c.as_slice-in-If.result.now) (tail_tree c.in-If.tail) =
    ap stmt_tree (c.in-If.is ∙ ap (λ b. If c.in-If.test b c.in-If.tail) (sym c.as_slice-in-If.ensures))
    ∙ if_tree c.in-If.test c.as_slice-in-If.result.now c.in-If.tail
    in
    let g = items_tree c.args.items.now in
    let s = c.args.scope.now in
    subst
    (λ (x : trees.Stmt). Passed c.args.seek.now c.seek_tail.new.seek (stmt_width x) (stmt_causes g s c.args.seek.now.at x) c.seek_tail.new.scope
    (scope_after s x)) (sym is)
    (if_passed g s _ _ _ _ _ _ _ _ _ _ c.seek_test.ensures c.in_ok-seek_block-in-If.ensures c.skip-in-If.ensures c.in_ok-seek_tail-in-If.ensures)

pub seek_block-loop-stmt-preserved : goal.seek_block-loop-stmt-preserved
seek_block-loop-stmt-preserved t c =
    let i = c.loop-stmt.stmt-index in
    let g = items_tree c.args.items.now in
    let x = stmt_tree c.stmt-item.result in
    let rest = block_tree (drop (i + 1) c.args.stmts.now) in
    let s = c.loop-stmt.scope in
    let s1 = c.seek_stmt.new.scope in
    let left : block_tree (drop i c.args.stmts.now) ≡ trees.Then (stmt_tree c.stmt-item.result) (block_tree (drop (i + 1) c.args.stmts.now)) =
    ap block_tree (dropped c.args.stmts.now i c.stmt-item.result (omega arith) c.stmt-item.is)
    in
    let p = c.in_ok-seek_stmt.ensures in
    record {
      end = p.sought.end ∙ c.loop-stmt.invariant.end;
      wanted = p.sought.wanted ∙ c.loop-stmt.invariant.wanted;
      at = omega (arith, ap block_width left, p.sought.at);
      found = c.loop-stmt.invariant.found ∙ ap (λ b. first c.args.seek.now.wanted c.loop-stmt.seek.found (block_causes g s c.loop-stmt.seek.at b)) left
          ∙ block_step c.args.seek.now.wanted g s s1 c.loop-stmt.seek c.seek_stmt.new.seek x rest c.loop-stmt.invariant.wanted p;
      returns = ap (λ (q : Scope). q.returns) p.scope_is ∙ c.loop-stmt.invariant.returns;
      declared = declared_step s s1 x rest p.scope_is ∙ ap (λ b. s.declared ++ declared_in_block b) (sym left) ∙ c.loop-stmt.invariant.declared;
      visible = visible_step s s1 x (length c.args.scope.now.visible) p.scope_is c.loop-stmt.invariant.count ∙ c.loop-stmt.invariant.visible;
      count = count_step s s1 x (length c.args.scope.now.visible) p.scope_is c.loop-stmt.invariant.count;
    }

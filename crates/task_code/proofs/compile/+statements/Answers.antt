use Rattle.std.proofs.Common.{rules, ◌≡◌, ◌+◌, ◌-◌, length, drop, refl, ap, sym, ◌∙◌, subst, arith}
use Rattle.std.specs.Prelude.{IfOk, OnOk}
use Rattle.fut_syntax.specs.declared.tree.Stmt.{the_lemmas}
use Rattle.fut_syntax.specs.Trees as tree
use Rattle.fut_syntax.specs.Views.{expr_tree, stmt_tree, block_tree, tail_tree}
use Rattle.task_code.specs.Flat.{context_of, DoesTail, Grows}
use Rattle.task_code.specs.Serving.{ServesStmt, ServesTail, instructions_for, instructions_in, instructions_else}
use Rattle.task_code.proofs.Growing.{grows_not, grows_on, block_begun, block_longer, block_done, if_added}
use Rattle.task_code.proofs.Growing.{while_added, block_counted, rest_fewer, none_begun, pushed_count}
use Rattle.task_code.proofs.Serving.{served_at}
use Rattle.task_code.proofs.Shapes.{if_made, while_made, else_made}
use Rattle.task_code.proofs.compile.+statements.Goals as goal

pub add_block-loop-index-init : goal.add_block-loop-index-init
add_block-loop-index-init t c =
    record {
      grows = grows_not c.args.code.now.items;
      does = block_begun (context_of c.args.scope.now) c.args.code.now.items c.args.stmts.now c.args.next;
      count = (let none = none_begun c.args.stmts.now in omega (arith, none));
    }

pub add_block-loop-index-preserved : goal.add_block-loop-index-preserved
add_block-loop-index-preserved t c =
    let h = c.loop-index.invariant in
    let test = c.loop-index-test.true in
    let auto = c.loop-index.auto.index in
    let e = c.in_ok-entry.ensures in
    record {
      grows = grows_on c.args.code.now.items c.loop-index.code.items c.add_stmt.new.code.items h.grows e.does.0;
      does =
          block_longer
          (context_of c.args.scope.now) c.loop-index.code.items c.add_stmt.new.code.items c.args.stmts.now c.loop-index.index c.index-stmts-index.result
          c.args.next c.loop-index.entry c.in_ok-entry.entry (omega arith) (omega arith) c.index-stmts-index.is e.does h.does;
      count = (
          let k = block_counted c.args.stmts.now c.loop-index.index c.index-stmts-index.result (omega arith) (omega arith) c.index-stmts-index.is in
          let before = h.count in
          let own = e.count in
          omega (arith, k, before, own));
    }

pub add_block-returns : goal.add_block-returns
add_block-returns t c =
    let h = c.loop-index.invariant in
    record {
      does = (
        h.grows,
        block_done (context_of c.args.scope.now) c.loop-index.code.items c.args.stmts.now c.loop-index.index c.args.next c.loop-index.entry
            (omega arith) h.does,
      );
      count = (
          let before = h.count in
          let none : c.loop-index.index ≡ 0 = omega arith in
          let all = ap (λ n. instructions_in (block_tree (drop n c.args.stmts.now))) none in
          omega (arith, before, all));
    }

pub add_block-add_stmt-requires : goal.add_block-add_stmt-requires
add_block-add_stmt-requires t c =
    let test = c.loop-index-test.true in
    let auto = c.loop-index.auto.index in
    let k = block_counted c.args.stmts.now c.loop-index.index c.index-stmts-index.result (omega arith) (omega arith) c.index-stmts-index.is in
    let less = rest_fewer c.args.stmts.now (c.loop-index.index - 1) in
    let before = c.loop-index.invariant.count in
    let few = c.requires.few in (
      search (rules, the_lemmas),
      (
        served_at (context_of c.args.scope.now) c.args.stmts.now (c.loop-index.index - 1) c.index-stmts-index.result
            (omega arith) c.index-stmts-index.is c.requires.serves,
        omega (arith, k, less, before, few),
      ),
    )

pub add_stmt-add_tail-requires : goal.add_stmt-add_tail-requires
add_stmt-add_tail-requires t c =
    let body = c.in-If.body in
    let is = if_made c.args.stmt.now c.in-If.test body body c.in-If.tail c.in-If.is refl in
    let sizes = ap instructions_for is in
    let few = c.requires.few in
    (search (rules, the_lemmas), ((subst (ServesStmt (context_of c.args.scope.now)) is c.requires.serves).2, omega (arith, sizes, few)))

pub add_stmt-add_block-requires : goal.add_stmt-add_block-requires
add_stmt-add_block-requires t c =
    let is = if_made c.args.stmt.now c.in-If.test c.in-If.body c.as_slice.result.now c.in-If.tail c.in-If.is c.as_slice.ensures in
    let sizes = ap instructions_for is in
    let few = c.requires.few in
    let tail = c.in_ok-otherwise-in-If.ensures.count in
    (search (rules, the_lemmas), ((subst (ServesStmt (context_of c.args.scope.now)) is c.requires.serves).1, omega (arith, sizes, few, tail)))

pub add_stmt-push-requires : goal.add_stmt-push-requires
add_stmt-push-requires t c =
    let is = if_made c.args.stmt.now c.in-If.test c.in-If.body c.as_slice.result.now c.in-If.tail c.in-If.is c.as_slice.ensures in
    let sizes = ap instructions_for is in
    let few = c.requires.few in
    let tail = c.in_ok-otherwise-in-If.ensures.count in
    let block = c.in_ok-then-in-If.ensures.count in
    omega (arith, sizes, few, tail, block)

pub add_stmt-returns-in_ok-then-in-If-clause-does : goal.add_stmt-returns-in_ok-then-in-If-clause-does
add_stmt-returns-in_ok-then-in-If-clause-does t c =
    let w = c.in-If in
    let is = if_made c.args.stmt.now w.test w.body c.as_slice.result.now w.tail w.is c.as_slice.ensures in
    if_added (context_of c.args.scope.now) (stmt_tree c.args.stmt.now) (expr_tree w.test) (block_tree c.as_slice.result.now)
    (tail_tree w.tail) c.in_ok-test-in-If.test c.args.next c.in_ok-then-in-If.then c.in_ok-otherwise-in-If.otherwise
    c.args.code.now.items c.add_tail.new.code.items c.add_block.new.code.items c.push.new.code.items c.push.result is c.in_ok-test-in-If.ensures
    c.in_ok-otherwise-in-If.ensures.does c.in_ok-then-in-If.ensures.does c.push.ensures

pub add_stmt-returns-in_ok-then-in-If-clause-count : goal.add_stmt-returns-in_ok-then-in-If-clause-count
add_stmt-returns-in_ok-then-in-If-clause-count t c =
    let is = if_made c.args.stmt.now c.in-If.test c.in-If.body c.as_slice.result.now c.in-If.tail c.in-If.is c.as_slice.ensures in
    let sizes = ap instructions_for is in
    let few = c.requires.few in
    let tail = c.in_ok-otherwise-in-If.ensures.count in
    let block = c.in_ok-then-in-If.ensures.count in
    let n = length c.add_block.new.code.items in
    let all : n + 1 ≡ length c.args.code.now.items + instructions_for (stmt_tree c.args.stmt.now) = omega (arith, sizes, tail, block) in
    subst (λ k. OnOk c.push.result (length c.push.new.code.items ≡ k)) all
    (pushed_count c.add_block.new.code.items c.push.new.code.items _ c.push.result n refl c.push.ensures)

pub add_stmt-block_size-size-requires : goal.add_stmt-block_size-size-requires
add_stmt-block_size-size-requires t c =
    let is = while_made c.args.stmt.now c.in-While.test c.in-While.body c.as_slice-in-While.result.now c.in-While.is c.as_slice-in-While.ensures in
    let sizes = ap instructions_for is in
    let few = c.requires.few in
    record { few = omega (arith, sizes, few) }

pub add_stmt-overflow_add-entry : goal.add_stmt-overflow_add-entry
add_stmt-overflow_add-entry t c =
    let is = while_made c.args.stmt.now c.in-While.test c.in-While.body c.as_slice-in-While.result.now c.in-While.is c.as_slice-in-While.ensures in
    let sizes = ap instructions_for is in
    let few = c.requires.few in
    omega (arith, sizes, few, c.len.ensures, c.block_size-size.ensures)

pub add_stmt-add_block-requires-in-While : goal.add_stmt-add_block-requires-in-While
add_stmt-add_block-requires-in-While t c =
    let is = while_made c.args.stmt.now c.in-While.test c.in-While.body c.as_slice-in-While-2.result.now c.in-While.is c.as_slice-in-While-2.ensures in
    let sizes = ap instructions_for is in
    let few = c.requires.few in
    (search (rules, the_lemmas), ((subst (ServesStmt (context_of c.args.scope.now)) is c.requires.serves).1, omega (arith, sizes, few)))

pub add_stmt-push-requires-in-While : goal.add_stmt-push-requires-in-While
add_stmt-push-requires-in-While t c =
    let is = while_made c.args.stmt.now c.in-While.test c.in-While.body c.as_slice-in-While-2.result.now c.in-While.is c.as_slice-in-While-2.ensures in
    let sizes = ap instructions_for is in
    let few = c.requires.few in
    let block = c.in_ok-then-in-While.ensures.count in
    omega (arith, sizes, few, block)

pub add_stmt-returns-in_ok-then-in-While-clause-does : goal.add_stmt-returns-in_ok-then-in-While-clause-does
add_stmt-returns-in_ok-then-in-While-clause-does t c =
    let w = c.in-While in
    let b = c.as_slice-in-While-2.result.now in
    let is = while_made c.args.stmt.now w.test w.body b w.is c.as_slice-in-While-2.ensures in
    let same = ap (λ l. instructions_in (block_tree l)) (c.as_slice-in-While.ensures ∙ sym c.as_slice-in-While-2.ensures) in
    let block = c.in_ok-then-in-While.ensures.count in
    let there : length c.add_block-in-While.new.code.items ≡ c.len.result + c.block_size-size.result =
    omega (arith, same, block, c.len.ensures, c.block_size-size.ensures) in
    while_added (context_of c.args.scope.now) (stmt_tree c.args.stmt.now) (expr_tree w.test)
    (block_tree b) c.in_ok-test-in-While.test c.args.next c.in_ok-then-in-While.then (c.len.result + c.block_size-size.result)
    c.args.code.now.items c.add_block-in-While.new.code.items c.push-in-While.new.code.items c.push-in-While.result is c.in_ok-test-in-While.ensures
    c.in_ok-then-in-While.ensures.does there c.push-in-While.ensures

pub add_stmt-returns-in_ok-then-in-While-clause-count : goal.add_stmt-returns-in_ok-then-in-While-clause-count
add_stmt-returns-in_ok-then-in-While-clause-count t c =
    let is = while_made c.args.stmt.now c.in-While.test c.in-While.body c.as_slice-in-While-2.result.now c.in-While.is c.as_slice-in-While-2.ensures in
    let sizes = ap instructions_for is in
    let few = c.requires.few in
    let block = c.in_ok-then-in-While.ensures.count in
    let n = length c.add_block-in-While.new.code.items in
    let all : n + 1 ≡ length c.args.code.now.items + instructions_for (stmt_tree c.args.stmt.now) = omega (arith, sizes, block) in
    subst (λ k. OnOk c.push-in-While.result (length c.push-in-While.new.code.items ≡ k)) all
    (pushed_count c.add_block-in-While.new.code.items c.push-in-While.new.code.items _ c.push-in-While.result n refl c.push-in-While.ensures)

pub add_tail-add_block-requires : goal.add_tail-add_block-requires
add_tail-add_block-requires t c =
    let is = else_made c.args.tail.now c.in-Else.body c.as_slice.result.now c.in-Else.is c.as_slice.ensures in
    let sizes = ap instructions_else is in
    let few = c.requires.few in
    (search (rules, the_lemmas), (subst (ServesTail (context_of c.args.scope.now)) is c.requires.serves, omega (arith, sizes, few)))

pub add_tail-returns-in-Else-clause-does : goal.add_tail-returns-in-Else-clause-does
add_tail-returns-in-Else-clause-does t c =
    let is = else_made c.args.tail.now c.in-Else.body c.as_slice.result.now c.in-Else.is c.as_slice.ensures in
    subst
    (λ (x : tree.Tail). IfOk c.add_block.result
    (λ entry. Grows c.args.code.now.items c.add_block.new.code.items
    × DoesTail (context_of c.args.scope.now) c.add_block.new.code.items x c.args.next entry)) (sym is) c.add_block.ensures.does

pub add_tail-returns-in-Else-clause-count : goal.add_tail-returns-in-Else-clause-count
add_tail-returns-in-Else-clause-count t c =
    let is = else_made c.args.tail.now c.in-Else.body c.as_slice.result.now c.in-Else.is c.as_slice.ensures in
    subst (λ (x : tree.Tail). OnOk c.add_block.result (length c.add_block.new.code.items ≡ length c.args.code.now.items + instructions_else x))
    (sym is) c.add_block.ensures.count

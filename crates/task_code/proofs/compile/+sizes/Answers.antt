use Rattle.std.proofs.Common.{rules, ap, arith}
use Rattle.fut_syntax.specs.declared.tree.Stmt.{the_lemmas}
use Rattle.task_code.specs.Serving.{instructions_for, instructions_else}
use Rattle.task_code.proofs.Shapes.{if_made, while_made, else_made}
use Rattle.task_code.proofs.compile.+sizes.Goals as goal

pub stmt_size-block_size-requires : goal.stmt_size-block_size-requires
stmt_size-block_size-requires t c =
    let is = if_made c.args.stmt.now c.in-If.field-0 c.in-If.body c.as_slice.result.now c.in-If.tail c.in-If.is c.as_slice.ensures in
    let few = c.requires.few in
    (search (rules, the_lemmas), omega (arith, ap instructions_for is, few))

pub stmt_size-tail_size-requires : goal.stmt_size-tail_size-requires
stmt_size-tail_size-requires t c =
    let is = if_made c.args.stmt.now c.in-If.field-0 c.in-If.body c.as_slice.result.now c.in-If.tail c.in-If.is c.as_slice.ensures in
    let few = c.requires.few in
    (search (rules, the_lemmas), omega (arith, ap instructions_for is, few))

pub stmt_size-overflow_add-result : goal.stmt_size-overflow_add-result
stmt_size-overflow_add-result t c =
    let is = if_made c.args.stmt.now c.in-If.field-0 c.in-If.body c.as_slice.result.now c.in-If.tail c.in-If.is c.as_slice.ensures in
    let few = c.requires.few in
    omega (arith, ap instructions_for is, few, c.block_size.ensures, c.tail_size.ensures)

pub stmt_size-overflow_add-result-in-If : goal.stmt_size-overflow_add-result-in-If
stmt_size-overflow_add-result-in-If t c =
    let is = if_made c.args.stmt.now c.in-If.field-0 c.in-If.body c.as_slice.result.now c.in-If.tail c.in-If.is c.as_slice.ensures in
    let few = c.requires.few in
    omega (arith, ap instructions_for is, few, c.block_size.ensures, c.tail_size.ensures)

pub stmt_size-returns-in-If : goal.stmt_size-returns-in-If
stmt_size-returns-in-If t c =
    let is = if_made c.args.stmt.now c.in-If.field-0 c.in-If.body c.as_slice.result.now c.in-If.tail c.in-If.is c.as_slice.ensures in
    omega (arith, ap instructions_for is, c.block_size.ensures, c.tail_size.ensures)

pub stmt_size-block_size-requires-in-While : goal.stmt_size-block_size-requires-in-While
stmt_size-block_size-requires-in-While t c =
    let is = while_made c.args.stmt.now c.in-While.field-0 c.in-While.body c.as_slice-in-While.result.now c.in-While.is c.as_slice-in-While.ensures in
    let few = c.requires.few in
    (search (rules, the_lemmas), omega (arith, ap instructions_for is, few))

pub stmt_size-overflow_add-result-in-While : goal.stmt_size-overflow_add-result-in-While
stmt_size-overflow_add-result-in-While t c =
    let is = while_made c.args.stmt.now c.in-While.field-0 c.in-While.body c.as_slice-in-While.result.now c.in-While.is c.as_slice-in-While.ensures in
    let few = c.requires.few in
    omega (arith, ap instructions_for is, few, c.block_size-in-While.ensures)

pub stmt_size-returns-in-While : goal.stmt_size-returns-in-While
stmt_size-returns-in-While t c =
    let is = while_made c.args.stmt.now c.in-While.field-0 c.in-While.body c.as_slice-in-While.result.now c.in-While.is c.as_slice-in-While.ensures in
    omega (arith, ap instructions_for is, c.block_size-in-While.ensures)

pub tail_size-block_size-requires : goal.tail_size-block_size-requires
tail_size-block_size-requires t c =
    let is = else_made c.args.tail.now c.in-Else.body c.as_slice.result.now c.in-Else.is c.as_slice.ensures in
    let few = c.requires.few in
    (search (rules, the_lemmas), omega (arith, ap instructions_else is, few))

pub tail_size-returns-in-Else : goal.tail_size-returns-in-Else
tail_size-returns-in-Else t c =
    let is = else_made c.args.tail.now c.in-Else.body c.as_slice.result.now c.in-Else.is c.as_slice.ensures in
    omega (arith, ap instructions_else is, c.block_size.ensures)

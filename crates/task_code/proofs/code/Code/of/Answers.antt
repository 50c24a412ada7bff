use Rattle.std.proofs.Common.{◌≡◌, ◌<◌, ◌^◌, true, List, sym, length, ap, ◌∙◌, subst, arith}
use Rattle.std.specs.Prelude.{IsSomeAnd}
use Rattle.fut_syntax.specs.declared.tree.Item.{Item}
use Rattle.fut_syntax.specs.Views.{items_tree, program_tree}
use Rattle.fut_rules.specs.Widths.{items_width}
use Rattle.fut_check.specs.Checks.{some_fit}
use Rattle.fut_check.specs.Items.{IsWellTyped}
use Rattle.task_code.proofs.Serving.{HasWhole, has_whole}
use Rattle.task_code.proofs.code.Code.of.Goals as goal

whole : (items slice : List Item) → slice ≡ items → IsSomeAnd (program_tree items) IsWellTyped → items_width (items_tree items) < 2 ^ 32
    → some_fit (program_tree items) ≡ true → HasWhole (items_tree slice)
whole items slice same typed few numbers = subst (λ l. HasWhole (items_tree l)) (sym same) (has_whole items typed few numbers)

pub cells_of-cells-requires : goal.cells_of-cells-requires
cells_of-cells-requires c =
    (whole c.program-program.result.now.items c.as_slice-items.result.now c.as_slice-items.ensures c.program-program.ensures.well_typed
    c.program-program.ensures.few c.program-program.ensures.numbers).cells

pub arrays_of-requires-clause-some : goal.arrays_of-requires-clause-some
arrays_of-requires-clause-some c =
    (whole c.program-program.result.now.items c.as_slice-items.result.now c.as_slice-items.ensures c.program-program.ensures.well_typed
    c.program-program.ensures.few c.program-program.ensures.numbers).some

pub codes_of-requires-clause-few : goal.codes_of-requires-clause-few
codes_of-requires-clause-few c =
    let few =
    (whole c.program-program.result.now.items c.as_slice-items.result.now c.as_slice-items.ensures c.program-program.ensures.well_typed
    c.program-program.ensures.few c.program-program.ensures.numbers).arrays in
    omega (arith, few, ap length (c.as_slice.ensures ∙ c.in_ok-arrays.ensures))

pub codes_of-requires-clause-tasks : goal.codes_of-requires-clause-tasks
codes_of-requires-clause-tasks c =
    (whole c.program-program.result.now.items c.as_slice-items.result.now c.as_slice-items.ensures c.program-program.ensures.well_typed
    c.program-program.ensures.few c.program-program.ensures.numbers).tasks

pub codes_of-requires-clause-sound : goal.codes_of-requires-clause-sound
codes_of-requires-clause-sound c =
    (whole c.program-program.result.now.items c.as_slice-items.result.now c.as_slice-items.ensures c.program-program.ensures.well_typed
    c.program-program.ensures.few c.program-program.ensures.numbers).sound

pub task_number-requires : goal.task_number-requires
task_number-requires c =
    (whole c.program-program.result.now.items c.as_slice-items.result.now c.as_slice-items.ensures c.program-program.ensures.well_typed
    c.program-program.ensures.few c.program-program.ensures.numbers).tasks

pub invariant_of-result : goal.invariant_of-result
invariant_of-result c =
    let few =
    (whole c.program-program.result.now.items c.as_slice-items.result.now c.as_slice-items.ensures c.program-program.ensures.well_typed
    c.program-program.ensures.few c.program-program.ensures.numbers).arrays in
    omega (arith, few, ap length c.in_ok-arrays.ensures)

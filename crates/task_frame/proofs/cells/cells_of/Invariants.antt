use Rattle.std.proofs.Common.{◌≡◌, ◌+◌, drop}
use Rattle.fut_syntax.specs.Views.{items_tree}
use Rattle.task_machine.specs.Texts.{count_cells}
use Rattle.task_frame.proofs.cells.cells_of.Given as goal

abbrev pub invariant-loop-item : goal.invariant-loop-item
invariant-loop-item l =
    l.cells + count_cells (items_tree (drop l.item-index l.items)) ≡ count_cells (items_tree l.items)

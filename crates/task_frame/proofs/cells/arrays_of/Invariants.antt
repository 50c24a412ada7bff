use Rattle.std.proofs.Common.{◌≡◌, ◌+◌, ◌++◌, drop}
use Rattle.fut_syntax.specs.Views.{items_tree}
use Rattle.task_machine.specs.Texts.{count_cells, arrays_from}
use Rattle.task_frame.specs.Arrays.{EachHasCells}
use Rattle.task_frame.proofs.cells.arrays_of.Given as goal

abbrev pub invariant-loop-item : goal.invariant-loop-item
invariant-loop-item l =
    record {
      counted : l.first + count_cells (items_tree (drop l.item-index l.items)) ≡ count_cells (items_tree l.items);
      rest : l.arrays.items ++ arrays_from l.first (items_tree (drop l.item-index l.items)) ≡ arrays_from 0 (items_tree l.items);
      some : EachHasCells (items_tree (drop l.item-index l.items));
    }

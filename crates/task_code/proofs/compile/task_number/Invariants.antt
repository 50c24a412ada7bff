use Rattle.std.proofs.Common.{◌≡◌, ◌+◌, length, drop}
use Rattle.fut_syntax.specs.Views.{items_tree}
use Rattle.task_machine.specs.Texts.{tasks_from, number_from}
use Rattle.task_code.proofs.compile.task_number.Given as goal

abbrev pub invariant-loop-item : goal.invariant-loop-item
invariant-loop-item l =
    record {
      counted : l.number + length (tasks_from (items_tree (drop l.item-index l.items))) ≡ length (tasks_from (items_tree l.items));
      rest : number_from l.number (tasks_from (items_tree (drop l.item-index l.items))) l.word ≡ number_from 0 (tasks_from (items_tree l.items)) l.word;
    }

use Rattle.std.proofs.Common.{List, ◌++◌, drop}
use Rattle.fut_syntax.specs.Views.{items_tree}
use Rattle.task_machine.specs.Texts.{tasks_from}
use Rattle.task_code.specs.declared.code.TaskCode.{TaskCode}
use Rattle.task_code.specs.Flat.{AreCodesOf}
use Rattle.task_code.proofs.code.codes_of.Given as goal

abbrev pub invariant-loop-item : goal.invariant-loop-item
invariant-loop-item l = (more : List TaskCode) → AreCodesOf (items_tree l.items) (tasks_from (items_tree (drop l.item-index l.items))) more
    → AreCodesOf (items_tree l.items) (tasks_from (items_tree l.items)) (l.codes.items ++ more)

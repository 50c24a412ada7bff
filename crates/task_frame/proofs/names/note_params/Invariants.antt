use Rattle.std.proofs.Common.{take}
use Rattle.fut_syntax.specs.Views.{params_tree}
use Rattle.task_frame.specs.Gathered.{HasParams, Widens}
use Rattle.task_frame.proofs.names.note_params.Given as goal

abbrev pub invariant-loop-param : goal.invariant-loop-param
invariant-loop-param l =
    record {
      has : HasParams l.names.items (params_tree (take l.param-index l.params));
      more : Widens l.fn.names.items l.names.items l.param-index;
    }

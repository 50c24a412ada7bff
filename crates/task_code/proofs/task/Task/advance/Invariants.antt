use Rattle.std.proofs.Common.{◌≡◌, false, List}
use Rattle.fut_base.specs.declared.record.Value.{Value}
use Rattle.fut_syntax.specs.Trees as tree
use Rattle.task_machine.specs.State.{TaskState}
use Rattle.task_code.specs.Flat.{IsCodeOf}
use Rattle.task_code.specs.Tasks.{IsTaskOf}
use Rattle.task_code.proofs.task.Task.advance.Given as goal

abbrev pub invariant-loop : goal.invariant-loop
invariant-loop l =
    record {
      number : l.self.number ≡ l.fn.self.number;
      which : l.self.which ≡ l.fn.self.which;
      ended : l.self.spot.ended ≡ false;
      trace : l.self.trace ≡ l.fn.self.trace;
      steps : l.self.spot.steps ≡ l.counter;
      state : (P : tree.Program) (args : List Value) (s : TaskState) → IsCodeOf P l.code → IsTaskOf P l.code args l.fn.self s → IsTaskOf P l.code args l.self s;
    }

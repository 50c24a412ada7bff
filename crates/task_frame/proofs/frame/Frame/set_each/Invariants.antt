use Rattle.std.proofs.Common.{◌≡◌, ◌+◌, ◌++◌, List, length, replicate}
use Rattle.std.specs.Prelude.{slice_set}
use Rattle.fut_base.specs.declared.record.Value.{Value}
use Rattle.task_machine.specs.Variables.{Many}
use Rattle.task_frame.proofs.frame.Frame.set_each.Given as goal

abbrev pub invariant-loop-index : goal.invariant-loop-index
invariant-loop-index l =
    record {
      slots : (vs : List Value) × (length vs + l.index ≡ l.count)
          × (l.self.slots ≡ slice_set l.fn.self.slots l.variable (Many (replicate l.index l.value ++ vs)));
      rooms : l.self.rooms ≡ l.fn.self.rooms;
    }

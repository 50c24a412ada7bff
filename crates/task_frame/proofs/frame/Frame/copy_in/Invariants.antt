use Rattle.std.proofs.Common.{◌≡◌, ◌+◌, ◌++◌, List, length, take}
use Rattle.std.specs.Prelude.{slice_set}
use Rattle.fut_base.specs.declared.record.Value.{Value}
use Rattle.task_machine.specs.Variables.{Many}
use Rattle.task_frame.proofs.frame.Frame.copy_in.Given as goal

abbrev pub invariant-loop-index : goal.invariant-loop-index
invariant-loop-index l =
    record {
      slots : (vs : List Value) × (length vs + l.index ≡ length l.values)
          × (l.self.slots ≡ slice_set l.fn.self.slots l.variable (Many (take l.index l.values ++ vs)));
      rooms : l.self.rooms ≡ l.fn.self.rooms;
    }

use Rattle.std.proofs.Common.{◌≡◌, List, drop}
use Rattle.fut_syntax.specs.Trees as tree
use Rattle.task_machine.specs.Variables.{bound}
use Rattle.task_frame.specs.Names.{Holds, rooms_by}
use Rattle.task_code.specs.Flat.{AreGiven}
use Rattle.task_code.specs.Starting.{offset_of}
use Rattle.task_code.proofs.starting.frame_of.Given as goal

abbrev pub invariant-loop-index : goal.invariant-loop-index
invariant-loop-index l =
    record {
      rooms : l.frame.rooms ≡ rooms_by l.task.names;
      holds : (ps : List tree.Param) → AreGiven l.task.names 0 ps l.params
          → Holds l.task.names (bound (drop l.index ps) (drop (offset_of l.index ps) l.args)) l.frame.slots;
    }

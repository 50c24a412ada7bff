use Rattle.std.specs.Prelude.{take, map}
use Rattle.fut_base.specs.Events.{event_of}
use Rattle.fut_syntax.specs.Trees as tree
use Rattle.fut_check.specs.Items.{IsWellTyped}
use Rattle.task_machine.specs.Machine.{Machine}
use Rattle.task_code.specs.Flat.{IsCodeOf}
use Rattle.run_replay.specs.Replays.{IsReplayOf}
use Rattle.run_check.proofs.checking.replay.Given as goal

abbrev pub invariant-loop-entry : goal.invariant-loop-entry
invariant-loop-entry l = (P : tree.Program) → IsWellTyped P → IsCodeOf P l.code
    → (m : Machine) × IsReplayOf P l.code (map event_of (take l.entry-index l.entries)) l.run m

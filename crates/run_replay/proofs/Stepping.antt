-- A run after a step.
use Rattle.std.specs.Prelude.{List, Result, Ok, Err}
use Rattle.fut_base.specs.declared.event.Event.{Event}
use Rattle.fut_syntax.specs.Trees as tree
use Rattle.task_machine.specs.Machine.{Machine}
use Rattle.task_code.specs.Flat.{Compiled}
use Rattle.run_replay.specs.declared.step.StepStop.{StepStop}
use Rattle.run_replay.specs.declared.step.StepStop.TheVariants as stop
use Rattle.run_replay.specs.Replays.{ReplayNow, IsSomeReplay}
use Rattle.run_replay.specs.Steps.{IsStepped}

pub some_after : (P : tree.Program) (code : Compiled) (h : List Event) (m : Machine) (e : Event) (new : ReplayNow) (told : Result Unit StepStop)
    → IsStepped P code h m e new told → IsSomeReplay code new
some_after P code h m e new (Ok _) k = (P, _, k.0, k.2)
some_after P code h m e new (Err stop.NotLegal) k = (P, h, m, k.1)
some_after P code h m e new (Err stop.NoMemory) k = (P, h, m, k)

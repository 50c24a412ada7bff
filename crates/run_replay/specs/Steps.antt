-- What a call of `step` answers.
use Rattle.std.specs.Prelude.{List, [], ◌∷◌, ◌++◌, Result, Ok, Err}
use Rattle.fut_base.specs.declared.event.Event.{Event}
use Rattle.fut_syntax.specs.Trees as tree
use Rattle.task_machine.specs.Machine.{Machine, IsStep}
use Rattle.task_code.specs.Flat.{Compiled}
use Rattle.run_replay.specs.declared.step.StepStop.{StepStop}
use Rattle.run_replay.specs.declared.step.StepStop.TheVariants as stop
use Rattle.run_replay.specs.Replays.{ReplayNow, IsReplayOf}

-- the run has made this event, and it is a step
abbrev pub HasMade : tree.Program → Compiled → List Event → Machine → Event → ReplayNow → Type 0
HasMade P code h m e new = (n : Machine) × IsStep P m e n × IsReplayOf P code (h ++ e ∷ []) new n

-- no step is this event
abbrev pub IsNoStep : tree.Program → Machine → Event → Type 0
IsNoStep P m e = (n : Machine) → IsStep P m e n → ⊥

-- the answer to an event that the run is to make
abbrev pub IsStepped : tree.Program → Compiled → List Event → Machine → Event → ReplayNow → Result Unit StepStop → Type 0
IsStepped P code h m e new (Ok _) = HasMade P code h m e new
IsStepped P code h m e new (Err stop.NotLegal) = IsNoStep P m e × IsReplayOf P code h new m
IsStepped P code h m e new (Err stop.NoMemory) = IsReplayOf P code h new m

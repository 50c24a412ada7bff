-- Going on alone: after the workers have ended, the first task in English order makes the next event.
use Rattle.std.specs.Prelude.{◌≡◌, ◌+◌, ◌≤◌, List, [], ◌∷◌, ◌++◌, length, reverse, Option, Some, None}
use Rattle.fut_base.specs.declared.event.Event.{Event}
use Rattle.fut_base.specs.declared.record.Finish.{Finish}
use Rattle.fut_base.specs.declared.record.Limits.{Limits}
use Rattle.fut_syntax.specs.Trees as tree
use Rattle.fut_check.specs.Items.{IsWellTyped}
use Rattle.task_machine.specs.Machine.{Machine, Running, opening, Leads, create_count}
use Rattle.task_code.specs.Flat.{Compiled, IsCodeOf}
use Rattle.run_laws.specs.Laws.{IsFirst}
use Rattle.run_replay.specs.Replays.{ReplayNow, IsReplayOf}
use Rattle.run_replay.specs.Serials.{Stops}

-- after a history each of these events, of which the newest stands first, is of the task that was first
abbrev pub GoesFirstPast : tree.Program → List Event → List Event → Type 0
GoesFirstPast P h [] = Unit {0}
GoesFirstPast P h (e ∷ past) =
    ((m : Machine) × (r : Running) × Leads P (opening P) (h ++ reverse past) m × IsFirst (h ++ reverse past) m e.task r) × GoesFirstPast P h past

-- a history goes on so, up to another one
pub record GoesFirst (P : tree.Program) (h g : List Event) : Type 0 where
  pub past : List Event
  pub is : g ≡ h ++ reverse past
  pub first : GoesFirstPast P h past

-- a run that goes on after a history
pub record Goes (P : tree.Program) (code : Compiled) (limits : Limits) (start h : List Event) (now : ReplayNow) : Type 0 where
  pub machine : Machine
  pub replay : IsReplayOf P code h now machine
  pub few : length h ≤ limits.events
  pub creates_few : create_count h ≤ limits.futures
  pub goes : GoesFirst P start h

abbrev pub AlwaysGoes : Compiled → Limits → List Event → List Event → ReplayNow → Type 0
AlwaysGoes code limits start h now = (P : tree.Program) → IsWellTyped P → IsCodeOf P code → Goes P code limits start h now

-- after a turn the run has made one more event, or stops
abbrev pub HasTurned : Compiled → Limits → List Event → List Event → List Event → ReplayNow → Option Finish → Type 0
HasTurned code limits start h new now None = (length new ≡ length h + 1) × AlwaysGoes code limits start new now
HasTurned code limits start h new now (Some f) =
    (P : tree.Program) → IsWellTyped P → IsCodeOf P code → (x : Goes P code limits start new now) × Stops P limits new x.machine f

-- The serial run: the first task, in English order, of those that have not ended makes the next event.
use Rattle.std.specs.Prelude.{◌≡◌, ℕ, ◌+◌, ◌≤◌, List, [], ◌∷◌, ◌++◌, length, reverse, ℤ, Option, Some, None, ◌⊎◌}
use Rattle.fut_base.specs.declared.event.Event.{Event}
use Rattle.fut_base.specs.declared.record.Finish.{Finish}
use Rattle.fut_base.specs.declared.record.Finish.TheVariants as finish
use Rattle.fut_base.specs.declared.record.Limits.{Limits}
use Rattle.fut_syntax.specs.Trees as tree
use Rattle.fut_check.specs.Items.{IsWellTyped}
use Rattle.task_machine.specs.Machine.{Machine, Running, opening, Leads, EachEnded, create_count, FinishHolds}
use Rattle.task_code.specs.Flat.{Compiled, IsCodeOf}
use Rattle.run_laws.specs.Laws.{IsFirst}
use Rattle.run_replay.specs.Replays.{ReplayNow, IsReplayOf}
use Rattle.run_replay.specs.Next.{IsSpent, MayGoOn}

-- each of these events, of which the newest stands first, is of the task that was first after the earlier ones
abbrev pub IsSerialPast : tree.Program → List Event → Type 0
IsSerialPast P [] = Unit {0}
IsSerialPast P (e ∷ past) =
    ((m : Machine) × (r : Running) × Leads P (opening P) (reverse past) m × IsFirst (reverse past) m e.task r) × IsSerialPast P past

-- each event of the history is of the task that was first after the earlier ones
abbrev pub IsSerial : tree.Program → List Event → Type 0
IsSerial P h = IsSerialPast P (reverse h)

-- why a serial run made no further event: all tasks have ended, or the first that has not is spent
abbrev pub Stops : tree.Program → Limits → List Event → Machine → Finish → Type 0
Stops P limits h m finish.Whole = EachEnded m.tasks
Stops P limits h m f = (t : ℕ) × (r : Running) × IsFirst h m t r × IsSpent P limits h m t f

-- a serial run within the limits that ended so, with these values in its cells
pub record IsSerialRun (P : tree.Program) (limits : Limits) (h : List Event) (f : Finish) (cells : List ℤ) : Type 0 where
  pub machine : Machine
  pub leads : Leads P (opening P) h machine
  pub serial : IsSerial P h
  pub few : length h ≤ limits.events
  pub creates_few : create_count h ≤ limits.futures
  pub stops : Stops P limits h machine f
  pub holds : FinishHolds P h f
  pub cells_are : cells ≡ machine.cells

-- after a history all tasks have ended, or one that has not is out of steps or may go on
abbrev pub IsNotStuck : tree.Program → List Event → Type 0
IsNotStuck P h = (m : Machine) × Leads P (opening P) h m × (EachEnded m.tasks ⊎ ((t : ℕ) × MayGoOn P m t))

-- so it is after each beginning of a history
abbrev pub IsNeverStuck : tree.Program → List Event → Type 0
IsNeverStuck P h = (before later : List Event) → h ≡ before ++ later → IsNotStuck P before

-- a serial run so far
pub record Runs (P : tree.Program) (code : Compiled) (limits : Limits) (h : List Event) (now : ReplayNow) : Type 0 where
  pub machine : Machine
  pub replay : IsReplayOf P code h now machine
  pub serial : IsSerial P h
  pub few : length h ≤ limits.events
  pub creates_few : create_count h ≤ limits.futures

-- the same for each program that the code is of
abbrev pub AlwaysRuns : Compiled → Limits → List Event → ReplayNow → Type 0
AlwaysRuns code limits h now = (P : tree.Program) → IsWellTyped P → IsCodeOf P code → Runs P code limits h now

-- after a turn the run has made one more event, or stops
abbrev pub HasTurned : Compiled → Limits → List Event → List Event → ReplayNow → Option Finish → Type 0
HasTurned code limits h new now None = (length new ≡ length h + 1) × AlwaysRuns code limits new now
HasTurned code limits h new now (Some f) = (P : tree.Program) → IsWellTyped P → IsCodeOf P code
    → (x : Runs P code limits new now) × Stops P limits new x.machine f

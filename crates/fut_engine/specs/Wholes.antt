-- What the value behind the lock keeps.
use Rattle.std.specs.Prelude.{◌≡◌, ℕ, zero, suc, ◌+◌, ◌<◌, ◌≤◌, List, [], ◌∷◌, length, slice_get, Option, Some, None, ◌↔◌}
use Rattle.fut_base.specs.declared.limits.TheConstants.{MOST_CREATES, MOST_ENTRIES, MOST_LOCAL_STEPS}
use Rattle.fut_base.specs.declared.record.Value.{Value}
use Rattle.fut_base.specs.declared.record.Limits.{Limits}
use Rattle.fut_base.specs.declared.event.Event.{Event}
use Rattle.fut_base.specs.Dag.{Among}
use Rattle.fut_syntax.specs.Trees as tree
use Rattle.fut_check.specs.Items.{IsWellTyped}
use Rattle.task_machine.specs.State.{TaskState, wish_of}
use Rattle.task_machine.specs.Runs.{StandsAt}
use Rattle.task_machine.specs.Machine.{Machine, Running, ended_with, create_count}
use Rattle.task_code.specs.Flat.{Compiled, IsCodeOf}
use Rattle.run_replay.specs.Replays.{ReplayNow, IsReplayOf}
use Rattle.run_replay.specs.Next.{WaitsFor}
use Rattle.fut_engine.specs.declared.seat.Seat.{Seat}
use Rattle.fut_engine.specs.Seats.{parent_at, went_for}

-- each item of a list stands in it once
abbrev pub IsOnce : List ℕ → Type 0
IsOnce [] = Unit {0}
IsOnce (x ∷ xs) = (Among x xs → ⊥) × IsOnce xs

abbrev pub still : Option Value → ℕ
still None = 1
still (Some _) = 0

-- how many of these tasks have not ended
abbrev pub unended : Machine → List ℕ → ℕ
unended m [] = 0
unended m (t ∷ ts) = still (ended_with m t) + unended m ts

-- a task that has not ended stands at a wish for its children (none) or for a future
pub record Wants (P : tree.Program) (r : Running) (o : Option ℕ) : Type 0 where
  pub runs : r.value ≡ None
  pub stop : TaskState
  pub stands : StandsAt r.state stop
  pub wish : WaitsFor (wish_of P stop) o

-- who waits for so many children, by what it went to wait for
abbrev pub while_any_sits : ℕ → ℕ → Option ℕ
while_any_sits t zero = None
while_any_sits t (suc _) = Some t

abbrev pub sitter : ℕ → ℕ → Option (Option ℕ) → Option ℕ
sitter t count None = None
sitter t count (Some None) = while_any_sits t count
sitter t count (Some (Some _)) = None

-- the seat of a task of the machine: its value; how many children of its block have not ended, each of which stands there once and names
-- it as its parent; a child that has not ended stands in its parent's block, comes after its parent, and is of an older future; and
-- where the task, or another one, waits, it stands where it will be woken
pub record IsSeat (P : tree.Program) (m : Machine) (seats : List Seat) (t : ℕ) (r : Running) (s : Seat) : Type 0 where
  pub value : s.awaited.value ≡ r.value
  pub count : s.children.count ≡ unended m r.block
  pub once : IsOnce r.block
  pub own : (c : ℕ) → Among c r.block → parent_at seats c ≡ Some t
  pub held : (p : ℕ) → s.parent ≡ Some p → r.value ≡ None → (q : Running) × (slice_get m.tasks p ≡ Some q) × Among t q.block
  pub future : r.future ≤ t
  pub child : (p : ℕ) → s.parent ≡ Some p → (p < t) × (r.future < t)
  pub wants : (o : Option ℕ) → s.waits ≡ Some o → Wants P r o
  pub waiter : s.children.waiter ≡ sitter t s.children.count s.waits
  pub awaits : (u : ℕ) → r.value ≡ None → Among u s.awaited.waiters ↔ (went_for seats u ≡ Some (Some t))
  pub each_once : IsOnce s.awaited.waiters

pub record AreSeated (P : tree.Program) (m : Machine) (seats : List Seat) : Type 0 where
  pub size : length seats ≡ length m.tasks
  pub each : (t : ℕ) (r : Running) (s : Seat) → slice_get m.tasks t ≡ Some r → slice_get seats t ≡ Some s → IsSeat P m seats t r s

-- a run of the program so far, within the limits, and the seats of its tasks
pub record Holds (P : tree.Program) (code : Compiled) (limits : Limits) (h : List Event) (run : ReplayNow) (seats : List Seat) : Type 0 where
  pub machine : Machine
  pub replay : IsReplayOf P code h run machine
  pub few : length h ≤ limits.events
  pub creates_few : create_count h ≤ limits.futures
  pub seated : AreSeated P machine seats

-- the same for each program that the code is of
abbrev pub AlwaysHolds : Compiled → Limits → List Event → ReplayNow → List Seat → Type 0
AlwaysHolds code limits h run seats = (P : tree.Program) → IsWellTyped P → IsCodeOf P code → Holds P code limits h run seats

-- the code is of a program, and the limits are those of a run
pub record IsNamed (code : Compiled) (limits : Limits) : Type 0 where
  pub program : (P : tree.Program) × IsWellTyped P × IsCodeOf P code
  pub local : limits.local_steps ≡ MOST_LOCAL_STEPS
  pub events : limits.events ≤ MOST_ENTRIES
  pub futures : limits.futures ≡ MOST_CREATES

-- what stands behind the lock: a run of the named code within the named limits
pub record IsKept (code : Compiled) (named limits : Limits) (h : List Event) (run : ReplayNow) (seats : List Seat) : Type 0 where
  pub limits_are : limits ≡ named
  pub name : IsNamed code named
  pub holds : AlwaysHolds code named h run seats

-- What a turn says.
use Rattle.std.specs.Prelude.{◌≡◌, ℕ, ◌<◌, true, List, [], ◌∷◌, ◌++◌, length, slice_get, Option, Some, None, ◌⊎◌, ◌↔◌}
use Rattle.fut_base.specs.declared.record.Limits.{Limits}
use Rattle.fut_base.specs.declared.event.Event.{Event}
use Rattle.fut_base.specs.declared.event.Action.{Action}
use Rattle.fut_base.specs.declared.event.Action.TheVariants.{Spawns, Creates, Ends}
use Rattle.fut_base.specs.Dag.{Among}
use Rattle.fut_syntax.specs.Trees as tree
use Rattle.fut_check.specs.Items.{IsWellTyped}
use Rattle.task_machine.specs.Machine.{Machine, Running, opening, Leads, IsStep, IsAllowed, IsRunning, creates, create_count}
use Rattle.task_code.specs.Flat.{Compiled, IsCodeOf}
use Rattle.run_replay.specs.Replays.{ReplayNow}
use Rattle.run_replay.specs.Next.{IsWaiting, IsSpent}
use Rattle.fut_engine.specs.declared.seat.Seat.{Seat}
use Rattle.fut_engine.specs.declared.made.Made.{Made}
use Rattle.fut_engine.specs.declared.made.Made.TheVariants as made
use Rattle.fut_engine.specs.Seats.{parent_at, waits_for, waiters_of, Parks, Settles}
use Rattle.fut_engine.specs.Wholes.{Holds}

-- what a caller sees of the value behind the lock: the events so far, and where the tasks wait
pub record WholeNow : Type 0 where
  pub history : List Event
  pub seats : List Seat

abbrev pub Waits : List Seat → ℕ → Type 0
Waits seats t = (o : Option ℕ) × (waits_for seats t ≡ Some o)

-- a task exists, has not ended and does not wait
pub record CanTurn (m : Machine) (seats : List Seat) (t : ℕ) : Type 0 where
  pub task : Running
  pub running : IsRunning m t task
  pub free : waits_for seats t ≡ None

-- it does not
abbrev pub IsIdle : Machine → List Seat → ℕ → Type 0
IsIdle m seats t = ((r : Running) → IsRunning m t r → ⊥) ⊎ Waits seats t

-- those that an end wakes: first the parent, if it goes on, and then those who wait for the value, in the order in which they came. They are
-- the waiting tasks whose wish is allowed after the end
pub record IsWoken (P : tree.Program) (next : Machine) (old : List Seat) (t : ℕ) (ready : List ℕ) : Type 0 where
  pub first : List ℕ
  pub parent : (first ≡ []) ⊎ ((p : ℕ) × (parent_at old t ≡ Some p) × (first ≡ p ∷ []))
  pub is : ready ≡ first ++ waiters_of (slice_get old t)
  pub exact : (u : ℕ) → Among u ready ↔ (Waits old u × IsAllowed P next u)

-- the tasks that go on after an action of a task
abbrev pub IsReady : tree.Program → Machine → List Seat → ℕ → Action → List ℕ → Type 0
IsReady P next old t (Spawns _ child _ _ _) ready = ready ≡ child ∷ t ∷ []
IsReady P next old t (Creates _ child _ _ _) ready = ready ≡ child ∷ t ∷ []
IsReady P next old t (Ends _) ready = IsWoken P next old t ready
IsReady P next old t _ ready = ready ≡ t ∷ []

-- one event of the task was made, which the limits let be made, and the places where tasks wait were changed as its action says
pub record HasGone (P : tree.Program) (limits : Limits) (m : Machine) (old : WholeNow) (t : ℕ) (new : WholeNow) (ready : List ℕ) : Type 0 where
  pub event : Event
  pub task : event.task ≡ t
  pub next : Machine
  pub step : IsStep P m event next
  pub few : length old.history < limits.events
  pub creates_few : creates event.action ≡ true → create_count old.history < limits.futures
  pub history : new.history ≡ old.history ++ event ∷ []
  pub ready_are : IsReady P next old.seats t event.action ready
  pub settles : Settles old.seats t event.action new.seats ready

-- the task has gone to wait, behind those who came before, since its wish is not allowed, and no event was made
pub record HasParked (P : tree.Program) (m : Machine) (old : WholeNow) (t : ℕ) (new : WholeNow) : Type 0 where
  pub future : Option ℕ
  pub waiting : IsWaiting P m t future
  pub waits : waits_for new.seats t ≡ Some future
  pub others : (u : ℕ) → (u ≡ t → ⊥) → waits_for new.seats u ≡ waits_for old.seats u
  pub history : new.history ≡ old.history
  pub parks : Parks old.seats t future new.seats

-- what the answer on a turn says
abbrev pub Turns : tree.Program → Limits → Machine → WholeNow → ℕ → WholeNow → Made → Type 0
Turns P limits m old t new (made.Went ready) = CanTurn m old.seats t × HasGone P limits m old t new ready.items
Turns P limits m old t new made.Parked = CanTurn m old.seats t × HasParked P m old t new
Turns P limits m old t new made.Idle = IsIdle m old.seats t × (new ≡ old)
Turns P limits m old t new (made.Spent finish) = CanTurn m old.seats t × IsSpent P limits old.history m t finish × (new ≡ old)
Turns P limits m old t new made.NoMemory = CanTurn m old.seats t × (new ≡ old)

-- for each program that the code is of
abbrev pub AlwaysTurns : Compiled → Limits → WholeNow → ℕ → WholeNow → Made → Type 0
AlwaysTurns code limits old t new made =
    (P : tree.Program) → IsWellTyped P → IsCodeOf P code → (m : Machine) × Leads P (opening P) old.history m × Turns P limits m old t new made

-- a turn of a run that is kept, which it leaves kept
abbrev pub KeepsTurning : Compiled → Limits → List Event → ReplayNow → List Seat → ℕ → List Event → ReplayNow → List Seat → Made → Type 0
KeepsTurning code limits h run seats t h' run' seats' made =
    (P : tree.Program) → IsWellTyped P → IsCodeOf P code → (x : Holds P code limits h run seats)
    → Holds P code limits h' run' seats' × Turns P limits x.machine (record { history = h; seats = seats }) t (record { history = h'; seats = seats' }) made

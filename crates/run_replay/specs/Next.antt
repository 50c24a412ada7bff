-- What a call of `event` answers.
use Rattle.std.specs.Prelude.{◌≡◌, ℕ, ◌<◌, ◌≤◌, true, false, List, [], ◌∷◌, ◌++◌, length, Option, Some, None, Bool, ◌⊎◌}
use Rattle.fut_base.specs.declared.event.Event.{Event}
use Rattle.fut_base.specs.declared.record.Finish.{Finish}
use Rattle.fut_base.specs.declared.record.Finish.TheVariants as finish
use Rattle.fut_base.specs.declared.record.Limits.{Limits}
use Rattle.fut_base.specs.Events.{event_of}
use Rattle.fut_syntax.specs.Trees as tree
use Rattle.task_machine.specs.State.{TaskState, Wish, ToSync, ToGet, wish_of}
use Rattle.task_machine.specs.Runs.{StandsAt, IsOutOfSteps}
use Rattle.task_machine.specs.Machine.{Machine, Running, IsStep, IsAllowed, IsRunning, creates, create_count, WishesCreate}
use Rattle.task_code.specs.Flat.{Compiled}
use Rattle.task_code.specs.declared.task.Wish as asked
use Rattle.task_code.specs.declared.task.Wish.TheVariants as wish
use Rattle.run_replay.specs.declared.replay.Next.{Next}
use Rattle.run_replay.specs.declared.replay.Next.TheVariants as next
use Rattle.run_replay.specs.Replays.{ReplayNow, IsReplayOf, IsEvent, IsFree}

-- a wish to create a future
abbrev pub is_create : asked.Wish → Bool
is_create (wish.Create _) = true
is_create _ = false

-- a task that has not ended is out of steps, or its wish is allowed
abbrev pub MayGoOn : tree.Program → Machine → ℕ → Type 0
MayGoOn P m t = (r : Running) × IsRunning m t r × (IsOutOfSteps r.state ⊎ IsAllowed P m t)

-- a task of a wish for its children (none) or for a future
abbrev pub WaitsFor : Wish → Option ℕ → Type 0
WaitsFor w None = w ≡ ToSync
WaitsFor w (Some future) = w ≡ ToGet future

-- a task stands at a wish that is not allowed
pub record IsWaiting (P : tree.Program) (m : Machine) (t : ℕ) (future : Option ℕ) : Type 0 where
  pub task : Running
  pub stop : TaskState
  pub running : IsRunning m t task
  pub stands : StandsAt task.state stop
  pub wish : WaitsFor (wish_of P stop) future
  pub barred : IsAllowed P m t → ⊥

-- a task wishes to create a future, and the history has as many creates as it may
pub record IsFull (P : tree.Program) (limits : Limits) (h : List Event) (m : Machine) (t : ℕ) : Type 0 where
  pub task : Running
  pub running : IsRunning m t task
  pub wishes : WishesCreate P task
  pub many : limits.futures ≤ create_count h

-- the cause for which a task makes no further event
abbrev pub IsSpent : tree.Program → Limits → List Event → Machine → ℕ → Finish → Type 0
IsSpent P limits h m t finish.Whole = ⊥
IsSpent P limits h m t (finish.Events b) = (b ≡ limits.events) × (limits.events ≤ length h) × IsAllowed P m t × (IsFull P limits h m t → ⊥)
IsSpent P limits h m t (finish.Local u) = (u ≡ t) × ((r : Running) × IsRunning m t r × IsOutOfSteps r.state)
IsSpent P limits h m t (finish.Futures u) = (u ≡ t) × IsFull P limits h m t

-- an event is a step that the limits let be made, and the run has made it
pub record IsMade (P : tree.Program) (code : Compiled) (limits : Limits) (h : List Event) (m : Machine) (t : ℕ) (e : Event) (new : ReplayNow) : Type 0 where
  pub task : e.task ≡ t
  pub next : Machine
  pub step : IsStep P m e next
  pub few : length h < limits.events
  pub creates_few : creates e.action ≡ true → create_count h < limits.futures
  pub run : IsReplayOf P code (h ++ e ∷ []) new next

-- an event of a task that wishes this is a step, and the run has made it
pub record Goes (P : tree.Program) (code : Compiled) (h : List Event) (m : Machine) (t : ℕ) (w : asked.Wish) (e : Event) (new : ReplayNow) : Type 0 where
  pub task : e.task ≡ t
  pub next : Machine
  pub step : IsStep P m e next
  pub create : creates e.action ≡ true → is_create w ≡ true
  pub run : IsReplayOf P code (h ++ e ∷ []) new next

-- a task of this wish may make its event
pub record MayGo (limits : Limits) (h : List Event) (m : Machine) (r : Running) (w : asked.Wish) : Type 0 where
  pub event : IsEvent w
  pub free : IsFree m r w
  pub few : length h < limits.events
  pub creates_few : is_create w ≡ true → create_count h < limits.futures

-- an answer that says why a task makes no event
abbrev pub IsBar : tree.Program → Limits → List Event → Machine → ℕ → Next → Type 0
IsBar P limits h m t (next.Waits future) = IsWaiting P m t future × (IsFull P limits h m t → ⊥)
IsBar P limits h m t (next.Spent finish) = IsSpent P limits h m t finish
IsBar P limits h m t _ = ⊥

-- the answer on the next event of a task
abbrev pub IsNext : tree.Program → Compiled → Limits → List Event → Machine → ℕ → ReplayNow → Next → Type 0
IsNext P code limits h m t new (next.Made entry) = IsMade P code limits h m t (event_of entry) new
IsNext P code limits h m t new next.Idle = ((r : Running) → IsRunning m t r → ⊥) × IsReplayOf P code h new m
IsNext P code limits h m t new next.NoMemory = ((r : Running) × IsRunning m t r) × IsReplayOf P code h new m
IsNext P code limits h m t new (next.Waits future) = IsBar P limits h m t (next.Waits future) × IsReplayOf P code h new m
IsNext P code limits h m t new (next.Spent finish) = IsBar P limits h m t (next.Spent finish) × IsReplayOf P code h new m

-- A run on any number of workers: some legal history within the limits, and why it went no further.
use Rattle.std.specs.Prelude.{◌≡◌, ℕ, ◌≤◌, List, length, ℤ}
use Rattle.fut_base.specs.declared.event.Event.{Event}
use Rattle.fut_base.specs.declared.record.Finish.{Finish}
use Rattle.fut_base.specs.declared.record.Finish.TheVariants as finish
use Rattle.fut_base.specs.declared.record.Limits.{Limits}
use Rattle.fut_syntax.specs.Trees as tree
use Rattle.task_machine.specs.Machine.{Machine, opening, Leads, EachEnded, create_count, FinishHolds}
use Rattle.run_replay.specs.Next.{IsSpent}

-- why a run made no further event: all tasks have ended, or one that has not is spent
abbrev pub Ends : tree.Program → Limits → List Event → Machine → Finish → Type 0
Ends P limits h m finish.Whole = EachEnded m.tasks
Ends P limits h m f = (t : ℕ) × IsSpent P limits h m t f

-- a run within the limits that ended so, with these values in its cells
pub record IsRun (P : tree.Program) (limits : Limits) (h : List Event) (f : Finish) (cells : List ℤ) : Type 0 where
  pub machine : Machine
  pub leads : Leads P (opening P) h machine
  pub few : length h ≤ limits.events
  pub creates_few : create_count h ≤ limits.futures
  pub ends : Ends P limits h machine f
  pub holds : FinishHolds P h f
  pub cells_are : cells ≡ machine.cells

-- What it means that a record is one of a program.
use Rattle.std.specs.Prelude.{◌≡◌, ℕ, List, length, take, slice_get, Some, Result, Ok, Err, ◌⊎◌}
use Rattle.fut_base.specs.declared.event.Event.{Event}
use Rattle.fut_base.specs.declared.record.Race.{Race}
use Rattle.fut_base.specs.declared.record.Finish.{Finish}
use Rattle.fut_base.specs.Racing.{IsReport}
use Rattle.fut_syntax.specs.Trees as tree
use Rattle.task_machine.specs.Machine.{Machine, Leads, IsLegal, FinishHolds, opening}
use Rattle.run_check.specs.declared.checking.RunFault.{RunFault}
use Rattle.run_check.specs.declared.checking.RunFault.TheVariants as fault
use Rattle.task_code.specs.Flat.{Compiled}
use Rattle.run_replay.specs.Steps.{IsNoStep}
use Rattle.run_replay.specs.Replays.{ReplayNow, IsReplayOf}

-- the races and the finish are those of the history
abbrev pub AreThoseOf : tree.Program → List Event → List Race → Finish → Type 0
AreThoseOf P h races end = IsReport h races × FinishHolds P h end

-- the entries are legal, and races and finish are those of the history
pub record IsAccepted (P : tree.Program) (h : List Event) (races : List Race) (end : Finish) : Type 0 where
  pub legal : IsLegal P h
  pub those : AreThoseOf P h races end

-- the entries before this one are legal, and it is no step after them
pub record IsNoStepAt (P : tree.Program) (h : List Event) (k : ℕ) : Type 0 where
  pub machine : Machine
  pub before : Leads P (opening P) (take k h) machine
  pub entry : Event
  pub stands : slice_get h k ≡ Some entry
  pub none : IsNoStep P machine entry

-- all entries are legal, this is their number, and races or finish are not those of the history
pub record AreOthers (P : tree.Program) (h : List Event) (races : List Race) (end : Finish) (k : ℕ) : Type 0 where
  pub legal : IsLegal P h
  pub number : k ≡ length h
  pub others : AreThoseOf P h races end → ⊥

-- a record is refused at entry k: it is no step, or all are legal and the rest is not that of the history
abbrev pub IsRefusedAt : tree.Program → List Event → List Race → Finish → ℕ → Type 0
IsRefusedAt P h races end k = IsNoStepAt P h k ⊎ AreOthers P h races end k

-- the answer on a record
abbrev pub IsChecked : tree.Program → List Event → List Race → Finish → Result Unit RunFault → Type 0
IsChecked P h races end (Ok _) = IsAccepted P h races end
IsChecked P h races end (Err (fault.NotLegal k)) = IsRefusedAt P h races end k
IsChecked P h races end (Err fault.NoMemory) = Unit {0}

-- a run has made these events; or those before one of them are legal, and it is no step after them
abbrev pub IsReplayed : tree.Program → Compiled → List Event → Result ReplayNow RunFault → Type 0
IsReplayed P code h (Ok now) = (m : Machine) × IsReplayOf P code h now m
IsReplayed P code h (Err (fault.NotLegal k)) = IsNoStepAt P h k
IsReplayed P code h (Err fault.NoMemory) = Unit {0}

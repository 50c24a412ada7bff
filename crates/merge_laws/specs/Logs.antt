-- One log of all draws, the newest one first: the number of the holder that drew, and its entry. The ticket of a draw is the
-- number of draws before it.
use Rattle.std.specs.Prelude.{◌≡◌, ℕ, zero, suc, ◌+◌, ◌<◌, ◌==◌, Bool, if◌then◌else◌, List, [], ◌∷◌, ◌++◌, length, map, reverse}
use Rattle.fut_base.specs.declared.event.Event.{Event}
use Rattle.fut_base.specs.Dag.{Among}
use Rattle.fut_base.specs.Sound.{IsSound}
use Rattle.fut_syntax.specs.Trees as tree
use Rattle.task_machine.specs.Machine.{IsLegal}
use Rattle.run_laws.specs.Laws.{HasCells}
use Rattle.event_clock.specs.Rule.{own_of, trace_of}
use Rattle.merge_laws.specs.Parts.{Drawn, events_in, ShareOut, IsMerge, AreShards, IsTraceOf, IsTraced, IsSharedRun}

-- those of n holders, from a number on
abbrev pub owns_from : ℕ → ℕ → List (ℕ × Event) → List (List Drawn)
owns_from h zero log = []
owns_from h (suc n) log = own_of h log ∷ owns_from (h + 1) n log

-- the entries of all, the oldest one first
abbrev pub history_of : List (ℕ × Event) → List Event
history_of log = reverse (map (λ (x : ℕ × Event). x.1) log)

-- each draw is of one of n holders
abbrev pub AreOfHolders : ℕ → List (ℕ × Event) → Type 0
AreOfHolders n log = (x : ℕ × Event) → Among x log → x.0 < n

-- the holders' lists share out the draws, and their merge is the log
abbrev pub LogIsShared : Type 0
LogIsShared = (n : ℕ) (log : List (ℕ × Event)) → AreOfHolders n log → ShareOut (length log) (owns_from 0 n log) × IsMerge (owns_from 0 n log) (history_of log)

-- and the entries of a task in the log are its trace
abbrev pub LogHasTraces : Type 0
LogHasTraces = (n : ℕ) (log : List (ℕ × Event)) (t : ℕ) → AreOfHolders n log → IsTraceOf (owns_from 0 n log) t (trace_of t log)

-- what is known of a run whose draws are in one log: holder 0 has the structural entries, and n others have the accesses
pub record IsLoggedRun (P : tree.Program) (n : ℕ) (place : ℕ → ℕ) (log : List (ℕ × Event)) (traces : List (ℕ × List Drawn)) : Type 0 where
  pub holders : AreOfHolders (n + 1) log
  pub sound : IsSound (events_in (own_of 0 log))
  pub shared : AreShards place (owns_from 1 n log)
  pub tasks : (x : ℕ × Event) → Among x log → (trace : List Drawn) × Among (x.1.task, trace) traces
  pub whole : (r : ℕ × List Drawn) → Among r traces → r.1 ≡ trace_of r.0 log
  pub traced : (r : ℕ × List Drawn) → Among r traces → IsTraced P (own_of 0 log) r.0 r.1

-- it was shared out, and its merge is the log
abbrev pub LogGivesRun : Type 0
LogGivesRun =
    (P : tree.Program) (n : ℕ) (place : ℕ → ℕ) (log : List (ℕ × Event)) (traces : List (ℕ × List Drawn)) → IsLoggedRun P n place log traces
    → IsSharedRun P (length log) place (own_of 0 log) (owns_from 1 n log) traces × IsMerge (own_of 0 log ∷ owns_from 1 n log) (history_of log)

-- so the log is a legal history
abbrev pub LogIsLegal : Type 0
LogIsLegal = (P : tree.Program) (n : ℕ) (place : ℕ → ℕ) (log : List (ℕ × Event)) (traces : List (ℕ × List Drawn)) → HasCells P
    → IsLoggedRun P n place log traces → IsLegal P (history_of log)

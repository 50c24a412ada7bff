-- What is known of a run when all its tasks have come together: of each task there is one trace, by a beginning of the book.
use Rattle.std.specs.Prelude.{◌≡◌, ℕ, ◌+◌, ◌≤◌, true, List, length, map, reverse}
use Rattle.fut_base.specs.declared.event.Event.{Event}
use Rattle.fut_base.specs.Events.{structural}
use Rattle.fut_base.specs.Dag.{Among}
use Rattle.fut_base.specs.Sound.{IsSound, next_task}
use Rattle.fut_syntax.specs.Trees as tree
use Rattle.event_clock.specs.Views.{times}
use Rattle.event_clock.specs.Rule.{own_of, trace_of, IsOrderly, IsPrefix}
use Rattle.merge_laws.specs.Parts.{Drawn, events_in, AreShards, IsTraced}
use Rattle.merge_laws.specs.Logs.{owns_from, IsLoggedRun}

-- the tasks of traces
abbrev pub tasks_of : List (ℕ × List Drawn) → List ℕ
tasks_of traces = map (λ (r : ℕ × List Drawn). r.0) traces

-- a trace leads to a state by a beginning of the book, which has all its structural entries
pub record IsKnownTrace (P : tree.Program) (book : List Drawn) (task : ℕ) (trace : List Drawn) : Type 0 where
  pub known : List Drawn
  pub begins : IsPrefix known book
  pub traced : IsTraced P known task trace
  pub own : (x : Drawn) → Among x trace → structural x.1.action ≡ true → Among x known

-- the log of a clock with n + 1 holders, of which holder 0 has the structural entries and the others have the accesses, and traces
pub record IsGathered (P : tree.Program) (n : ℕ) (place : ℕ → ℕ) (log : List (ℕ × Event)) (traces : List (ℕ × List Drawn)) : Type 0 where
  pub orderly : IsOrderly (n + 1) log
  pub sound : IsSound (events_in (own_of 0 log))
  pub shared : AreShards place (owns_from 1 n log)
  -- each trace is that of its task
  pub whole : (r : ℕ × List Drawn) → Among r traces → r.1 ≡ trace_of r.0 log
  pub known : (r : ℕ × List Drawn) → Among r traces → IsKnownTrace P (own_of 0 log) r.0 r.1
  -- no task has two, and there are as many as there are tasks
  pub once : (t : ℕ) → times t (tasks_of traces) ≤ 1
  pub many : length traces ≡ next_task (reverse (events_in (own_of 0 log)))

-- so no trace is missing, and all is known that makes the log a run
abbrev pub GatheredGivesRun : Type 0
GatheredGivesRun = (P : tree.Program) (n : ℕ) (place : ℕ → ℕ) (log : List (ℕ × Event)) (traces : List (ℕ × List Drawn)) → IsGathered P n place log traces
    → IsLoggedRun P n place log traces

-- The same run, up to the numbers of tasks. Lists of events have the newest event first.
use Rattle.std.specs.Prelude.{◌≡◌, ℕ, ◌==◌, ◌<◌, List, [], ◌∷◌, length, filter, reverse, slice_get, Some}
use Rattle.fut_base.specs.declared.event.Event.{Event}
use Rattle.task_machine.specs.Machine.{Machine, Running}
use Rattle.clean_laws.specs.Same.{Names, Matched, SameOption, SameAction}

-- the events of a task
abbrev pub events_by : ℕ → List Event → List Event
events_by t past = filter (λ e. e.task == t) past

-- the same actions, one by one
abbrev pub SameTrace : Names → List Event → List Event → Type 0
SameTrace names [] [] = Unit {0}
SameTrace names (e ∷ es) (d ∷ ds) = SameAction (Matched names) e.action d.action × SameTrace names es ds
SameTrace names [] (d ∷ ds) = ⊥
SameTrace names (e ∷ es) [] = ⊥

-- the tasks of one run are matched, one to one, with those of the other: the first one with the first one, each with the same text,
-- the same end value and the same trace; so there are as many events
pub record IsSameRun (names : Names) (g h : List Event) (n m : Machine) : Type 0 where
  pub count : length g ≡ length h
  pub first : Matched names 0 0
  pub inside : (t u : ℕ) → Matched names t u → (t < length n.tasks) × (u < length m.tasks)
  pub lefts : (t : ℕ) → t < length n.tasks → (u : ℕ) × Matched names t u
  pub rights : (u : ℕ) → u < length m.tasks → (t : ℕ) × Matched names t u
  pub mates : (t u v : ℕ) → Matched names t u → Matched names t v → u ≡ v
  pub single : (t s u : ℕ) → Matched names t u → Matched names s u → t ≡ s
  pub tasks : (t u : ℕ) (q r : Running) → Matched names t u → slice_get n.tasks t ≡ Some q → slice_get m.tasks u ≡ Some r
      → (q.which ≡ r.which) × SameOption (Matched names) q.value r.value
  pub traces : (t u : ℕ) → Matched names t u → SameTrace names (events_by t (reverse g)) (events_by u (reverse h))

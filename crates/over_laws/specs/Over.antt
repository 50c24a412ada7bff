-- What is known when a run is over, and all its parts have come together.
use Rattle.std.specs.Prelude.{◌≡◌, ℕ, ℤ, ◌+◌, ◌<◌, ◌≤◌, min, List, [], ◌∷◌, ◌++◌, length, map, slice_get, Option, Some, ◌⊎◌, ◌↔◌}
use Rattle.atomic_table.specs.Seated.{TableId}
use Rattle.fut_base.specs.declared.limits.TheConstants.{MOST_CREATES}
use Rattle.fut_base.specs.declared.event.Event.{Event}
use Rattle.fut_base.specs.declared.record.Entry.{Entry}
use Rattle.fut_base.specs.declared.record.Finish.{Finish}
use Rattle.fut_base.specs.declared.record.Limits.{Limits}
use Rattle.fut_base.specs.declared.record.Race.{Race}
use Rattle.fut_base.specs.Racing.{IsReport}
use Rattle.fut_base.specs.Dag.{Among}
use Rattle.fut_base.specs.Events.{event_of}
use Rattle.fut_base.specs.Listed.{Listed}
use Rattle.fut_syntax.specs.Trees as tree
use Rattle.fut_check.specs.Items.{IsWellTyped}
use Rattle.task_code.specs.Flat.{Compiled, IsCodeOf}
use Rattle.trace_merge.specs.Placing.{AreApart, entries_in}
use Rattle.event_clock.specs.declared.view.Carried.{Carried}
use Rattle.event_clock.specs.Views.{numbers_of, number_of, carries}
use Rattle.event_clock.specs.Rule.{IsPrefix}
use Rattle.event_clock.specs.Seated.{Ticking, Seated}
use Rattle.event_clock.specs.Closing.{IsClosed}
use Rattle.merge_laws.specs.Logs.{history_of}
use Rattle.merge_laws.specs.Gathered.{IsGathered}
use Rattle.run_place.specs.Placed.{book_of}
use Rattle.run_book.specs.Drawn.{drawn_of}
use Rattle.run_book.specs.Jobs.{JobNow, IsJob, known_to}
use Rattle.run_book.specs.Books.{BookNow, IsBook, jobs_in}
use Rattle.run_shard.specs.Shards.{ShardNow, IsShard, shard_of}
use Rattle.over_laws.specs.Halted.{HaveCeased}
use Rattle.over_laws.specs.Runs.{IsRun}
use Rattle.over_laws.specs.Cells.{AreCells, ArePairs}

-- a job's task with its trace
abbrev pub carried_job : JobNow → Carried
carried_job j = record { task = j.task.number; trace = drawn_of j.task.trace.items }

-- tasks with their traces
abbrev pub traces_in : List Carried → List (ℕ × List (ℕ × Event))
traces_in cs = map (λ (c : Carried). (c.task, c.trace)) cs

-- the holders of a run: the book's, as it is now, and those of the shards
abbrev pub holders_of : Seated → List ShardNow → List Seated
holders_of h shards = h ∷ map (λ (s : ShardNow). s.holder) shards

-- the book's holder was told what these jobs knew: it knows all of it, and carries their tasks beside its own, each task once
pub record HasHeard (old new : Seated) (jobs : List JobNow) : Type 0 where
  pub clock : new.clock ≡ old.clock
  pub own : new.view.own ≡ old.view.own
  pub late : new.view.late ≡ old.view.late
  pub tasks : new.view.tasks ≡ old.view.tasks ++ map carried_job jobs
  pub once : (t : ℕ) → carries t new.view.tasks ≤ 1
  pub known : IsPrefix (book_of old.view) (book_of new.view)
  pub knows : (j : JobNow) → Among j jobs → IsPrefix (known_to j) (book_of new.view)

-- a run at its end: its clock, orders, code and limits; its book, its shards and the jobs that are left; and the book's holder after it
-- was told what these knew
pub record Final : Type 0 where
  pub clock : Ticking
  pub orders : TableId
  pub code : Compiled
  pub limits : Limits
  pub book : BookNow
  pub shards : List ShardNow
  pub jobs : List JobNow
  pub heard : Seated

-- all of the run is there: the book, the eight shards, all jobs, and their nine holders
pub record IsOver (the : Final) : Type 0 where
  pub book : IsBook the.clock the.orders the.code the.limits the.book
  pub shards_are : (i : ℕ) (s : ShardNow) → slice_get the.shards i ≡ Some s → IsShard the.clock the.orders the.code i s
  pub eight : length the.shards ≡ 8
  pub jobs_are : (j : JobNow) → Among j the.jobs → IsJob the.clock the.orders the.code j
  pub heard : HasHeard the.book.holder the.heard the.jobs
  pub nine : the.clock.size.holders ≡ 9
  -- each holder has one number
  pub one : (u : Seated) → Among u (holders_of the.heard the.shards) → numbers_of u.view.own ≡ number_of u.view ∷ []
  -- no job is missing
  pub many : length the.book.traces + length the.jobs ≡ length the.book.lines

-- and its clock was closed, after so many draws
abbrev pub IsShut : Final → ℕ → Type 0
IsShut the count = IsClosed the.clock.size (holders_of the.heard the.shards) [] count

-- then the traces that the book's holder carries are those of all tasks, and all is known that makes the log a run
abbrev pub OverGivesGathered : Type 0
OverGivesGathered =
    (P : tree.Program) (the : Final) (count : ℕ) → IsWellTyped P → IsCodeOf P the.code → IsOver the → (shut : IsShut the count)
    → IsGathered P 8 shard_of shut.log (traces_in the.heard.view.tasks)

-- a run stopped: each job was left by its turns, or it waits in the book; and the turns ceased for this cause
pub record HasStopped (the : Final) (left : List JobNow) (f : Finish) : Type 0 where
  pub all : (j : JobNow) → Among j the.jobs → Among j left ⊎ Among j (jobs_in the.book.lines)
  pub left_are : (j : JobNow) → Among j left → Among j the.jobs
  pub ends : HaveCeased the.clock the.orders the.code the.limits the.book (holders_of the.book.holder the.shards) left f

-- so the log is a run of the program: a legal history within the limits, which ended for this cause; and the cells of the shards are its cells
abbrev pub OverGivesRun : Type 0
OverGivesRun =
    (P : tree.Program) (the : Final) (count : ℕ) → IsWellTyped P → IsCodeOf P the.code → IsOver the → (shut : IsShut the count)
    → (left : List JobNow) (f : Finish) (values : List ℤ) (pairs : List (Option (ℕ × ℕ))) → the.limits.futures ≡ MOST_CREATES
    → HasStopped the left f → AreCells the.code the.shards values pairs → IsRun P the.limits (history_of shut.log) f values

-- and its report are the first pairs that the shards have kept
abbrev pub OverGivesReport : Type 0
OverGivesReport =
    (P : tree.Program) (the : Final) (count : ℕ) → IsWellTyped P → IsCodeOf P the.code → IsOver the → (shut : IsShut the count)
    → (values : List ℤ) (pairs : List (Option (ℕ × ℕ))) (races : List Race) → AreCells the.code the.shards values pairs → ArePairs pairs races
    → IsReport (history_of shut.log) races

-- the traces of all tasks: those of the tasks that have ended, and those of the jobs that are left
abbrev pub traces_left : BookNow → List JobNow → List (Listed (ℕ × Entry))
traces_left b jobs = b.traces ++ map (λ (j : JobNow). j.task.trace) jobs

-- these entries are all of a log: no two have one ticket, no ticket is missing, and a list with each at the place of its ticket has the
-- events of the log
pub record AreAll (log : List (ℕ × Event)) (count : ℕ) (entries : List (ℕ × Entry)) : Type 0 where
  pub apart : AreApart count entries
  pub all : (k : ℕ) → k < count → (e : Entry) × Among (k, e) entries
  pub events : (made : List Entry) → ((k : ℕ) (e : Entry) → (slice_get made k ≡ Some e) ↔ Among (k, e) entries) → map event_of made ≡ history_of log

-- the entries of these traces are all of the log, which has an entry for each ticket that was drawn below the bound
abbrev pub OverGivesHistory : Type 0
OverGivesHistory =
    (P : tree.Program) (the : Final) (count : ℕ) → IsWellTyped P → IsCodeOf P the.code → IsOver the → (shut : IsShut the count)
    → AreAll shut.log (min count the.clock.size.bound) (entries_in (traces_left the.book the.jobs))

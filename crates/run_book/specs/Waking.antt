-- How jobs that waited go on. Lists of events called `past` have the newest event first.
use Rattle.std.specs.Prelude.{◌≡◌, ℕ, ◌+◌, ◌-◌, List, [], ◌∷◌, ◌++◌}
use Rattle.atomic_table.specs.Seated.{TableId}
use Rattle.fut_base.specs.declared.record.Limits.{Limits}
use Rattle.fut_base.specs.declared.event.Event.{Event}
use Rattle.task_code.specs.Flat.{Compiled}
use Rattle.event_clock.specs.Seated.{Ticking, Seated}
use Rattle.order_query.specs.Reading.{Writing}
use Rattle.run_counts.specs.Counted.{Counted, Handed}
use Rattle.run_place.specs.Placed.{book_of}
use Rattle.run_book.specs.Drawn.{past_in}
use Rattle.run_book.specs.Jobs.{JobNow, MayWait, IsFree, Stands}
use Rattle.run_book.specs.Books.{BookNow, IsBook}
use Rattle.run_book.specs.Steps.{IsWoken}

-- a job waits, with a pace of 1, for what has ended by these entries
abbrev pub IsFreed : Compiled → List (ℕ × Event) → JobNow → Type 0
IsFreed code book j = (j.pace ≡ 1) × Stands code j.task (λ P w. MayWait w × IsFree (past_in book) j.task.number w)

-- so does each of these
abbrev pub AreFreed : Compiled → List (ℕ × Event) → List JobNow → Type 0
AreFreed code book [] = Unit {0}
AreFreed code book (j ∷ js) = IsFreed code book j × AreFreed code book js

-- there is a first one, which does so
abbrev pub IsFirstFreed : Compiled → List (ℕ × Event) → List JobNow → Type 0
IsFirstFreed code book [] = ⊥
IsFirstFreed code book (j ∷ js) = IsFreed code book j

-- the holder and the writer are those of a book
abbrev pub AreOfBook : Ticking → TableId → Compiled → Limits → Seated → Writing → Type 0
AreOfBook clock orders code limits h w = (b : BookNow) × IsBook clock orders code limits b × (b.holder ≡ h) × (b.writer ≡ w)

-- a holder has the entries and the tasks that it had, and knows the same of the book
pub record IsHolderStill (old new : Seated) : Type 0 where
  pub clock : new.clock ≡ old.clock
  pub own : new.view.own ≡ old.view.own
  pub late : new.view.late ≡ old.view.late
  pub known : book_of new.view ≡ book_of old.view
  pub tasks : new.view.tasks ≡ old.view.tasks

-- so many jobs that waited go on
abbrev pub woken_by : ℕ → Counted → Counted
woken_by n c = record c { running = c.running + n; waiting = c.waiting - n; given = c.given + n }

-- so many jobs went out to a worker
abbrev pub handed : ℕ → Handed → Handed
handed n h = record { given = h.given + n; taken = h.taken }

-- the first of the jobs goes on, and comes behind the others
abbrev pub IsFirstWoken : List JobNow → List JobNow → Type 0
IsFirstWoken [] new = ⊥
IsFirstWoken (j ∷ js) new = (k : JobNow) × IsWoken j k × (new ≡ js ++ k ∷ [])

-- What a call of the book answers. Lists of events called `past` have the newest event first.
use Rattle.std.specs.Prelude.{◌≡◌, ℕ, ◌+◌, ◌<◌, ◌≤◌, List, [], ◌∷◌, ◌++◌, length, map, Option, Some, None, ◌⊎◌, ◌↔◌}
use Rattle.fut_base.specs.declared.record.Entry.{Entry}
use Rattle.fut_base.specs.declared.record.Finish.{Finish}
use Rattle.fut_base.specs.declared.record.Finish.TheVariants as finish
use Rattle.fut_base.specs.declared.record.Value.{Value}
use Rattle.fut_base.specs.declared.event.Event.{Event}
use Rattle.fut_base.specs.declared.event.Action.{Action}
use Rattle.fut_base.specs.declared.event.Action.TheVariants.{Spawns, Creates, Syncs, Gets, Ends}
use Rattle.fut_base.specs.Dag.{Among}
use Rattle.fut_base.specs.Sound.{MayFollow}
use Rattle.fut_base.specs.Listed.{Listed}
use Rattle.fut_syntax.specs.Trees as tree
use Rattle.fut_check.specs.Items.{IsWellTyped}
use Rattle.task_machine.specs.State.{TaskState, ToRead, ToWrite, ToSpawn, ToCreate, ToSync, ToGet, ToEnd, Answers}
use Rattle.task_machine.specs.Runs.{IsOutOfSteps}
use Rattle.task_code.specs.Flat.{Compiled, IsCodeOf}
use Rattle.task_code.specs.Tasks.{TaskNow, IsTaskOf}
use Rattle.task_code.specs.declared.task.Wish.{Wish}
use Rattle.task_code.specs.declared.task.Wish.TheVariants as wish
use Rattle.event_clock.specs.declared.view.View.{View}
use Rattle.event_clock.specs.Views.{list_at}
use Rattle.event_clock.specs.Rule.{IsPrefix}
use Rattle.order_query.specs.Logs.{StartsWith}
use Rattle.run_counts.specs.Counted.{Handed}
use Rattle.run_counts.specs.Moves.{turned}
use Rattle.run_book.specs.declared.stepped.Stepped.{Stepped}
use Rattle.run_book.specs.declared.stepped.Stepped.TheVariants as became
use Rattle.run_book.specs.Drawn.{drawn_of, past_in}
use Rattle.run_place.specs.Placed.{events_in}
use Rattle.run_book.specs.Jobs.{JobNow, StartsAs, IsFree, IsBarred, Stands, known_to}
use Rattle.run_book.specs.Books.{BookNow, entries_of, jobs_in, wait_for}

-- by what became of a job
abbrev pub MatchStepped : {T : Type 0} → Stepped T → (List T → Type 0) → Type 0 → (T → Finish → Type 0) → (T → Type 0) → Type 0
MatchStepped (became.Went jobs) went parked spent none = went jobs.items
MatchStepped became.Parked went parked spent none = parked
MatchStepped (became.Spent job finish) went parked spent none = spent job finish
MatchStepped (became.NoMemory job) went parked spent none = none job

-- a task is as it was, but for room and local steps
pub record IsSameTask (old new : TaskNow) : Type 0 where
  pub number : new.number ≡ old.number
  pub which : new.which ≡ old.which
  pub trace : new.trace.items ≡ old.trace.items

-- a job is handed back: its task, its strand, its table and its pace are as they were, and it knows no less
pub record IsBack (old new : JobNow) : Type 0 where
  pub task : IsSameTask old.task new.task
  pub strand : new.place.at ≡ old.place.at
  pub table : new.place.table ≡ old.place.table
  pub pace : new.pace ≡ old.pace
  pub pass : (h : ℕ) → IsPrefix (list_at old.place.pass.view.known h) (list_at new.place.pass.view.known h)
  pub reader : StartsWith new.place.reader.log old.place.reader.log

-- no entry was made, and what is counted is as it was
pub record IsStill (old new : BookNow) (hand_old hand_new : Handed) : Type 0 where
  pub entries : entries_of new ≡ entries_of old
  pub counts : new.counts ≡ old.counts
  pub hand : hand_new ≡ hand_old

-- a job's task makes an event, which is a legal step after the entries of the book, at a ticket that is below the bound and above those
-- of the book and of the task
pub record IsEventOf (code : Compiled) (bound : ℕ) (old new : BookNow) (job : JobNow) (e : Event) : Type 0 where
  pub ticket : ℕ
  pub below : ticket < bound
  pub later : (x : ℕ × Event) → Among x (entries_of old) ⊎ Among x (drawn_of job.task.trace.items) → x.0 < ticket
  pub kept : entries_of new ≡ entries_of old ++ (ticket, e) ∷ []
  pub own : (e.task ≡ job.task.number) × (e.strand ≡ job.place.at.number)
  pub follows : MayFollow (past_in (entries_of old)) e
  pub answers : Stands code job.task (λ P w. Answers w e.action)
  -- as many parts of the shares are in no hand
  pub parts : new.counts.rest.parts ≡ old.counts.rest.parts

-- a task has one more entry in its trace
pub record HasFed (old new : TaskNow) (ticket : ℕ) (e : Event) : Type 0 where
  pub number : new.number ≡ old.number
  pub which : new.which ≡ old.which
  pub trace : drawn_of new.trace.items ≡ drawn_of old.trace.items ++ (ticket, e) ∷ []

-- the numbers of the tasks of jobs
abbrev pub numbers_in : List JobNow → List ℕ
numbers_in jobs = map (λ (j : JobNow). j.task.number) jobs

-- an action begins a task
abbrev pub begins : Action → ℕ → Type 0
begins (Spawns _ child _ _ _) t = child ≡ t
begins (Creates _ child _ _ _) t = child ≡ t
begins _ t = ⊥

-- after a spawn or a create the jobs are the child's and the parent's
pub record HasForked (code : Compiled) (bound : ℕ) (old new : BookNow) (hand_old hand_new : Handed) (job : JobNow) (jobs : List JobNow) : Type 0 where
  pub event : Event
  pub made : IsEventOf code bound old new job event
  pub child : JobNow
  pub parent : JobNow
  pub both : jobs ≡ child ∷ parent ∷ []
  pub begun : begins event.action child.task.number × (child.task.trace.items ≡ [])
  pub fed : HasFed job.task parent.task made.ticket event
  pub paces : (child.pace ≡ 1) × (parent.pace ≡ 1)
  pub hand : hand_new ≡ turned 2 hand_old

-- after a sync or a get the job goes on; what it waited for had ended
pub record HasGone (code : Compiled) (bound : ℕ) (old new : BookNow) (hand_old hand_new : Handed) (job : JobNow) (jobs : List JobNow) : Type 0 where
  pub event : Event
  pub made : IsEventOf code bound old new job event
  pub next : JobNow
  pub one : jobs ≡ next ∷ []
  pub fed : HasFed job.task next.task made.ticket event
  pub pace : next.pace ≡ 1
  pub hand : hand_new ≡ turned 1 hand_old

-- a job waits in the book, which does not allow its wish
pub record HasParked (code : Compiled) (old new : BookNow) (hand_old hand_new : Handed) (job : JobNow) : Type 0 where
  pub barred : Stands code job.task (λ P w. IsBarred (past_in (entries_of old)) job.task.number w)
  pub entries : entries_of new ≡ entries_of old
  -- the job waits there beside those that waited
  pub kept : (j : JobNow) × IsBack job j × ((k : JobNow) → Among k (jobs_in new.lines) ↔ (Among k (jobs_in old.lines) ⊎ (k ≡ j)))
  pub parts : new.counts.rest.parts ≡ old.counts.rest.parts
  pub hand : hand_new ≡ turned 0 hand_old

-- a job waits in the book, or there is no memory for that
abbrev pub Waits : BookNow → BookNow → Handed → Handed → JobNow → Stepped JobNow → Type 0
Waits old new hand_old hand_new job result =
    MatchStepped result (λ jobs. ⊥)
    ((entries_of new ≡ entries_of old) × ((k : JobNow) → Among k (jobs_in new.lines) ↔ (Among k (jobs_in old.lines) ⊎ (k ≡ job)))
    × (hand_new ≡ turned 0 hand_old) × (new.counts.rest.parts ≡ old.counts.rest.parts))
    (λ back f. ⊥) (λ back. (back ≡ job) × (new ≡ old) × (hand_new ≡ hand_old))

-- a job that waited goes on
pub record IsWoken (old new : JobNow) : Type 0 where
  pub task : IsSameTask old.task new.task
  pub strand : new.place.at ≡ old.place.at
  pub table : new.place.table ≡ old.place.table
  pub pace : new.pace ≡ 0

-- these jobs go on that waited, in their order: each may not wait again before its next event
abbrev pub AreWoken : List JobNow → List JobNow → Type 0
AreWoken [] [] = Unit {0}
AreWoken [] (_ ∷ _) = ⊥
AreWoken (_ ∷ _) [] = ⊥
AreWoken (j ∷ js) (k ∷ ks) = IsWoken j k × AreWoken js ks

-- after an end those go on that waited for it
pub record HasEnded (code : Compiled) (bound : ℕ) (old new : BookNow) (hand_old hand_new : Handed) (job : JobNow) (jobs : List JobNow) : Type 0 where
  pub event : Event
  pub made : IsEventOf code bound old new job event
  pub woken : AreWoken (wait_for old.lines job.task.number) jobs
  pub hand : hand_new ≡ turned (length jobs) hand_old

-- no ticket below the bound is left; the job's wish is allowed, and the holder was turned away
pub record IsSpent (code : Compiled) (limits_events : ℕ) (old new : BookNow) (hand_old hand_new : Handed) (job back : JobNow) (f : Finish) : Type 0 where
  pub finish_is : f ≡ finish.Events limits_events
  pub still : IsStill old new hand_old hand_new
  pub back_is : IsBack job back
  pub late : new.holder.view.late ≡ 1
  pub free : Stands code job.task (λ P w. IsFree (past_in (entries_of old)) job.task.number w)

-- so many futures were created as a run may create
pub record AreCreated (futures : ℕ) (old new : BookNow) (hand_old hand_new : Handed) (job back : JobNow) (f : Finish) : Type 0 where
  pub finish_is : f ≡ finish.Futures job.task.number
  pub all : old.creates ≡ futures
  pub same : new ≡ old
  pub hand : hand_new ≡ hand_old
  pub back_is : back ≡ job

-- want of memory
pub record IsRefused (old new : BookNow) (hand_old hand_new : Handed) (job back : JobNow) : Type 0 where
  pub still : IsStill old new hand_old hand_new
  pub back_is : IsBack job back

-- an answer says that no ticket below the bound is left
abbrev pub IsSpentAt : ℕ → Stepped JobNow → Type 0
IsSpentAt bound result = MatchStepped result (λ jobs. ⊥) ⊥ (λ back f. f ≡ finish.Events bound) (λ back. ⊥)

-- a call that forks; `more` says when the creates are spent
abbrev pub Forks : Compiled → ℕ → BookNow → BookNow → Handed → Handed → JobNow → Stepped JobNow → (JobNow → Finish → Type 0) → Type 0
Forks code bound old new hand_old hand_new job result more =
    MatchStepped result (λ jobs. HasForked code bound old new hand_old hand_new job jobs) ⊥
    (λ back f. IsSpent code bound old new hand_old hand_new job back f ⊎ more back f) (λ back. IsRefused old new hand_old hand_new job back)

-- a call that goes on or waits
abbrev pub GoesOrWaits : Compiled → ℕ → BookNow → BookNow → Handed → Handed → JobNow → Stepped JobNow → Type 0
GoesOrWaits code bound old new hand_old hand_new job result =
    MatchStepped result (λ jobs. HasGone code bound old new hand_old hand_new job jobs) (HasParked code old new hand_old hand_new job)
    (λ back f. IsSpent code bound old new hand_old hand_new job back f) (λ back. IsRefused old new hand_old hand_new job back)

-- a call that ends its task
abbrev pub EndsTask : Compiled → ℕ → BookNow → BookNow → Handed → Handed → JobNow → Stepped JobNow → Type 0
EndsTask code bound old new hand_old hand_new job result =
    MatchStepped result (λ jobs. HasEnded code bound old new hand_old hand_new job jobs) ⊥
    (λ back f. IsSpent code bound old new hand_old hand_new job back f) (λ back. IsRefused old new hand_old hand_new job back)

-- the wish of which a call asks that the job's task stands at it
abbrev pub WishesSpawn : Compiled → JobNow → Type 0
WishesSpawn code job = Stands code job.task (λ P w. (which : ℕ) × (args : List Value) × (w ≡ ToSpawn which args))

-- to create
abbrev pub WishesCreate : Compiled → JobNow → Type 0
WishesCreate code job = Stands code job.task (λ P w. (which : ℕ) × (args : List Value) × (w ≡ ToCreate which args))

-- to sync
abbrev pub WishesSync : Compiled → JobNow → Type 0
WishesSync code job = Stands code job.task (λ P w. w ≡ ToSync)

-- to get
abbrev pub WishesGet : Compiled → JobNow → Type 0
WishesGet code job = Stands code job.task (λ P w. (future : ℕ) × (w ≡ ToGet future))

-- to end
abbrev pub WishesEnd : Compiled → JobNow → Type 0
WishesEnd code job = Stands code job.task (λ P w. (value : Value) × (w ≡ ToEnd value))

-- a task, which was started as these entries say, makes as many local steps as it may, and comes to no event
abbrev pub RunsOut : Compiled → List (ℕ × Event) → TaskNow → Type 0
RunsOut code book task =
    (P : tree.Program) → IsWellTyped P → IsCodeOf P code
    → (args : List Value) × (s : TaskState) × StartsAs P (events_in book) task.number task.which args × IsTaskOf P code args task s × IsOutOfSteps s

-- a job's task stands at what it wishes, or is out of steps
abbrev pub AsksFor : Compiled → JobNow → Wish → Type 0
AsksFor code job (wish.Read cell) = Stands code job.task (λ P w. w ≡ ToRead cell)
AsksFor code job (wish.Write cell value) = Stands code job.task (λ P w. w ≡ ToWrite cell value)
AsksFor code job (wish.Spawn _) = WishesSpawn code job
AsksFor code job (wish.Create _) = WishesCreate code job
AsksFor code job wish.Sync = WishesSync code job
AsksFor code job (wish.Get _) = WishesGet code job
AsksFor code job (wish.End _) = WishesEnd code job
AsksFor code job wish.Long = RunsOut code (known_to job) job.task

-- What holds of the book, by its holder's own list. Lists of events called `past` have the newest event first.
use Rattle.std.specs.Prelude.{◌≡◌, ℕ, ◌+◌, ◌*◌, ◌^◌, ◌<◌, ◌≤◌, List, [], ◌∷◌, ◌++◌, length, map, flat_map, slice_get, ◌==◌, if◌then◌else◌, Option, Some, None, option_and_then, ◌↔◌}
use Rattle.std.specs.Option.{option_to_list}
use Rattle.atomic_table.specs.Seated.{TableId}
use Rattle.fut_base.specs.declared.record.Entry.{Entry}
use Rattle.fut_base.specs.declared.record.Limits.{Limits}
use Rattle.fut_base.specs.declared.record.Value.{Value}
use Rattle.fut_base.specs.declared.event.Event.{Event}
use Rattle.fut_base.specs.Dag.{Among, last_of}
use Rattle.fut_base.specs.Sound.{IsSound, next_task}
use Rattle.fut_base.specs.Listed.{Listed}
use Rattle.fut_syntax.specs.Trees as tree
use Rattle.fut_check.specs.Items.{IsWellTyped}
use Rattle.task_machine.specs.State.{TaskState}
use Rattle.task_machine.specs.Runs.{IsStateAfter}
use Rattle.task_machine.specs.Machine.{create_count}
use Rattle.task_code.specs.Flat.{Compiled, IsCodeOf}
use Rattle.strand_tree.specs.Placing.{AreOrders}
use Rattle.event_clock.specs.declared.view.Carried.{Carried}
use Rattle.event_clock.specs.Views.{number_of, own_list, carries}
use Rattle.event_clock.specs.Rule.{Rises}
use Rattle.event_clock.specs.Seated.{Ticking, Seated}
use Rattle.order_query.specs.Reading.{Writing}
use Rattle.run_counts.specs.Counted.{Counted, Handed}
use Rattle.run_place.specs.Placed.{book_of, events_in}
use Rattle.run_book.specs.Drawn.{drawn_of, past_in}
use Rattle.run_book.specs.Jobs.{JobNow, FitsProgram, StartsAs, IsTraceBy}
use Rattle.run_book.specs.Lines.{LineNow, IsLineOf}

-- what contracts see of a book
pub record BookNow : Type 0 where
  pub limits : Limits
  pub holder : Seated
  pub writer : Writing
  pub lines : List LineNow
  pub traces : List (Listed (ℕ × Entry))
  pub creates : ℕ
  pub counts : Counted
  pub first : Option ℕ

-- the structural entries of the run
abbrev pub entries_of : BookNow → List (ℕ × Event)
entries_of b = own_list b.holder.view

-- the jobs that wait at a line
abbrev pub waiting_at : LineNow → List JobNow
waiting_at l = option_to_list l.waiter ++ l.waiters

-- all jobs that wait
abbrev pub jobs_in : List LineNow → List JobNow
jobs_in lines = flat_map (λ (l : LineNow). waiting_at l) lines

-- jobs wait for the values of these lines only where these have not come
abbrev pub AreOpen : List LineNow → Type 0
AreOpen lines = (l : LineNow) (j : JobNow) → Among l lines → Among j l.waiters → l.value ≡ None

-- the jobs that wait for the value of a task
abbrev pub waiters_of : Option LineNow → List JobNow
waiters_of None = []
waiters_of (Some l) = l.waiters

-- the job that waits for the last child of its task's block, where one child has not ended
abbrev pub waits_for_last : Option LineNow → List JobNow
waits_for_last None = []
waits_for_last (Some l) = if l.count == 1 then option_to_list l.waiter else []

-- the line of the task that spawned a task
abbrev pub parent_line : List LineNow → Option LineNow → Option LineNow
parent_line lines None = None
parent_line lines (Some l) = option_and_then (λ (p : ℕ). slice_get lines p) l.parent

-- the jobs that wait for the end of a task: its parent's first, and then those that wait for its value in their order
abbrev pub wait_for : List LineNow → ℕ → List JobNow
wait_for lines t = waits_for_last (parent_line lines (slice_get lines t)) ++ waiters_of (slice_get lines t)

-- how many jobs wait
abbrev pub waiting_in : List LineNow → ℕ
waiting_in [] = 0
waiting_in (l ∷ ls) = length (waiting_at l) + waiting_in ls

-- the task of a trace
abbrev pub task_of : List (ℕ × Event) → ℕ
task_of [] = 0
task_of (x ∷ _) = x.1.task

-- what the holder carries: before the root task was given out that task, and else the tasks that have ended, each with its trace
abbrev pub carried_by : Option ℕ → List (List (ℕ × Event)) → List Carried
carried_by (Some pace) traces = record { task = 0; trace = [] } ∷ []
carried_by None traces = map (λ (trace : List (ℕ × Event)). record { task = task_of trace; trace = trace }) traces

-- the traces of the tasks that have ended
abbrev pub traces_of : BookNow → List (List (ℕ × Event))
traces_of b = map (λ (t : Listed (ℕ × Entry)). drawn_of t.items) b.traces

-- the task of a trace was started with the code and the arguments that the entries give it, and the trace leads to a state
abbrev pub IsLed : Compiled → List (ℕ × Event) → List (ℕ × Event) → Type 0
IsLed code book trace =
    (P : tree.Program) → IsWellTyped P → IsCodeOf P code → (which : ℕ) × (args : List Value) × (s : TaskState)
    × StartsAs P (events_in book) (task_of trace) which args × IsStateAfter P which args (events_in trace) s

-- a trace is that of a task which has ended, by these entries
pub record IsEndedTrace (code : Compiled) (book trace : List (ℕ × Event)) : Type 0 where
  pub ended : (last : ℕ) × (last_of (past_in book) (task_of trace) ≡ Some last)
  pub led : IsLed code book trace
  pub trace_is : IsTraceBy book (task_of trace) trace
  pub some : 0 < length trace

-- what is kept is that of the entries
pub record IsListed (code : Compiled) (b : BookNow) : Type 0 where
  pub sound : IsSound (events_in (entries_of b))
  pub fits : (P : tree.Program) → IsWellTyped P → IsCodeOf P code → FitsProgram P (events_in (entries_of b))
  pub known : book_of b.holder.view ≡ entries_of b
  pub rises : Rises (entries_of b)
  pub tasks : length b.lines ≡ next_task (past_in (entries_of b))
  pub lines : (t : ℕ) (l : LineNow) → slice_get b.lines t ≡ Some l → IsLineOf code (entries_of b) t l
  pub orders : AreOrders (events_in (entries_of b)) b.writer.lists.english.order b.writer.lists.hebrew.order
  pub creates : b.creates ≡ create_count (events_in (entries_of b))

-- what is counted is that of the entries and of the jobs that wait
pub record IsTold (b : BookNow) : Type 0 where
  pub events : b.counts.events ≡ length (entries_of b)
  pub waiting : b.counts.waiting ≡ waiting_in b.lines
  pub running : b.counts.running + b.counts.waiting + length b.traces ≡ length b.lines
  -- the shares that are in no hand have no amount
  pub rest : (b.counts.rest.given ≡ 0) × (b.counts.rest.taken ≡ 0)

-- the book of a run
pub record IsBook (clock : Ticking) (orders : TableId) (code : Compiled) (limits : Limits) (b : BookNow) : Type 0 where
  -- its holder is holder 0 of the clock, and its writer that of the orders
  pub home : (b.holder.clock ≡ clock.id) × (b.writer.home ≡ orders)
  pub first_holder : number_of b.holder.view ≡ 0
  -- its limits are those of its name, and its events are the clock's bound
  pub limits_are : (b.limits ≡ limits) × (clock.size.bound ≡ limits.events)
  -- there are no more events than the bound, which leaves numbers of 32 bits for their tasks and strands
  pub within : length (entries_of b) ≤ limits.events
  pub small : limits.events + 1 < 2 ^ 31
  -- no more futures were created than may be
  pub creates_few : b.creates ≤ limits.futures
  -- the orders have room for the strands of all events
  pub room : 2 * limits.events + 1 ≤ length b.writer.lists.english.order + b.writer.lists.english.room
  -- what it has is that of its entries, and each job that waits must wait
  pub listed : IsListed code b
  -- its holder carries the tasks that have ended, each with its trace, and before it was given out the root task; and each once
  pub carried : b.holder.view.tasks ≡ carried_by b.first (traces_of b)
  pub once : (t : ℕ) → carries t b.holder.view.tasks ≤ 1
  -- each of these traces is that of its task, which has ended
  pub ended : (trace : List (ℕ × Event)) → Among trace (traces_of b) → IsEndedTrace code (entries_of b) trace
  -- what is counted is so
  pub counted : IsTold b
  -- the root task was not given out before any event
  pub is_new : (pace : ℕ) → b.first ≡ Some pace → (entries_of b ≡ []) × (pace ≡ 1) × (b.traces ≡ [])

-- a book in which there was no event, and whose root task was not given out
pub record IsNewBook (b : BookNow) : Type 0 where
  pub entries : entries_of b ≡ []
  pub first : b.first ≡ Some 1

-- a holder of a clock that made no event and carries the root task, with no entry
pub record IsFirstHolder (clock : Ticking) (h : Seated) : Type 0 where
  pub clock_is : h.clock ≡ clock.id
  pub number : number_of h.view ≡ 0
  pub none : (own_list h.view ≡ []) × (book_of h.view ≡ [])
  pub root : h.view.tasks ≡ record { task = 0; trace = [] } ∷ []

-- a writer of the orders that has item 0 alone, with room for the strands of so many events
pub record IsFirstWriter (orders : TableId) (events : ℕ) (w : Writing) : Type 0 where
  pub home : w.home ≡ orders
  pub alone : (w.lists.english.order ≡ 0 ∷ []) × (w.lists.hebrew.order ≡ 0 ∷ []) × (w.log ≡ [])
  pub room : 2 * events ≤ w.lists.english.room

-- each of these hands is new
abbrev pub AllNew : List Handed → Type 0
AllNew [] = Unit {0}
AllNew (h ∷ hs) = (h ≡ record { given = 0; taken = 0 }) × AllNew hs

-- what all of these hands were given
abbrev pub given_to : List Handed → ℕ
given_to [] = 0
given_to (h ∷ hs) = h.given + given_to hs

-- what was taken from all of these hands
abbrev pub taken_from : List Handed → ℕ
taken_from [] = 0
taken_from (h ∷ hs) = h.taken + taken_from hs

-- so many hands were made
pub record HasCutMany (old : Counted) (hands : ℕ) (new : Counted) : Type 0 where
  pub parts : new.rest.parts + hands ≡ old.rest.parts
  pub rest : (new.rest.given ≡ old.rest.given) × (new.rest.taken ≡ old.rest.taken)
  pub tasks : (new.events ≡ old.events) × (new.running ≡ old.running) × (new.waiting ≡ old.waiting)

-- these hands came back
pub record HasGatheredAll (old : Counted) (hands : List Handed) (new : Counted) : Type 0 where
  pub parts : new.rest.parts ≡ old.rest.parts + length hands
  pub given : new.rest.given ≡ old.rest.given + given_to hands
  pub taken : new.rest.taken ≡ old.rest.taken + taken_from hands
  pub running : new.running ≡ old.running

-- the last line was taken, with its own job, where that waits, and those that wait for its value
pub record HasTakenLine (old new : List LineNow) (own : Option JobNow) (others : List JobNow) : Type 0 where
  pub line : LineNow
  pub last : old ≡ new ++ line ∷ []
  pub own_is : own ≡ line.waiter
  pub others_are : others ≡ line.waiters

-- One access of a task in a shard, from what the shard is told to what the task is given back. Lists of events called `past` have the
-- newest event first.
use Rattle.std.specs.Prelude.{◌≡◌, ◌≢◌, ℕ, ◌+◌, ◌<◌, ◌≤◌, List, [], ◌∷◌, ◌++◌, ◌⊎◌}
use Rattle.atomic_table.specs.Seated.{TableId}
use Rattle.fut_base.specs.declared.record.Value.{Value}
use Rattle.fut_base.specs.declared.event.Event.{Event}
use Rattle.fut_base.specs.declared.event.Action.{Action}
use Rattle.fut_base.specs.declared.event.Action.TheVariants.{Reads, Writes}
use Rattle.fut_base.specs.Dag.{Among}
use Rattle.fut_base.specs.Sound.{next_strand}
use Rattle.fut_syntax.specs.Trees as tree
use Rattle.fut_check.specs.Items.{IsWellTyped}
use Rattle.task_machine.specs.State.{TaskState, wish_of, effect_of, Answers}
use Rattle.task_machine.specs.Runs.{StandsAt}
use Rattle.task_types.specs.Typed.{ActionFits, any_future}
use Rattle.task_code.specs.Flat.{Compiled, IsCodeOf}
use Rattle.task_code.specs.Tasks.{TaskNow, IsTaskOf, ended_after}
use Rattle.strand_tree.specs.declared.strand.Strand.{Strand}
use Rattle.reach_table.specs.Telling.{AllKnown}
use Rattle.access_shards.specs.declared.kept.Kept.{Kept}
use Rattle.access_shards.specs.Touches.{Touch}
use Rattle.access_shards.specs.Kept.{Kind, reading, writing, touch, AreKnown, MayCome}
use Rattle.access_shards.specs.Logged.{Logged, IsLogOf, KeepsOneMore}
use Rattle.access_shards.specs.Histories.{IsStanding}
use Rattle.event_clock.specs.Views.{number_of, own_list, drawn, turned_away, IsAbove}
use Rattle.event_clock.specs.Rule.{IsPrefix}
use Rattle.event_clock.specs.Seated.{Ticking, Seated}
use Rattle.order_query.specs.Logs.{count_of, english_of, hebrew_of}
use Rattle.order_query.specs.Reading.{Reading}
use Rattle.run_place.specs.Placed.{Placed, AreAlike, book_of, events_in}
use Rattle.run_book.specs.Drawn.{drawn_of, past_in}
use Rattle.run_book.specs.Jobs.{IsJob, FitsProgram}
use Rattle.run_book.specs.Steps.{IsSameTask}
use Rattle.run_shard.specs.declared.did.Did.{Did}
use Rattle.run_shard.specs.declared.did.Did.TheVariants as did

-- an action accesses a cell
abbrev pub IsAccess : Action → Type 0
IsAccess (Reads _ _) = Unit {0}
IsAccess (Writes _ _) = Unit {0}
IsAccess _ = ⊥

-- how it does
abbrev pub kind_by : Action → Kind
kind_by (Writes _ _) = writing
kind_by _ = reading

-- a task and a place are those of one job, which may wait
abbrev pub AreOfJob : Ticking → TableId → Compiled → TaskNow → Placed → Type 0
AreOfJob clock orders code task place = IsJob clock orders code (record { task = task; place = place; pace = 1 })

-- a reader knows a strand, those of its table, and those of what is kept
pub record CanJudge (known : ℕ) (table : List Strand) (at : Strand) (kept : Kept) : Type 0 where
  pub here : at.number < known
  pub table_known : AllKnown known table
  pub kept_known : AreKnown known kept

-- a reader knows the same strands in the same orders
pub record IsSameReader (old new : Reading) : Type 0 where
  pub home : new.home ≡ old.home
  pub count : count_of new.log ≡ count_of old.log
  pub english : english_of new.log ≡ english_of old.log
  pub hebrew : hebrew_of new.log ≡ hebrew_of old.log

-- the holder and the reader of a shard, while it has no task: what the holder knows is sound and fits the program, and the reader's log is
-- that of these entries
pub record IsAtRest (clock : Ticking) (orders : TableId) (code : Compiled) (h : Seated) (r : Reading) : Type 0 where
  pub home : (h.clock ≡ clock.id) × (r.home ≡ orders)
  pub other : number_of h.view ≢ 0
  pub none : h.view.tasks ≡ []
  pub alike : AreAlike (book_of h.view) r.log
  pub fits : (P : tree.Program) → IsWellTyped P → IsCodeOf P code → FitsProgram P (events_in (book_of h.view))

-- after a call they know no less
pub record HasTurned (clock : Ticking) (orders : TableId) (code : Compiled) (h : Seated) (h' : Seated) (r' : Reading) : Type 0 where
  pub rest : IsAtRest clock orders code h' r'
  pub number : number_of h'.view ≡ number_of h.view
  pub begins : IsPrefix (book_of h.view) (book_of h'.view)

-- a task was fed an entry
pub record HasTaken (code : Compiled) (old new : TaskNow) (ticket : ℕ) (e : Event) : Type 0 where
  pub number : new.number ≡ old.number
  pub which : new.which ≡ old.which
  pub ended : new.spot.ended ≡ ended_after old.spot.ended e.action
  pub trace : drawn_of new.trace.items ≡ drawn_of old.trace.items ++ (ticket, e) ∷ []
  pub state : (P : tree.Program) (args : List Value) (s t : TaskState) → IsCodeOf P code → IsTaskOf P code args old s → StandsAt s t
      → Answers (wish_of P t) e.action → ActionFits any_future P old.which t e.action → IsTaskOf P code args new (effect_of t e.action)

-- a ticket was drawn for an event of a task, on strand `at` with this table, and the access was kept by these orders; or none was left
abbrev pub HasDrawn : ℕ → Compiled → Event → List Strand → Strand → ℕ → List ℕ → List ℕ → Seated → Seated → Logged → Logged → TaskNow → TaskNow → Did → Type 0
HasDrawn bound code e table at known english hebrew h h' l l' t t' did.Done =
    (ticket : ℕ) × (ticket < bound) × IsAbove ticket h.view × (h'.view ≡ drawn ticket e h.view)
    × KeepsOneMore table at ticket (kind_by e.action) known english hebrew l l' × HasTaken code t t' ticket e
HasDrawn bound code e table at known english hebrew h h' l l' t t' (did.Spent ticket) =
    (bound ≤ ticket) × (h'.view ≡ turned_away h.view) × (l' ≡ l) × (t' ≡ t)
HasDrawn bound code e table at known english hebrew h h' l l' t t' did.NoMemory = ⊥

-- a log is as it was, but for room
pub record IsSameLog (old new : Logged) : Type 0 where
  pub kept : new.kept ≡ old.kept
  pub rise : new.rise ≡ old.rise
  pub sorted : new.sorted ≡ old.sorted

-- an event was added: by the structural entries that the holder knows now it stands on its task's strand, and after accesses that it may
-- follow it is kept
pub record IsAdded (bound : ℕ) (e : Event) (at : Strand) (h h' : Seated) (l l' : Logged) (t t' : TaskNow) : Type 0 where
  pub ticket : ℕ
  pub below : ticket < bound
  pub later : (x : ℕ × Event) → Among x (own_list h.view) ⊎ (Among x (book_of h'.view) ⊎ Among x (drawn_of t.trace.items)) → x.0 < ticket
  pub made : own_list h'.view ≡ own_list h.view ++ (ticket, e) ∷ []
  pub stands : IsStanding (past_in (book_of h'.view)) e
  pub there : e.strand < next_strand (past_in (book_of h'.view))
  pub number : (t'.number ≡ t.number) × (t'.which ≡ t.which)
  pub trace : drawn_of t'.trace.items ≡ drawn_of t.trace.items ++ (ticket, e) ∷ []
  pub kept : (past : List (Touch Kind)) → MayCome (events_in (book_of h'.view)) past at ticket (kind_by e.action) → IsLogOf (events_in (book_of h'.view)) past l
      → IsLogOf (events_in (book_of h'.view)) (touch ticket at.number (kind_by e.action) ∷ past) l'

-- none was
pub record IsUnmade (h h' : Seated) (l l' : Logged) (t t' : TaskNow) : Type 0 where
  pub own : own_list h'.view ≡ own_list h.view
  pub log : IsSameLog l l'
  pub task : IsSameTask t t'

-- what an access answers
abbrev pub HasMade : ℕ → Event → Strand → Seated → Seated → Logged → Logged → TaskNow → TaskNow → Did → Type 0
HasMade bound e at h h' l l' t t' did.Done = IsAdded bound e at h h' l l' t t'
HasMade bound e at h h' l l' t t' (did.Spent ticket) = (bound ≤ ticket) × (h'.view.late ≡ 1) × IsUnmade h h' l l' t t'
HasMade bound e at h h' l l' t t' did.NoMemory = IsUnmade h h' l l' t t'

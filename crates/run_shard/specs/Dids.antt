-- What a call on an access answers.
use Rattle.std.specs.Prelude.{◌≡◌, ◌≢◌, ℕ, ℤ, ◌+◌, ◌/◌, ◌<◌, ◌≤◌, List, [], ◌∷◌, ◌++◌, ◌⊎◌, slice_get, slice_set, Some}
use Rattle.fut_base.specs.declared.event.Event.{Event}
use Rattle.fut_base.specs.declared.event.Action.{Action}
use Rattle.fut_base.specs.declared.event.Action.TheVariants.{Reads, Writes}
use Rattle.fut_base.specs.Dag.{Among}
use Rattle.task_machine.specs.State.{ToRead, ToWrite}
use Rattle.task_code.specs.Flat.{Compiled}
use Rattle.task_code.specs.Tasks.{TaskNow}
use Rattle.access_shards.specs.Logged.{Logged}
use Rattle.access_shards.specs.Histories.{IsStanding}
use Rattle.event_clock.specs.Views.{list_at}
use Rattle.event_clock.specs.Rule.{IsPrefix}
use Rattle.event_clock.specs.declared.view.View.{View}
use Rattle.order_query.specs.Logs.{StartsWith}
use Rattle.run_place.specs.Placed.{Placed}
use Rattle.run_book.specs.Drawn.{drawn_of, past_in}
use Rattle.run_book.specs.Jobs.{Stands}
use Rattle.run_book.specs.Steps.{IsSameTask}
use Rattle.run_shard.specs.Shards.{ShardNow, made_by, known_by}
use Rattle.run_shard.specs.declared.did.Did.{Did}
use Rattle.run_shard.specs.declared.did.Did.TheVariants as did

-- a task stands at a read of this cell
abbrev pub WishesRead : Compiled → TaskNow → ℕ → Type 0
WishesRead code task cell = Stands code task (λ P w. w ≡ ToRead cell)

-- a task stands at a write of this value to this cell
abbrev pub WishesWrite : Compiled → TaskNow → ℕ → ℤ → Type 0
WishesWrite code task cell value = Stands code task (λ P w. w ≡ ToWrite cell value)

-- a place is where it was, and knows no less
pub record IsSamePlace (old new : Placed) : Type 0 where
  pub strand : new.at ≡ old.at
  pub table : new.table ≡ old.table
  pub pass : (h : ℕ) → IsPrefix (list_at old.pass.view.known h) (list_at new.pass.view.known h)
  pub reader : StartsWith new.reader.log old.reader.log

-- it knows all that this view does
abbrev pub Learns : View → Placed → Type 0
Learns view place = (h : ℕ) → IsPrefix (list_at view.known h) (list_at place.pass.view.known h)

-- and it does so after each answer but want of memory
abbrev pub LearnsBy : Did → View → Placed → Type 0
LearnsBy did.Done view place = Learns view place
LearnsBy (did.Spent ticket) view place = Learns view place
LearnsBy did.NoMemory view place = Unit {0}

-- no access was made: of all cells the value and what is kept are as they were
pub record IsUntouched (old new : ShardNow) : Type 0 where
  pub made : made_by new ≡ made_by old
  pub values : new.values ≡ old.values
  pub kept : (k : ℕ) (a b : Logged) → slice_get old.logs k ≡ Some a → slice_get new.logs k ≡ Some b → a.kept ≡ b.kept

-- a task made an access, which stands on its current strand after the structural entries that the shard knows now, at a ticket that is
-- below the bound and above all that shard and task had
pub record HasAccessed (bound cell : ℕ) (action : Action) (old new : ShardNow) (task_old : TaskNow) (place_old : Placed) (task_new : TaskNow) : Type 0 where
  pub ticket : ℕ
  pub below : ticket < bound
  pub later : (x : ℕ × Event)
      → Among x (made_by old) ⊎ (Among x (known_by new) ⊎ Among x (drawn_of task_old.trace.items)) → x.0 < ticket
  pub made : made_by new ≡ made_by old ++ (ticket, record { task = task_old.number; strand = place_old.at.number; action = action }) ∷ []
  pub stands : IsStanding (past_in (known_by new)) (record { task = task_old.number; strand = place_old.at.number; action = action })
  pub number : (task_new.number ≡ task_old.number) × (task_new.which ≡ task_old.which)
  pub trace : drawn_of task_new.trace.items
      ≡ drawn_of task_old.trace.items ++ (ticket, record { task = task_old.number; strand = place_old.at.number; action = action }) ∷ []
  -- what is kept of the other cells is as it was
  pub others : (k : ℕ) (a b : Logged) → k ≢ cell / 8 → slice_get old.logs k ≡ Some a → slice_get new.logs k ≡ Some b → a.kept ≡ b.kept

-- no ticket below the bound was left, or memory was refused
pub record IsRefused (old new : ShardNow) (task_old : TaskNow) (place_old : Placed) (task_new : TaskNow) (place_new : Placed) : Type 0 where
  pub untouched : IsUntouched old new
  pub task : IsSameTask task_old task_new
  pub place : IsSamePlace place_old place_new

-- the answer to a read
abbrev pub HasRead : ℕ → ℕ → ℕ → ShardNow → ShardNow → TaskNow → Placed → TaskNow → Placed → Did → Type 0
HasRead bound i cell old new task_old place_old task_new place_new did.Done =
    (value : ℤ) × (slice_get old.values (cell / 8) ≡ Some value) × HasAccessed bound cell (Reads cell value) old new task_old place_old task_new
    × IsSamePlace place_old place_new × Learns new.holder.view place_new × (new.values ≡ old.values)
HasRead bound i cell old new task_old place_old task_new place_new (did.Spent ticket) =
    (bound ≤ ticket) × (new.holder.view.late ≡ 1) × IsRefused old new task_old place_old task_new place_new
HasRead bound i cell old new task_old place_old task_new place_new did.NoMemory = IsRefused old new task_old place_old task_new place_new

-- the answer to a write
abbrev pub HasWritten : ℕ → ℕ → ℕ → ℤ → ShardNow → ShardNow → TaskNow → Placed → TaskNow → Placed → Did → Type 0
HasWritten bound i cell value old new task_old place_old task_new place_new did.Done =
    HasAccessed bound cell (Writes cell value) old new task_old place_old task_new
    × IsSamePlace place_old place_new × Learns new.holder.view place_new × (new.values ≡ slice_set old.values (cell / 8) value)
HasWritten bound i cell value old new task_old place_old task_new place_new (did.Spent ticket) =
    (bound ≤ ticket) × (new.holder.view.late ≡ 1) × IsRefused old new task_old place_old task_new place_new
HasWritten bound i cell value old new task_old place_old task_new place_new did.NoMemory = IsRefused old new task_old place_old task_new place_new

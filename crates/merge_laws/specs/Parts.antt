-- A run whose entries were shared out into own lists, each entry with the ticket that it drew. Lists of events called
-- `past` have the newest event first; all other lists have the oldest first.
use Rattle.std.specs.Prelude.{◌≡◌, ◌↔◌, ℕ, ◌<◌, ◌==◌, IsSome, nat_lt, if◌then◌else◌, List, [], ◌∷◌}
use Rattle.std.specs.Prelude.{map, reverse, filter, flat_map, count_by, slice_get, Some, ℤ, pos, ◌⊎◌}
use Rattle.fut_base.specs.declared.record.Value.{Value}
use Rattle.fut_base.specs.declared.event.Event.{Event}
use Rattle.fut_base.specs.declared.event.Action.{Action}
use Rattle.fut_base.specs.declared.event.Action.TheVariants.{Reads, Writes, Spawns, Creates}
use Rattle.fut_base.specs.Dag.{Among, block_of}
use Rattle.fut_base.specs.Sound.{IsSound, AllEnded, value_of}
use Rattle.fut_syntax.specs.Trees as tree
use Rattle.task_machine.specs.Texts.{main_of}
use Rattle.task_machine.specs.State.{TaskState, Wish, ToSync, ToGet, wish_of}
use Rattle.task_machine.specs.Runs.{StandsAt, IsStateAfter}
use Rattle.access_shards.specs.Histories.{IsStanding}
use Rattle.event_clock.specs.Rule.{Rises}

-- an entry, with the ticket that it drew
abbrev pub Drawn : Type 0
Drawn = ℕ × Event

-- the entries of a list, without their tickets
abbrev pub events_in : List Drawn → List Event
events_in own = map (λ (x : Drawn). x.1) own

-- the entries of all lists
abbrev pub all_of : List (List Drawn) → List Drawn
all_of owns = flat_map (λ (own : List Drawn). own) owns

-- the tickets of some lists are the numbers below n, each once, and rise along each list
pub record ShareOut (n : ℕ) (owns : List (List Drawn)) : Type 0 where
  pub rising : (own : List Drawn) → Among own owns → Rises own
  pub below : (x : Drawn) → Among x (all_of owns) → x.0 < n
  pub once : (k : ℕ) → k < n → count_by (λ (x : Drawn). x.0 == k) (all_of owns) ≡ 1

-- a history has at each place the entry that drew this number
abbrev pub IsMerge : List (List Drawn) → List Event → Type 0
IsMerge owns h = (k : ℕ) (e : Event) → Among (k, e) (all_of owns) ↔ (slice_get h k ≡ Some e)

-- ---- the accesses

-- an access of a cell whose accesses have their place in the i-th list
abbrev pub IsAccessIn : (ℕ → ℕ) → ℕ → Action → Type 0
IsAccessIn place i (Reads cell _) = place cell ≡ i
IsAccessIn place i (Writes cell _) = place cell ≡ i
IsAccessIn place i _ = ⊥

abbrev pub value_after : ℕ → Action → ℤ → ℤ
value_after c (Writes cell value) old = if cell == c then value else old
value_after c _ old = old

-- the value that events left in a cell: that of the last write, or 0
abbrev pub value_left : ℕ → List Event → ℤ
value_left c [] = pos 0
value_left c (e ∷ past) = value_after c e.action (value_left c past)

-- where the action is a read, its value is the one that the events left
abbrev pub IsRight : List Event → Action → Type 0
IsRight past (Reads cell value) = value_left cell past ≡ value
IsRight past _ = Unit {0}

abbrev pub ReadsAreRight : List Event → Type 0
ReadsAreRight [] = Unit {0}
ReadsAreRight (e ∷ past) = ReadsAreRight past × IsRight past e.action

-- lists of accesses, all accesses of a cell in one of them, each read with the value that the accesses before it left
pub record AreShards (place : ℕ → ℕ) (shards : List (List Drawn)) : Type 0 where
  pub accesses : (i : ℕ) (own : List Drawn) → slice_get shards i ≡ Some own → (x : Drawn) → Among x own → IsAccessIn place i x.1.action
  pub reads : (own : List Drawn) → Among own shards → ReadsAreRight (reverse (events_in own))

-- ---- the traces

-- the list of all entries of a task, by ticket
pub record IsTraceOf (owns : List (List Drawn)) (task : ℕ) (trace : List Drawn) : Type 0 where
  pub rising : Rises trace
  pub each : (x : Drawn) → Among x trace ↔ (Among x (all_of owns) × (x.1.task ≡ task))

-- an action makes a task, which runs this task of the text with these arguments
abbrev pub Makes : Action → ℕ → ℕ → List Value → Type 0
Makes (Spawns code child _ _ given) task which args = (child ≡ task) × (code ≡ which) × (given ≡ args)
Makes (Creates code child _ _ given) task which args = (child ≡ task) × (code ≡ which) × (given ≡ args)
Makes _ task which args = ⊥

-- by these events a task runs this task of the text with these arguments
abbrev pub StartsAs : tree.Program → List Event → ℕ → ℕ → List Value → Type 0
StartsAs P events task which args = ((task ≡ 0) × (main_of P ≡ which) × (args ≡ [])) ⊎ ((e : Event) × Among e events × Makes e.action task which args)

-- the events with tickets below k, the newest first
abbrev pub past_below : ℕ → List Drawn → List Event
past_below k own = reverse (events_in (filter (λ (x : Drawn). nat_lt x.0 k) own))

-- a trace leads to a state of its task, from the start that the book gives it, and each of its entries stands on the
-- task's current strand after the entries of the book with lesser tickets, by which the task has not ended
pub record IsTraced (P : tree.Program) (book : List Drawn) (task : ℕ) (trace : List Drawn) : Type 0 where
  pub which : ℕ
  pub args : List Value
  pub state : TaskState
  pub starts : StartsAs P (events_in book) task which args
  pub leads : IsStateAfter P which args (events_in trace) state
  pub stands : (x : Drawn) → Among x trace → IsStanding (past_below x.0 book) x.1

-- ---- the run

-- what is known of a run whose entries were shared out: a list of structural entries, lists of accesses, and the traces of tasks
pub record IsSharedRun (P : tree.Program) (n : ℕ) (place : ℕ → ℕ) (book : List Drawn) (shards : List (List Drawn))
    (traces : List (ℕ × List Drawn)) : Type 0 where
  pub tickets : ShareOut n (book ∷ shards)
  pub sound : IsSound (events_in book)
  pub shared : AreShards place shards
  pub tasks : (x : Drawn) → Among x (all_of (book ∷ shards)) → (trace : List Drawn) × Among (x.1.task, trace) traces
  pub whole : (r : ℕ × List Drawn) → Among r traces → IsTraceOf (book ∷ shards) r.0 r.1
  pub traced : (r : ℕ × List Drawn) → Among r traces → IsTraced P book r.0 r.1

-- a task that wishes this need not wait, by these events: the children of its block have ended, or the future's task has
abbrev pub MayGoOn : List Event → ℕ → Wish → Type 0
MayGoOn past task ToSync = AllEnded past (block_of past task)
MayGoOn past task (ToGet future) = IsSome (value_of past future)
MayGoOn past task _ = Unit {0}

-- a task in this state has to wait
abbrev pub IsWaiting : tree.Program → List Event → ℕ → TaskState → Type 0
IsWaiting P past task state = (stop : TaskState) × StandsAt state stop × (MayGoOn past task (wish_of P stop) → ⊥)

-- a task has ended by the book, or has a trace whose state has to wait
abbrev pub HasEndedOrWaits : tree.Program → List Drawn → List (ℕ × List Drawn) → ℕ → Type 0
HasEndedOrWaits P book traces task =
    IsSome (value_of (reverse (events_in book)) task)
    ⊎ ((trace : List Drawn) × Among (task, trace) traces × (x : IsTraced P book task trace) × IsWaiting P (reverse (events_in book)) task x.state)

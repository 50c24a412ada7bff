-- The places where tasks wait.
use Rattle.std.specs.Prelude.{◌≡◌, ℕ, zero, suc, ◌+◌, ◌-◌, ◌^◌, ◌<◌, List, [], ◌∷◌, ◌++◌, slice_get}
use Rattle.std.specs.Prelude.{slice_set, Option, Some, None, option_and_then, option_to_list}
use Rattle.fut_base.specs.declared.record.Value.{Value}
use Rattle.fut_base.specs.declared.event.Action.{Action}
use Rattle.fut_base.specs.declared.event.Action.TheVariants.{Spawns, Creates, Ends}
use Rattle.fut_engine.specs.declared.seat.Seat.{Seat}

-- ---- one seat

-- that of a task that begins
abbrev pub new_seat : Option ℕ → Seat
new_seat parent = record { parent = parent; awaited = record { value = None; waiters = [] }; children = record { count = 0; waiter = None }; waits = None }

-- the task has made an event
abbrev pub freed : Seat → Seat
freed s = record { parent = s.parent; awaited = s.awaited; children = s.children; waits = None }

-- it has spawned a child
abbrev pub begun : Seat → Seat
begun s = record { parent = s.parent; awaited = s.awaited; children = record { count = s.children.count + 1; waiter = s.children.waiter }; waits = None }

-- it has ended, and those who waited for its value are handed out
abbrev pub put_in : Value → Seat → Seat
put_in value s = record { parent = s.parent; awaited = record { value = Some value; waiters = [] }; children = s.children; waits = None }

-- who is left waiting for so many children, and who goes on, once one more has ended
abbrev pub left_to_join : ℕ → Option ℕ → Option ℕ
left_to_join zero waiter = None
left_to_join (suc zero) waiter = None
left_to_join (suc (suc _)) waiter = waiter

abbrev pub joined : ℕ → Option ℕ → Option ℕ
joined zero waiter = None
joined (suc zero) waiter = waiter
joined (suc (suc _)) waiter = None

-- a child of the task has ended
abbrev pub told : Seat → Seat
told s =
    record {
      parent = s.parent;
      awaited = s.awaited;
      children = record { count = s.children.count - 1; waiter = left_to_join s.children.count s.children.waiter };
      waits = s.waits;
    }

-- the task waits for its children
abbrev pub sits : ℕ → Seat → Seat
sits t s = record { parent = s.parent; awaited = s.awaited; children = record { count = s.children.count; waiter = Some t }; waits = Some None }

-- another task waits for the value of this one
abbrev pub awaited_by : ℕ → Seat → Seat
awaited_by t s = record { parent = s.parent; awaited = record { value = None; waiters = s.awaited.waiters ++ t ∷ [] }; children = s.children; waits = s.waits }

-- the task waits for a future
abbrev pub gone_for : ℕ → Seat → Seat
gone_for future s = record { parent = s.parent; awaited = s.awaited; children = s.children; waits = Some (Some future) }

-- ---- the seats of all tasks by number

-- the value with which a task has ended
abbrev pub value_at : List Seat → ℕ → Option Value
value_at seats t = option_and_then (λ (s : Seat). s.awaited.value) (slice_get seats t)

abbrev pub parent_at : List Seat → ℕ → Option ℕ
parent_at seats t = option_and_then (λ (s : Seat). s.parent) (slice_get seats t)

-- what a task went to wait for since its last event: its children, as Some None, or a future
abbrev pub went_for : List Seat → ℕ → Option (Option ℕ)
went_for seats t = option_and_then (λ (s : Seat). s.waits) (slice_get seats t)

-- it waits for its children while one has not ended, and for a future while that has not ended
abbrev pub while_any : ℕ → Option (Option ℕ)
while_any zero = None
while_any (suc _) = Some None

abbrev pub while_none : ℕ → Option Value → Option (Option ℕ)
while_none future None = Some (Some future)
while_none future (Some _) = None

abbrev pub waits_by : List Seat → ℕ → Option (Option ℕ) → Option (Option ℕ)
waits_by seats count None = None
waits_by seats count (Some None) = while_any count
waits_by seats count (Some (Some future)) = while_none future (value_at seats future)

-- what a task waits for
abbrev pub waits_for : List Seat → ℕ → Option (Option ℕ)
waits_for seats t = option_and_then (λ (s : Seat). waits_by seats s.children.count s.waits) (slice_get seats t)

-- the tasks that wait for the value of a task, in the order in which they came
abbrev pub waiters_of : Option Seat → List ℕ
waiters_of None = []
waiters_of (Some s) = s.awaited.waiters

-- ---- changes

-- the seat of a task is changed
pub record Sets (old : List Seat) (t : ℕ) (f : Seat → Seat) (new : List Seat) : Type 0 where
  pub before : Seat
  pub present : slice_get old t ≡ Some before
  pub is : new ≡ slice_set old t (f before)

-- a task goes to wait for its children, or for a future
abbrev pub Parks : List Seat → ℕ → Option ℕ → List Seat → Type 0
Parks old t None new = Sets old t (sits t) new
Parks old t (Some future) new = (middle : List Seat) × Sets old future (awaited_by t) middle × Sets middle t (gone_for future) new

abbrev pub MayPark : List Seat → ℕ → Option ℕ → Type 0
MayPark seats t None = (s : Seat) × (slice_get seats t ≡ Some s) × (s.children.waiter ≡ None) × (0 < s.children.count)
MayPark seats t (Some future) = (s : Seat) × (q : Seat) × (slice_get seats t ≡ Some s) × (slice_get seats future ≡ Some q) × (q.awaited.value ≡ None)

-- the parent of a task that has ended is told so, and goes on if it was the last for which the parent waited
pub record TellsParent (old : List Seat) (p : ℕ) (new : List Seat) (ready : List ℕ) : Type 0 where
  pub before : Seat
  pub present : slice_get old p ≡ Some before
  pub is : new ≡ slice_set old p (told before)
  pub goes : ready ≡ option_to_list (joined before.children.count before.children.waiter)

abbrev pub Tells : List Seat → Option ℕ → List Seat → List ℕ → Type 0
Tells old None new ready = (new ≡ old) × (ready ≡ [])
Tells old (Some p) new ready = TellsParent old p new ready

-- a task has ended with a value: its parent, and those who wait for its value
pub record SettlesEnd (old : List Seat) (t : ℕ) (value : Value) (new : List Seat) (ready : List ℕ) : Type 0 where
  pub before : Seat
  pub present : slice_get old t ≡ Some before
  pub first : List ℕ
  pub tells : Tells (slice_set old t (put_in value before)) before.parent new first
  pub goes : ready ≡ first ++ before.awaited.waiters

-- the seats after an action of a task, and the tasks that go on
abbrev pub Settles : List Seat → ℕ → Action → List Seat → List ℕ → Type 0
Settles old t (Spawns _ child _ _ _) new ready =
    ((s : Seat) × (slice_get old t ≡ Some s) × (new ≡ slice_set old t (begun s) ++ new_seat (Some t) ∷ [])) × (ready ≡ child ∷ t ∷ [])
Settles old t (Creates _ child _ _ _) new ready =
    ((s : Seat) × (slice_get old t ≡ Some s) × (new ≡ slice_set old t (freed s) ++ new_seat None ∷ [])) × (ready ≡ child ∷ t ∷ [])
Settles old t (Ends value) new ready = SettlesEnd old t value new ready
Settles old t _ new ready = Sets old t freed new × (ready ≡ t ∷ [])

-- a parent comes before its child and counts it, and nobody waits for the child's value
abbrev pub CanTell : List Seat → ℕ → List ℕ → Option ℕ → Type 0
CanTell seats t waiters None = Unit {0}
CanTell seats t waiters (Some p) = ((q : Seat) × (slice_get seats p ≡ Some q) × (0 < q.children.count)) × (p < t) × (waiters ≡ [])

abbrev pub CanSettle : List Seat → ℕ → Seat → Action → Type 0
CanSettle seats t s (Spawns _ _ _ _ _) = s.children.count < 2 ^ 32 - 1
CanSettle seats t s (Ends _) = (s.awaited.value ≡ None) × CanTell seats t s.awaited.waiters s.parent
CanSettle seats t s _ = Unit {0}

abbrev pub MaySettle : List Seat → ℕ → Action → Type 0
MaySettle seats t a = (s : Seat) × (slice_get seats t ≡ Some s) × CanSettle seats t s a

-- A task of flat code, and how it follows the definition.
use Rattle.std.specs.Prelude.{◌≡◌, ℕ, ◌+◌, Bool, true, false, if◌then◌else◌, List, [], ◌∷◌, length, map, min}
use Rattle.std.specs.Prelude.{replicate, slice_get, slice_index, slice_set, Option, Some, None, ℤ, pos}
use Rattle.fut_base.specs.declared.record.Value.{Value}
use Rattle.fut_base.specs.declared.record.Value.TheVariants.{Int, Fut}
use Rattle.fut_base.specs.declared.record.Entry.{Entry}
use Rattle.fut_base.specs.declared.event.Event.{Event}
use Rattle.fut_base.specs.declared.event.Action.{Action}
use Rattle.fut_base.specs.declared.event.Action.TheVariants.{Reads, Spawns, Creates, Syncs, Gets, Ends}
use Rattle.fut_base.specs.Events.{event_of}
use Rattle.fut_base.specs.Listed.{Listed}
use Rattle.fut_syntax.specs.Trees as tree
use Rattle.fut_syntax.specs.Trees.{items_of}
use Rattle.task_machine.specs.Values.{is_zero, index_of}
use Rattle.task_machine.specs.Variables.{Slot, One, Many, value_of, refilled}
use Rattle.task_machine.specs.Texts.{CellArray}
use Rattle.task_machine.specs.State as state
use Rattle.task_machine.specs.State.{TaskState, element_of, read_of, write_of, get_of, end_of, wish_of}
use Rattle.task_machine.specs.Runs.{Steps, StandsWithin, GoesOn, IsStateAfter}
use Rattle.task_types.specs.Typed.{IsTypedState, any_future}
use Rattle.task_frame.specs.declared.term.Term.{Number}
use Rattle.task_code.specs.declared.code.TaskCode.{TaskCode}
use Rattle.task_frame.specs.declared.instruction.Fill.{Fill}
use Rattle.task_frame.specs.declared.instruction.Fill.TheVariants as fill
use Rattle.task_frame.specs.declared.instruction.Target.{Target}
use Rattle.task_frame.specs.declared.instruction.Source.{Source}
use Rattle.task_frame.specs.declared.instruction.Source.TheVariants as source
use Rattle.task_frame.specs.declared.instruction.Instruction.{Instruction}
use Rattle.task_frame.specs.declared.instruction.Instruction.TheVariants.{Set, Store, Branch, Spawn, Sync, Return}
use Rattle.task_code.specs.declared.task.Spot.{Spot}
use Rattle.task_code.specs.declared.task.Wish.TheVariants as wish
use Rattle.task_code.specs.declared.task.Wish as declared
use Rattle.task_frame.specs.Arrays.{cell_for}
use Rattle.task_frame.specs.Frames.{Held, slot_in_place, slot_for}
use Rattle.task_frame.specs.Names.{Holds, rooms_by}
use Rattle.task_frame.specs.Terms.{number_by, value_by, values_by}
use Rattle.task_code.specs.Flat.{Context, Compiled, code_of, IsCodeOf, DoesStmt}

-- ---- what an instruction does

-- what the variables hold after one of them got a value
abbrev pub filled_with : Held → ℕ → Value → Fill → List Slot
filled_with f n v fill.One = slice_set f.slots n (One v)
filled_with f n v (fill.Many k) = slice_set f.slots n (Many (replicate (min k (slice_index f.rooms n)) v))
filled_with f n v fill.Again = slice_set f.slots n (refilled (slot_in_place f.slots n) v)

-- the slots after a value is put where a target says
abbrev pub aimed : Held → Target → Value → List Slot
aimed f t v = filled_with f t.variable v t.fill

-- where a local step leads: the next place, and what the variables hold then
pub record Moved : Type 0 where
  pub next : ℕ
  pub slots : List Slot

-- the value of a source, where it takes no event
abbrev pub local_source : List Slot → Source → Option Value
local_source slots (source.Value t) = Some (value_by slots t)
local_source slots (source.Element v a t) = element_of (slot_for slots v) (number_by slots t)
local_source slots (source.Get n) = None
local_source slots (source.Create n ts) = None

-- the slots after the value of a source is put, where there is one
abbrev pub set_slots : Held → Target → Option Value → Option (List Slot)
set_slots f t None = None
set_slots f t (Some v) = Some (aimed f t v)

-- the slots after an array is put, where it has a variable
abbrev pub array_set : List Slot → Option ℕ → List Value → List Slot
array_set slots None vs = slots
array_set slots (Some n) vs = slice_set slots n (Many vs)

-- the slots after an element is set, where the variable has elements
abbrev pub store_slots : List Slot → Option ℕ → Slot → ℤ → Value → Option (List Slot)
store_slots slots v (One _) z x = None
store_slots slots v (Many vs) z x = Some (array_set slots v (slice_set vs (index_of (length vs) z) x))

-- a move to a place, where it makes slots
abbrev pub moved_to : ℕ → Option (List Slot) → Option Moved
moved_to next None = None
moved_to next (Some slots) = Some (record { next = next; slots = slots })

-- the local step of an instruction; none where it stands at an event
abbrev pub moves : Held → Option Instruction → Option Moved
moves f None = None
moves f (Some (Set t s next)) = moved_to next (set_slots f t (local_source f.slots s))
moves f (Some (Store v a e g next)) = moved_to next (store_slots f.slots v (slot_for f.slots v) (number_by f.slots e) (value_by f.slots g))
moves f (Some (Branch t here otherwise)) = Some (record { next = (if is_zero (number_by f.slots t) then otherwise else here); slots = f.slots })
moves f (Some (Spawn n ts next)) = None
moves f (Some (Sync next)) = None
moves f (Some (Return t)) = None

-- the wish of a source
abbrev pub wished_source : List CellArray → List Slot → Source → state.Wish
wished_source arrays slots (source.Value t) = state.NoWish
wished_source arrays slots (source.Element v a t) = read_of (cell_for arrays a (number_by slots t))
wished_source arrays slots (source.Get n) = get_of (value_of (slot_in_place slots n))
wished_source arrays slots (source.Create n ts) = state.ToCreate n (values_by slots ts)

-- what a task wishes at an instruction that is no local step; where there is none it returns 0
abbrev pub wished : List CellArray → List Slot → Bool → Option Instruction → state.Wish
wished arrays slots is_open None = end_of is_open (Int (pos 0))
wished arrays slots is_open (Some (Set t s next)) = wished_source arrays slots s
wished arrays slots is_open (Some (Store v a e g next)) = write_of (cell_for arrays a (number_by slots e)) (number_by slots g)
wished arrays slots is_open (Some (Branch t here otherwise)) = state.NoWish
wished arrays slots is_open (Some (Spawn n ts next)) = state.ToSpawn n (values_by slots ts)
wished arrays slots is_open (Some (Sync next)) = state.ToSync
wished arrays slots is_open (Some (Return t)) = end_of is_open (value_by slots t)

-- a wish tells one of the definition
abbrev pub IsTold : declared.Wish → state.Wish → Type 0
IsTold (wish.Read cell) w = w ≡ state.ToRead cell
IsTold (wish.Write cell value) w = w ≡ state.ToWrite cell value
IsTold (wish.Spawn which) w = (args : List Value) × (w ≡ state.ToSpawn which args)
IsTold (wish.Create which) w = (args : List Value) × (w ≡ state.ToCreate which args)
IsTold wish.Sync w = w ≡ state.ToSync
IsTold (wish.Get future) w = w ≡ state.ToGet future
IsTold (wish.End value) w = w ≡ state.ToEnd value
IsTold wish.Long w = ⊥

-- the argument values of a spawn or a create
abbrev pub passed_by_source : List Slot → Source → List Value
passed_by_source slots (source.Create n ts) = values_by slots ts
passed_by_source slots _ = []

-- the values that an instruction passes to a child
abbrev pub passed_by : List Slot → Option Instruction → List Value
passed_by slots (Some (Set t s next)) = passed_by_source slots s
passed_by slots (Some (Spawn n ts next)) = values_by slots ts
passed_by slots _ = []

-- ---- what an entry makes of it

-- what an action gives its task
abbrev pub received_by : Action → Option Value
received_by (Reads _ value) = Some (Int value)
received_by (Creates _ child _ _ _) = Some (Fut child)
received_by (Gets _ value _) = Some value
received_by _ = None

-- the slots after a value comes, where one comes
abbrev pub received : Held → Target → Option Value → List Slot
received f t None = f.slots
received f t (Some v) = aimed f t v

-- the slots after an action at an instruction
abbrev pub slots_after : Held → Option Instruction → Action → List Slot
slots_after f (Some (Set t s next)) a = received f t (received_by a)
slots_after f _ a = f.slots

-- behind a `return`, and where nothing stands, a task stays
abbrev pub place_after : ℕ → Option Instruction → ℕ
place_after place (Some (Set t s next)) = next
place_after place (Some (Store v a e g next)) = next
place_after place (Some (Spawn n ts next)) = next
place_after place (Some (Sync next)) = next
place_after place _ = place

-- whether the block is open after an action
abbrev pub open_after : Bool → Action → Bool
open_after is_open (Spawns _ _ _ _ _) = true
open_after is_open (Syncs _) = false
open_after is_open _ = is_open

-- whether the task has ended after an action
abbrev pub ended_after : Bool → Action → Bool
ended_after ended (Ends _) = true
ended_after ended _ = ended

-- where a task stands after an action at an instruction
abbrev pub spot_after : Spot → Option Instruction → Action → Spot
spot_after s i a = record { place = place_after s.place i; is_open = open_after s.is_open a; ended = ended_after s.ended a; steps = 0 }

-- ---- tasks

-- what a task shows: its number, which task of the text it runs, where it stands there, what its variables hold, and its
-- trace of tickets and entries
pub record TaskNow : Type 0 where
  pub number : ℕ
  pub which : ℕ
  pub spot : Spot
  pub held : Held
  pub trace : Listed (ℕ × Entry)

-- a body ends here
abbrev pub IsEnd : Option Instruction → Type 0
IsEnd None = Unit {0}
IsEnd (Some i) = i ≡ Return (Number (pos 0))

-- from a place on, the code does what is to do, and then ends
abbrev pub Does : Context → List Instruction → ℕ → List tree.Stmt → Type 0
Does g code place [] = IsEnd (slice_get code place)
Does g code place (s ∷ rest) = (middle : ℕ) × DoesStmt g code s middle place × Does g code middle rest

-- the place where the code of a task is made
abbrev pub where_of : tree.Program → TaskCode → Context
where_of P t = record { items = items_of P; names = t.names }

-- a task is in this state
pub record IsIn (P : tree.Program) (t : TaskCode) (spot : Spot) (held : Held) (s : TaskState) : Type 0 where
  pub vars : Holds t.names s.vars held.slots
  pub rooms : held.rooms ≡ rooms_by t.names
  pub is_open : spot.is_open ≡ s.is_open
  pub todo : Does (where_of P t) t.instructions spot.place s.todo

-- the events of a trace
abbrev pub trace_events : List (ℕ × Entry) → List Event
trace_events trace = map (λ p. event_of p.1) trace

-- a task was begun with these arguments, and this is its state after the entries of its trace; since then it has made the
-- local steps that it counts, and in it the type rules are kept
pub record IsTaskOf (P : tree.Program) (code : Compiled) (args : List Value) (task : TaskNow) (s : TaskState) : Type 0 where
  pub state : IsStateAfter P task.which args (trace_events task.trace.items) s
  pub typed : task.spot.ended ≡ false → IsTypedState any_future P task.which s
  pub place : task.spot.ended ≡ false → (t : TaskState) × Steps task.spot.steps s t × IsIn P (code_of code.tasks task.which) task.spot task.held t

-- from this state a task comes to this wish in fewer local steps than the limit, or makes as many
abbrev pub Wishes : tree.Program → ℕ → TaskState → declared.Wish → Type 0
Wishes P limit s (wish.Read cell) = (t : TaskState) × StandsWithin limit s t × (wish_of P t ≡ state.ToRead cell)
Wishes P limit s (wish.Write cell value) = (t : TaskState) × StandsWithin limit s t × (wish_of P t ≡ state.ToWrite cell value)
Wishes P limit s (wish.Spawn which) = (t : TaskState) × (args : List Value) × StandsWithin limit s t × (wish_of P t ≡ state.ToSpawn which args)
Wishes P limit s (wish.Create which) = (t : TaskState) × (args : List Value) × StandsWithin limit s t × (wish_of P t ≡ state.ToCreate which args)
Wishes P limit s wish.Sync = (t : TaskState) × StandsWithin limit s t × (wish_of P t ≡ state.ToSync)
Wishes P limit s (wish.Get future) = (t : TaskState) × StandsWithin limit s t × (wish_of P t ≡ state.ToGet future)
Wishes P limit s (wish.End value) = (t : TaskState) × StandsWithin limit s t × (wish_of P t ≡ state.ToEnd value)
Wishes P limit s wish.Long = GoesOn limit s

-- ---- what the calls of a task say

-- it is a task of some well-typed program
abbrev pub IsSomeTask : Compiled → TaskNow → Type 0
IsSomeTask code task = (P : tree.Program) × (args : List Value) × (s : TaskState) × IsCodeOf P code × IsTaskOf P code args task s

-- the instruction at which a task stands
abbrev pub instruction_of : Compiled → TaskNow → Option Instruction
instruction_of code task = slice_get (code_of code.tasks task.which).instructions task.spot.place

-- a task stands at an event
abbrev pub IsStill : Compiled → TaskNow → Type 0
IsStill code task = moves task.held (instruction_of code task) ≡ None

-- a task has made one local step
pub record Turned (code : Compiled) (old new : TaskNow) : Type 0 where
  pub number : new.number ≡ old.number
  pub which : new.which ≡ old.which
  pub trace : new.trace ≡ old.trace
  pub is_open : new.spot.is_open ≡ old.spot.is_open
  pub ended : new.spot.ended ≡ old.spot.ended
  pub steps : new.spot.steps ≡ old.spot.steps + 1
  pub moves : moves old.held (instruction_of code old) ≡ Some (record { next = new.spot.place; slots = new.held.slots })
  pub rooms : new.held.rooms ≡ old.held.rooms

-- a task stands at an event and tells its wish
pub record Told (code : Compiled) (task : TaskNow) (w : declared.Wish) : Type 0 where
  pub still : IsStill code task
  pub wish : IsTold w (wished code.arrays task.held.slots task.spot.is_open (instruction_of code task))

-- every wish but that of too many steps is that of an event at which the task stands
abbrev pub StopsAt : Compiled → TaskNow → declared.Wish → Type 0
StopsAt code task wish.Long = Unit {0}
StopsAt code task (wish.Read _) = IsStill code task
StopsAt code task (wish.Write _ _) = IsStill code task
StopsAt code task (wish.Spawn _) = IsStill code task
StopsAt code task (wish.Create _) = IsStill code task
StopsAt code task wish.Sync = IsStill code task
StopsAt code task (wish.Get _) = IsStill code task
StopsAt code task (wish.End _) = IsStill code task

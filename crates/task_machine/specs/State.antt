-- What a task does: its state, its local steps, what it wishes, and what an entry makes of it.
use Rattle.std.specs.Prelude.{◌≡◌, ℕ, Bool, true, false, if◌then◌else◌, List, [], ◌∷◌, ◌++◌, length}
use Rattle.std.specs.Prelude.{drop, slice_index_or, slice_set, ℤ, pos, Option, Some, None}
use Rattle.fut_base.specs.declared.record.Value.{Value}
use Rattle.fut_base.specs.declared.record.Value.TheVariants.{Int, Fut}
use Rattle.fut_base.specs.declared.event.Action.{Action}
use Rattle.fut_base.specs.declared.event.Action.TheVariants.{Reads, Writes, Spawns, Creates, Syncs, Gets, Ends}
use Rattle.fut_syntax.specs.Trees as tree
use Rattle.task_machine.specs.Values.{is_zero, index_of}
use Rattle.task_machine.specs.Variables.{Slot, One, Many, Variables, slot_at, put, value_of, filled, refilled, value_in, number_in, values_in, bound}
use Rattle.task_machine.specs.Texts.{TaskText, task_at, task_number, cell_at, stmts_of, else_of}

-- the variables, the statements still to do, and whether the task has spawned a child since its last sync
pub record TaskState : Type 0 where
  pub vars : Variables
  pub todo : List tree.Stmt
  pub is_open : Bool

-- what a task that stands at an event wishes to do; only an ill-typed text has a statement without a wish
pub data Wish : Type 0 where
  ToRead : ℕ → Wish
  ToWrite : ℕ → ℤ → Wish
  ToSpawn : ℕ → List Value → Wish
  ToCreate : ℕ → List Value → Wish
  ToSync : Wish
  ToGet : ℕ → Wish
  ToEnd : Value → Wish
  NoWish : Wish

-- the state with which a task begins, where the text has it
abbrev pub started : Option TaskText → List Value → TaskState
started None args = record { vars = []; todo = []; is_open = false }
started (Some t) args = record { vars = bound t.params args; todo = stmts_of t.body; is_open = false }

-- the state in which a task of the text begins
abbrev pub start_state : tree.Program → ℕ → List Value → TaskState
start_state P which args = started (task_at P which) args

-- ---- local steps

-- the state with these variables and the rest to do
abbrev pub goes_on : TaskState → List tree.Stmt → Variables → TaskState
goes_on s rest vars = record { vars = vars; todo = rest; is_open = s.is_open }

-- the variables after a statement has set its variable to a value
abbrev pub set_by : tree.Stmt → Variables → Value → Variables
set_by (tree.Define word type _) vars v = put vars word (filled type v)
set_by (tree.Assign word _) vars v = put vars word (refilled (slot_at vars word) v)
set_by _ vars v = vars

-- an element of an array variable
abbrev pub element_of : Slot → ℤ → Option Value
element_of (One _) z = None
element_of (Many vs) z = Some (slice_index_or vs (index_of (length vs) z) (Int (pos 0)))

-- what a variable is set to by a local step
abbrev pub local_value : Variables → tree.Init → Option Value
local_value vars (tree.Value e) = Some (value_in vars e)
local_value vars (tree.Index word e) = element_of (slot_at vars word) (number_in vars e)
local_value vars (tree.GetOf _) = None
local_value vars (tree.CreateOf _ _) = None

-- a local step that sets a variable to what is found, where it is local
abbrev pub init_step : TaskState → List tree.Stmt → tree.Stmt → Option Value → Option TaskState
init_step s rest stmt None = None
init_step s rest stmt (Some v) = Some (goes_on s rest (set_by stmt s.vars v))

-- an element of an array variable is set
abbrev pub store_step : TaskState → List tree.Stmt → List ℕ → Slot → ℤ → Value → Option TaskState
store_step s rest word (One _) z v = None
store_step s rest word (Many vs) z v = Some (goes_on s rest (put s.vars word (Many (slice_set vs (index_of (length vs) z) v))))

-- a statement in front of the rest, where it is local
abbrev pub step_by : TaskState → List tree.Stmt → tree.Stmt → Option TaskState
step_by s rest (tree.Declare word type) = Some (goes_on s rest (put s.vars word (filled type (Int (pos 0)))))
step_by s rest (tree.Define word type init) = init_step s rest (tree.Define word type init) (local_value s.vars init)
step_by s rest (tree.Assign word init) = init_step s rest (tree.Assign word init) (local_value s.vars init)
step_by s rest (tree.Store word e f) = store_step s rest word (slot_at s.vars word) (number_in s.vars e) (value_in s.vars f)
step_by s rest (tree.If' e b t) = Some (goes_on s (if is_zero (number_in s.vars e) then else_of t ++ rest else stmts_of b ++ rest) s.vars)
step_by s rest (tree.While' e b) = Some (goes_on s (if is_zero (number_in s.vars e) then rest else stmts_of b ++ tree.While' e b ∷ rest) s.vars)
step_by s rest (tree.SpawnOf _ _) = None
step_by s rest tree.SyncAll = None
step_by s rest (tree.Return' _) = None

-- the local step of the first statement, where it is one
abbrev pub first_step : TaskState → List tree.Stmt → Option TaskState
first_step s [] = None
first_step s (stmt ∷ rest) = step_by s rest stmt

-- one local step; none where the first statement is no local one, or nothing is to do
abbrev pub local_step : TaskState → Option TaskState
local_step s = first_step s s.todo

-- ---- wishes

-- the wish to read a cell, where the text has it
abbrev pub read_of : Option ℕ → Wish
read_of None = NoWish
read_of (Some cell) = ToRead cell

-- the wish to write a cell, where the text has it
abbrev pub write_of : Option ℕ → ℤ → Wish
write_of None z = NoWish
write_of (Some cell) z = ToWrite cell z

-- the wish to spawn a task, where the text has it
abbrev pub spawn_of : Option ℕ → List Value → Wish
spawn_of None args = NoWish
spawn_of (Some code) args = ToSpawn code args

-- the wish to create a future, where the text has its task
abbrev pub create_of : Option ℕ → List Value → Wish
create_of None args = NoWish
create_of (Some code) args = ToCreate code args

-- the wish to wait for a future, where the value is a handle
abbrev pub get_of : Value → Wish
get_of (Int _) = NoWish
get_of (Fut future) = ToGet future

-- a task ends with its block closed
abbrev pub end_of : Bool → Value → Wish
end_of true v = ToSync
end_of false v = ToEnd v

-- the wish of what a variable is set to
abbrev pub wish_of_init : tree.Program → Variables → tree.Init → Wish
wish_of_init P vars (tree.GetOf word) = get_of (value_of (slot_at vars word))
wish_of_init P vars (tree.CreateOf word es) = create_of (task_number P word) (values_in vars es)
wish_of_init P vars (tree.Index word e) = read_of (cell_at P word (number_in vars e))
wish_of_init P vars (tree.Value _) = NoWish

-- the wish of a statement
abbrev pub wish_by : tree.Program → TaskState → tree.Stmt → Wish
wish_by P s (tree.Define _ _ init) = wish_of_init P s.vars init
wish_by P s (tree.Assign _ init) = wish_of_init P s.vars init
wish_by P s (tree.Store word e f) = write_of (cell_at P word (number_in s.vars e)) (number_in s.vars f)
wish_by P s (tree.SpawnOf word es) = spawn_of (task_number P word) (values_in s.vars es)
wish_by P s tree.SyncAll = ToSync
wish_by P s (tree.Return' e) = end_of s.is_open (value_in s.vars e)
wish_by P s (tree.Declare _ _) = NoWish
wish_by P s (tree.If' _ _ _) = NoWish
wish_by P s (tree.While' _ _) = NoWish

-- the wish of the first statement, or to end
abbrev pub first_wish : tree.Program → TaskState → List tree.Stmt → Wish
first_wish P s [] = end_of s.is_open (Int (pos 0))
first_wish P s (stmt ∷ _) = wish_by P s stmt

-- what a task wishes that stands at an event; nothing to do is as `return 0;`
abbrev pub wish_of : tree.Program → TaskState → Wish
wish_of P s = first_wish P s s.todo

-- an action answers a wish
abbrev pub Answers : Wish → Action → Type 0
Answers w (Reads cell _) = w ≡ ToRead cell
Answers w (Writes cell value) = w ≡ ToWrite cell value
Answers w (Spawns code _ _ _ args) = w ≡ ToSpawn code args
Answers w (Creates code _ _ _ args) = w ≡ ToCreate code args
Answers w (Syncs _) = w ≡ ToSync
Answers w (Gets future _ _) = w ≡ ToGet future
Answers w (Ends value) = w ≡ ToEnd value

-- ---- what an entry makes of the state

-- the first statement has set its variable, and is done
abbrev pub receives : TaskState → List tree.Stmt → Value → TaskState
receives s [] v = s
receives s (stmt ∷ rest) v = goes_on s rest (set_by stmt s.vars v)

-- the first statement is done
abbrev pub passes : TaskState → Bool → TaskState
passes s is_open = record { vars = s.vars; todo = drop 1 s.todo; is_open = is_open }

-- what is to do after a sync: a `return` stays
abbrev pub after_sync : List tree.Stmt → List tree.Stmt
after_sync [] = []
after_sync (tree.Return' e ∷ rest) = tree.Return' e ∷ rest
after_sync (_ ∷ rest) = rest

-- the state after an action of the task that stood at this event
abbrev pub effect_of : TaskState → Action → TaskState
effect_of s (Reads _ value) = receives s s.todo (Int value)
effect_of s (Writes _ _) = passes s s.is_open
effect_of s (Spawns _ _ _ _ _) = passes s true
effect_of s (Creates _ child _ _ _) = receives s s.todo (Fut child)
effect_of s (Syncs _) = record { vars = s.vars; todo = after_sync s.todo; is_open = false }
effect_of s (Gets _ value _) = receives s s.todo value
effect_of s (Ends _) = passes s s.is_open

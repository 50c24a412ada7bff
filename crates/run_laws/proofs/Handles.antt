-- What holds of the values in a task's variables holds of all that the task makes of them.
use Rattle.std.proofs.Common.{◌≡◌, ℕ, zero, suc, Bool, true, false, List, [], ◌∷◌, ◌++◌, length, drop, take, replicate, refl, ◌∙◌, subst, if◌then◌else◌}
use Rattle.std.specs.Prelude.{ℤ, pos, Option, Some, None, slice_set, slice_index_or, bytes_eq}
use Rattle.std.proofs.lemmas.Option.{same_Some}
use Rattle.fut_base.specs.declared.record.Value.{Value}
use Rattle.fut_base.specs.declared.record.Value.TheVariants.{Int, Fut}
use Rattle.fut_base.specs.declared.event.Action.{Action}
use Rattle.fut_base.specs.declared.event.Action.TheVariants.{Reads, Writes, Spawns, Creates, Syncs, Gets, Ends}
use Rattle.fut_syntax.specs.Trees as tree
use Rattle.task_machine.specs.Values.{is_zero, index_of}
use Rattle.task_machine.specs.Variables.{Slot, One, Many, Variables, slot_at, put, value_of, values_of, filled, refilled, signed}
use Rattle.task_machine.specs.Variables.{slot_in, operand_in, primary_in, value_in, number_in, values_in, size_of, taken, bound}
use Rattle.task_machine.specs.Texts.{TaskText, task_at, task_number, cell_at, stmts_of, else_of}
use Rattle.task_machine.specs.State.{TaskState, Wish, ToSpawn, ToCreate, ToGet, ToEnd, started, start_state, goes_on, set_by}
use Rattle.task_machine.specs.State.{element_of, local_value, init_step, store_step, step_by, first_step, read_of, write_of, spawn_of}
use Rattle.task_machine.specs.State.{create_of, get_of, end_of, wish_of_init, wish_by, first_wish, wish_of, receives, effect_of}
use Rattle.task_machine.specs.Runs.{Steps, StandsAt}

-- V holds of each value
abbrev pub Each : (Value → Type 0) → List Value → Type 0
Each V [] = Unit {0}
Each V (v ∷ vs) = V v × Each V vs

-- V holds of each value in the variables, those of arrays too
abbrev pub InAll : (Value → Type 0) → Variables → Type 0
InAll V [] = Unit {0}
InAll V (v ∷ vs) = Each V (values_of v.1) × InAll V vs

-- what an action brings to the task that acts
abbrev pub brings : Action → Value
brings (Creates _ child _ _ _) = Fut child
brings (Gets _ value _) = value
brings _ = Int (pos 0)

-- a wish hands out values of which V holds, and ends no task whose block is open
abbrev pub HandsOut : (Value → Type 0) → Bool → Wish → Type 0
HandsOut V is_open (ToSpawn _ args) = Each V args
HandsOut V is_open (ToCreate _ args) = Each V args
HandsOut V is_open (ToGet future) = V (Fut future)
HandsOut V is_open (ToEnd value) = V value × (is_open ≡ false)
HandsOut V is_open _ = Unit {0}

pub each_more : (V W : Value → Type 0) → ((v : Value) → V v → W v) → (vs : List Value) → Each V vs → Each W vs
each_more V W f [] h = tt
each_more V W f (v ∷ vs) h = (f v h.0, each_more V W f vs h.1)

pub all_more : (V W : Value → Type 0) → ((v : Value) → V v → W v) → (vs : Variables) → InAll V vs → InAll W vs
all_more V W f [] h = tt
all_more V W f (v ∷ vs) h = (each_more V W f (values_of v.1) h.0, all_more V W f vs h.1)

module _ (V : Value → Type 0) (int : (z : ℤ) → V (Int z)) where
  each_append : (xs ys : List Value) → Each V xs → Each V ys → Each V (xs ++ ys)
  each_append [] ys h k = k
  each_append (x ∷ xs) ys h k = (h.0, each_append xs ys h.1 k)

  each_replicate : (n : ℕ) (v : Value) → V v → Each V (replicate n v)
  each_replicate zero v h = tt
  each_replicate (suc n) v h = (h, each_replicate n v h)

  each_at : (vs : List Value) (i : ℕ) (d : Value) → Each V vs → V d → V (slice_index_or vs i d)
  each_at [] i d h k = k
  each_at (v ∷ vs) zero d h k = h.0
  each_at (v ∷ vs) (suc i) d h k = each_at vs i d h.1 k

  each_set : (vs : List Value) (i : ℕ) (v : Value) → Each V vs → V v → Each V (slice_set vs i v)
  each_set [] i v h k = tt
  each_set (x ∷ vs) zero v h k = (k, h.1)
  each_set (x ∷ vs) (suc i) v h k = (h.0, each_set vs i v h.1 k)

  each_take : (n : ℕ) (vs : List Value) → Each V vs → Each V (take n vs)
  each_take zero vs h = tt
  each_take (suc n) [] h = tt
  each_take (suc n) (v ∷ vs) h = (h.0, each_take n vs h.1)

  each_drop : (n : ℕ) (vs : List Value) → Each V vs → Each V (drop n vs)
  each_drop zero vs h = h
  each_drop (suc n) [] h = tt
  each_drop (suc n) (v ∷ vs) h = each_drop n vs h.1

  at_if : (b : Bool) (a c : Slot) → Each V (values_of a) → Each V (values_of c) → Each V (values_of (if b then a else c))
  at_if true a c h k = h
  at_if false a c h k = k

  slot_all : (vs : Variables) (word : List ℕ) → InAll V vs → Each V (values_of (slot_at vs word))
  slot_all [] word h = (int (pos 0), tt)
  slot_all (v ∷ vs) word h = at_if (bytes_eq v.0 word) v.1 (slot_at vs word) h.0 (slot_all vs word h.1)

  vars_if : (b : Bool) (a c : Variables) → InAll V a → InAll V c → InAll V (if b then a else c)
  vars_if true a c h k = h
  vars_if false a c h k = k

  put_all : (vs : Variables) (word : List ℕ) (slot : Slot) → InAll V vs → Each V (values_of slot) → InAll V (put vs word slot)
  put_all [] word slot h k = (k, tt)
  put_all (v ∷ vs) word slot h k = vars_if (bytes_eq v.0 word) ((v.0, slot) ∷ vs) (v ∷ put vs word slot) (k, h.1) (h.0, put_all vs word slot h.1 k)

  value_all : (s : Slot) → Each V (values_of s) → V (value_of s)
  value_all (One v) h = h.0
  value_all (Many vs) h = int (pos 0)

  filled_all : (type : tree.VarType) (v : Value) → V v → Each V (values_of (filled type v))
  filled_all (tree.Plain _) v h = (h, tt)
  filled_all (tree.Array _ n) v h = each_replicate n v h

  refilled_all : (s : Slot) (v : Value) → V v → Each V (values_of (refilled s v))
  refilled_all (One _) v h = (h, tt)
  refilled_all (Many vs) v h = each_replicate (length vs) v h

  signed_all : (sign : tree.Sign) (s : Slot) → Each V (values_of s) → Each V (values_of (signed sign s))
  signed_all tree.NoSign s h = h
  signed_all tree.Negative s h = (int _, tt)
  signed_all tree.Inverted s h = (int _, tt)

  mutual
    slot_in_all : (vs : Variables) (e : tree.Expr) → InAll V vs → Each V (values_of (slot_in vs e))
    slot_in_all vs (tree.Alone o) h = operand_all vs o h
    slot_in_all vs (tree.Pair a op b) h = (int _, tt)

    operand_all : (vs : Variables) (o : tree.Operand) → InAll V vs → Each V (values_of (operand_in vs o))
    operand_all vs (tree.Signed sign p) h = signed_all sign (primary_in vs p) (primary_all vs p h)

    primary_all : (vs : Variables) (p : tree.Primary) → InAll V vs → Each V (values_of (primary_in vs p))
    primary_all vs (tree.Literal n) h = (int _, tt)
    primary_all vs (tree.Name word) h = slot_all vs word h
    primary_all vs (tree.Bracket e) h = slot_in_all vs e h

  pub value_in_all : (vs : Variables) (e : tree.Expr) → InAll V vs → V (value_in vs e)
  value_in_all vs e h = value_all (slot_in vs e) (slot_in_all vs e h)

  values_in_all : (vs : Variables) (es : List tree.Expr) → InAll V vs → Each V (values_in vs es)
  values_in_all vs [] h = tt
  values_in_all vs (e ∷ es) h = each_append (values_of (slot_in vs e)) (values_in vs es) (slot_in_all vs e h) (values_in_all vs es h)

  taken_all : (type : tree.VarType) (vs : List Value) → Each V vs → Each V (values_of (taken type vs))
  taken_all (tree.Plain _) vs h = (each_at vs 0 (Int (pos 0)) h (int (pos 0)), tt)
  taken_all (tree.Array _ n) vs h = each_take n vs h

  bound_all : (ps : List tree.Param) (vs : List Value) → Each V vs → InAll V (bound ps vs)
  bound_all [] vs h = tt
  bound_all (p ∷ ps) vs h = (taken_all p.type vs h, bound_all ps (drop (size_of p.type) vs) (each_drop (size_of p.type) vs h))

  started_all : (o : Option TaskText) (args : List Value) → Each V args → InAll V (started o args).vars
  started_all None args h = tt
  started_all (Some t) args h = bound_all t.params args h

  -- a task begins with its arguments
  pub start_all : (P : tree.Program) (which : ℕ) (args : List Value) → Each V args → InAll V (start_state P which args).vars
  start_all P which args h = started_all (task_at P which) args h

  set_by_all : (stmt : tree.Stmt) (vs : Variables) (v : Value) → InAll V vs → V v → InAll V (set_by stmt vs v)
  set_by_all (tree.Declare _ _) vs v h k = h
  set_by_all (tree.Define word type _) vs v h k = put_all vs word (filled type v) h (filled_all type v k)
  set_by_all (tree.Assign word _) vs v h k = put_all vs word (refilled (slot_at vs word) v) h (refilled_all (slot_at vs word) v k)
  set_by_all (tree.Store _ _ _) vs v h k = h
  set_by_all (tree.SpawnOf _ _) vs v h k = h
  set_by_all tree.SyncAll vs v h k = h
  set_by_all (tree.If' _ _ _) vs v h k = h
  set_by_all (tree.While' _ _) vs v h k = h
  set_by_all (tree.Return' _) vs v h k = h

  -- a local step keeps whether the block is open, and V
  abbrev pub Kept : TaskState → TaskState → Type 0
  Kept s t = (t.is_open ≡ s.is_open) × InAll V t.vars

  kept_by : (s t u : TaskState) → Kept s t → Some t ≡ Some u → Kept s u
  kept_by s t u k e = subst (λ x. Kept s x) (same_Some t u e) k

  init_all : (s u : TaskState) (rest : List tree.Stmt) (stmt : tree.Stmt) (o : Option Value) → ((v : Value) → o ≡ Some v → V v) → InAll V s.vars
      → init_step s rest stmt o ≡ Some u → Kept s u
  init_all s u rest stmt None f h e = cc
  init_all s u rest stmt (Some v) f h e = kept_by s (goes_on s rest (set_by stmt s.vars v)) u (refl, set_by_all stmt s.vars v h (f v refl)) e

  some_value : (v w : Value) → Some v ≡ Some w → V v → V w
  some_value v w e h = let q : v ≡ w = cc in subst V q h

  element_all : (s : Slot) (z : ℤ) (v : Value) → Each V (values_of s) → element_of s z ≡ Some v → V v
  element_all (One _) z v h e = cc
  element_all (Many vs) z v h e = some_value _ v e (each_at vs (index_of (length vs) z) (Int (pos 0)) h (int (pos 0)))

  local_all : (vs : Variables) (init : tree.Init) → InAll V vs → (v : Value) → local_value vs init ≡ Some v → V v
  local_all vs (tree.GetOf _) h v e = cc
  local_all vs (tree.CreateOf _ _) h v e = cc
  local_all vs (tree.Index word x) h v e = element_all (slot_at vs word) (number_in vs x) v (slot_all vs word h) e
  local_all vs (tree.Value x) h v e = some_value (value_in vs x) v e (value_in_all vs x h)

  store_all : (s u : TaskState) (rest : List tree.Stmt) (word : List ℕ) (slot : Slot) (z : ℤ) (v : Value) → InAll V s.vars → Each V (values_of slot) → V v
      → store_step s rest word slot z v ≡ Some u → Kept s u
  store_all s u rest word (One _) z v h k w e = cc
  store_all s u rest word (Many vs) z v h k w e =
      kept_by s (goes_on s rest (put s.vars word (Many (slice_set vs (index_of (length vs) z) v)))) u
      (refl, put_all s.vars word (Many (slice_set vs (index_of (length vs) z) v)) h (each_set vs (index_of (length vs) z) v k w)) e

  step_all : (s u : TaskState) (rest : List tree.Stmt) (stmt : tree.Stmt) → InAll V s.vars → step_by s rest stmt ≡ Some u → Kept s u
  step_all s u rest (tree.Declare word type) h e =
      kept_by s (goes_on s rest (put s.vars word (filled type (Int (pos 0))))) u
      (refl, put_all s.vars word (filled type (Int (pos 0))) h (filled_all type (Int (pos 0)) (int (pos 0)))) e
  step_all s u rest (tree.Define word type init) h e = init_all s u rest (tree.Define word type init) (local_value s.vars init) (local_all s.vars init h) h e
  step_all s u rest (tree.Assign word init) h e = init_all s u rest (tree.Assign word init) (local_value s.vars init) (local_all s.vars init h) h e
  step_all s u rest (tree.Store word x y) h e =
      store_all s u rest word (slot_at s.vars word) (number_in s.vars x) (value_in s.vars y) h (slot_all s.vars word h) (value_in_all s.vars y h) e
  step_all s u rest (tree.If' x b t) h e =
      kept_by s (goes_on s (if is_zero (number_in s.vars x) then else_of t ++ rest else stmts_of b ++ rest) s.vars) u (refl, h) e
  step_all s u rest (tree.While' x b) h e =
      kept_by s (goes_on s (if is_zero (number_in s.vars x) then rest else stmts_of b ++ tree.While' x b ∷ rest) s.vars) u (refl, h) e
  step_all s u rest (tree.SpawnOf _ _) h e = cc
  step_all s u rest tree.SyncAll h e = cc
  step_all s u rest (tree.Return' _) h e = cc

  first_all : (s u : TaskState) (todo : List tree.Stmt) → InAll V s.vars → first_step s todo ≡ Some u → Kept s u
  first_all s u [] h e = cc
  first_all s u (stmt ∷ rest) h e = step_all s u rest stmt h e

  pub steps_all : (n : ℕ) (s t : TaskState) → InAll V s.vars → Steps n s t → Kept s t
  steps_all zero s t h x = subst (λ z. Kept s z) x (refl, h)
  steps_all (suc n) s t h x =
      let k : Kept s x.0 = first_all s x.0 s.todo h x.1 in
      let r : Kept x.0 t = steps_all n x.0 t k.1 x.2 in
      (r.0 ∙ k.0, r.1)

  pub stands_all : (s t : TaskState) → InAll V s.vars → StandsAt s t → Kept s t
  stands_all s t h (limit, most, (n, below, steps, stop)) = steps_all n s t h steps

  -- ---- wishes

  spawn_all : (b : Bool) (o : Option ℕ) (args : List Value) → Each V args → HandsOut V b (spawn_of o args)
  spawn_all b None args h = tt
  spawn_all b (Some code) args h = h

  create_all : (b : Bool) (o : Option ℕ) (args : List Value) → Each V args → HandsOut V b (create_of o args)
  create_all b None args h = tt
  create_all b (Some code) args h = h

  get_all : (b : Bool) (v : Value) → V v → HandsOut V b (get_of v)
  get_all b (Int _) h = tt
  get_all b (Fut f) h = h

  end_all : (b : Bool) (v : Value) → V v → HandsOut V b (end_of b v)
  end_all true v h = tt
  end_all false v h = (h, refl)

  read_all : (b : Bool) (o : Option ℕ) → HandsOut V b (read_of o)
  read_all b None = tt
  read_all b (Some cell) = tt

  write_all : (b : Bool) (o : Option ℕ) (z : ℤ) → HandsOut V b (write_of o z)
  write_all b None z = tt
  write_all b (Some cell) z = tt

  init_wish : (P : tree.Program) (b : Bool) (vs : Variables) (init : tree.Init) → InAll V vs → HandsOut V b (wish_of_init P vs init)
  init_wish P b vs (tree.GetOf word) h = get_all b (value_of (slot_at vs word)) (value_all (slot_at vs word) (slot_all vs word h))
  init_wish P b vs (tree.CreateOf word es) h = create_all b (task_number P word) (values_in vs es) (values_in_all vs es h)
  init_wish P b vs (tree.Index word e) h = read_all b (cell_at P word (number_in vs e))
  init_wish P b vs (tree.Value _) h = tt

  stmt_wish : (P : tree.Program) (s : TaskState) (stmt : tree.Stmt) → InAll V s.vars → HandsOut V s.is_open (wish_by P s stmt)
  stmt_wish P s (tree.Define _ _ init) h = init_wish P s.is_open s.vars init h
  stmt_wish P s (tree.Assign _ init) h = init_wish P s.is_open s.vars init h
  stmt_wish P s (tree.Store word e f) h = write_all s.is_open (cell_at P word (number_in s.vars e)) (number_in s.vars f)
  stmt_wish P s (tree.SpawnOf word es) h = spawn_all s.is_open (task_number P word) (values_in s.vars es) (values_in_all s.vars es h)
  stmt_wish P s tree.SyncAll h = tt
  stmt_wish P s (tree.Return' e) h = end_all s.is_open (value_in s.vars e) (value_in_all s.vars e h)
  stmt_wish P s (tree.Declare _ _) h = tt
  stmt_wish P s (tree.If' _ _ _) h = tt
  stmt_wish P s (tree.While' _ _) h = tt

  todo_wish : (P : tree.Program) (s : TaskState) (todo : List tree.Stmt) → InAll V s.vars → HandsOut V s.is_open (first_wish P s todo)
  todo_wish P s [] h = end_all s.is_open (Int (pos 0)) (int (pos 0))
  todo_wish P s (stmt ∷ rest) h = stmt_wish P s stmt h

  -- what a task hands out stands in its variables
  pub wish_all : (P : tree.Program) (s : TaskState) → InAll V s.vars → HandsOut V s.is_open (wish_of P s)
  wish_all P s h = todo_wish P s s.todo h

  -- ---- what an entry makes of the variables

  receives_all : (s : TaskState) (todo : List tree.Stmt) (v : Value) → InAll V s.vars → V v → InAll V (receives s todo v).vars
  receives_all s [] v h k = h
  receives_all s (stmt ∷ rest) v h k = set_by_all stmt s.vars v h k

  pub effect_all : (s : TaskState) (a : Action) → InAll V s.vars → V (brings a) → InAll V (effect_of s a).vars
  effect_all s (Reads _ value) h k = receives_all s s.todo (Int value) h (int value)
  effect_all s (Writes _ _) h k = h
  effect_all s (Spawns _ _ _ _ _) h k = h
  effect_all s (Creates _ child _ _ _) h k = receives_all s s.todo (Fut child) h k
  effect_all s (Syncs _) h k = h
  effect_all s (Gets _ value _) h k = receives_all s s.todo value h k
  effect_all s (Ends _) h k = h

-- A well-typed text of fewer than 2^32 tokens has what the compiler asks for.
use Rattle.std.proofs.Common.{◌≡◌, ℕ, zero, suc, ◌+◌, ◌*◌, ◌<◌, ◌≤◌, ◌^◌, true, false, List, [], ◌∷◌, ◌++◌, length, refl, sym}
use Rattle.std.proofs.Common.{ap, ◌∙◌, subst, arith, length-append, append_assoc, add-one, ltb-false, get_or, drop, eq-eqb}
use Rattle.std.specs.Prelude.{Some, None, nat_eq, nat_lt, ◌&&◌, slice_index, IsSomeAnd}
use Rattle.std.proofs.lemmas.Option.{same_Some}
use Rattle.std.proofs.lemmas.Bool.{or_parts, and_parts}
use Rattle.fut_syntax.specs.Trees as tree
use Rattle.fut_syntax.specs.declared.tree.Item as code
use Rattle.fut_syntax.specs.declared.tree.Item.TheVariants as item
use Rattle.fut_syntax.specs.declared.tree.Expr.{Expr}
use Rattle.fut_syntax.specs.declared.tree.Stmt.{Stmt}
use Rattle.fut_syntax.specs.declared.tree.Param.{Param}
use Rattle.fut_syntax.specs.Views.{expr_tree, args_tree, type_tree, param_tree, params_tree, stmt_tree, block_tree, item_tree, items_tree, program_tree}
use Rattle.fut_rules.specs.declared.fault.Rule.TheVariants as rule
use Rattle.fut_rules.specs.declared.names.Variable.{Variable}
use Rattle.fut_rules.specs.Faults.{broken, fault_if}
use Rattle.fut_rules.specs.Kinds.{kind_of, init_need, size}
use Rattle.fut_rules.specs.Names.{Scope, cells, declares, declaration, means_task, kind_named, slots, variable}
use Rattle.fut_rules.specs.Inits.{call_rule, call_faults, args_faults, tested_params, init_faults}
use Rattle.fut_rules.specs.Widths.{expr_width, init_width, type_width, stmt_width, block_width, tail_width}
use Rattle.fut_rules.specs.Widths.{param_width, each_param_width, params_width, item_width, items_width}
use Rattle.fut_check.specs.Numbers.{expr_fits, each_fits, init_fits, stmt_fits, block_fits, tail_fits, items_fit}
use Rattle.fut_check.specs.Checks.{some_fit}
use Rattle.fut_check.specs.Stmts.{type_faults, depth_faults, is_bad_length, is_handle, declared_faults, assigned_rule, value_need}
use Rattle.fut_check.specs.Stmts.{scope_after, with_declared, declared_in_block, stmt_faults, block_faults, tail_faults}
use Rattle.fut_check.specs.Items.{param_variable, is_over, param_faults, params_faults, opening_scope, body_faults}
use Rattle.fut_check.specs.Items.{head_faults, is_bad_array, item_faults, items_faults, IsWellTyped}
use Rattle.task_machine.specs.Variables.{size_of}
use Rattle.task_machine.specs.Texts.{tasks_from, arrays_from, count_cells}
use Rattle.task_types.proofs.Slots.{nil_left, nil_right, nil_three, not_found}
use Rattle.task_types.proofs.Calling.{call_known, task_found}
use Rattle.task_types.proofs.Texts.{if_parts, while_block}
use Rattle.task_frame.specs.declared.names.Name.{Name}
use Rattle.task_frame.specs.Arrays.{EachHasCells}
use Rattle.task_frame.specs.Names.{find_name, rooms_by, HasRoom}
use Rattle.task_frame.specs.Gathered.{room_of, Has, HasInit, HasStmt, HasBlock, HasTail, HasParams, words_of_init, words_of_stmt, words_of_block, words_of_tail}
use Rattle.task_code.specs.declared.code.ParamCode.{ParamCode}
use Rattle.task_code.specs.Flat.{Context, AreGiven}
use Rattle.task_code.specs.Serving.{HasVariable, IsTask, ServesInit, ServesStmt, ServesBlock, ServesTail, ServesParams}
use Rattle.task_code.specs.Serving.{values_for, instructions_for, instructions_in, instructions_else, IsSound, AreSound}

-- ---- types

-- an array that breaks no rule has at most 64 elements
small_type : (n : ℕ) (v : tree.VarType) → type_faults n v ≡ [] → size_of v ≤ 64
small_type n (tree.Plain d) f = omega arith
small_type n (tree.Array d m) f =
    let parts = nil_three (depth_faults n d) (fault_if (nat_eq d 0) (n + d) rule.IntForHandle) (fault_if (is_bad_length m) (n + d + 2) rule.ArrayLength) f in
    let le : m ≤ 64 = ltb-false 64 m (or_parts (nat_eq m 0) (nat_lt 64 m) (not_found (is_bad_length m) (n + d + 2) rule.ArrayLength parts.2)).1 in
    omega (arith, le)

has_room : (names : List Name) (n : ℕ) (v : tree.VarType) → size_of v ≤ 64 → room_of v ≤ slice_index (rooms_by names) n → HasRoom (rooms_by names) n v
has_room names n (tree.Plain d) small h = tt
has_room names n (tree.Array d k) small h = omega (arith, small, h)

has_variable : (names : List Name) (w : List ℕ) (n : ℕ) (v : tree.VarType) → type_faults n v ≡ [] → Has names w (room_of v) → HasVariable names w v
has_variable names w n v f h =
    let small = small_type n v f in
    record { number = h.number; found = h.found; room = has_room names h.number v small h.wide; small = omega (arith, small) }

-- ---- calls

is_task : (items : List tree.Item) (vis : List Variable) (n : ℕ) (w : List ℕ) (es : List tree.Expr) → call_faults items vis n w es ≡ [] → IsTask items w
is_task items vis n w es f =
    let o = means_task (declaration items w) in
    let k = call_known o (length es) n (nil_left (broken (call_rule o (length es)) n) (args_faults vis (n + 2) (tested_params o (length es)) es) f) in
    let r = task_found items 0 w k.0 k.1 in
    (0 + r.place, r.number)

module _ (g : Context) (vis : List Variable) where
  serves_init : (n : ℕ) (needed : _) (i : tree.Init) → init_faults g.items vis n needed i ≡ [] → HasInit g.names i → init_fits i ≡ true → ServesInit g i
  serves_init n needed (tree.GetOf w) f h k = (h.number, h.found)
  serves_init n needed (tree.CreateOf w es) f h k = (is_task g.items vis (n + 1) w es (nil_left (call_faults g.items vis (n + 1) w es) _ f), k)
  serves_init n needed (tree.Index w e) f h k = k
  serves_init n needed (tree.Value e) f h k = k

-- ---- statements

mutual
  serves_stmt : (g : Context) (s : Scope) (n : ℕ) (x : tree.Stmt) → stmt_faults g.items s n x ≡ [] → HasStmt g.names x → stmt_fits x ≡ true → ServesStmt g x
  serves_stmt g s n (tree.Declare w v) f h k =
      let parts = nil_three (declared_faults g.items s.declared (n + 1) (variable w v)) (type_faults (n + 3) v)
      (fault_if (is_handle (kind_of v)) (n + 1) rule.NoValue) f in
      has_variable g.names w (n + 3) v parts.1 h
  serves_stmt g s n (tree.Define w v i) f h k =
      let parts = nil_three (declared_faults g.items s.declared (n + 1) (variable w v)) (type_faults (n + 3) v)
      (init_faults g.items s.visible (n + 3 + type_width v + 1) (Some (init_need (kind_of v))) i) f in
      (has_variable g.names w (n + 3) v parts.1 h.0, serves_init g s.visible (n + 3 + type_width v + 1) (Some (init_need (kind_of v))) i parts.2 h.1 k)
  serves_stmt g s n (tree.Assign w i) f h k =
      let part = nil_right (broken (assigned_rule (kind_named s.visible w)) n)
      (init_faults g.items s.visible (n + 2) (value_need (kind_named s.visible w)) i) f in
      ((h.0.number, h.0.found), serves_init g s.visible (n + 2) (value_need (kind_named s.visible w)) i part h.1 k)
  serves_stmt g s n (tree.Store w e x) f h k = and_parts (expr_fits e) (expr_fits x) k
  serves_stmt g s n (tree.SpawnOf w es) f h k = (is_task g.items s.visible (n + 1) w es f, k)
  serves_stmt g s n tree.SyncAll f h k = tt
  serves_stmt g s n (tree.If' e b o) f h k =
      let parts = if_parts g.items s n e b o f in
      let fits = and_parts (expr_fits e && block_fits b) (tail_fits o) k in
      let front = and_parts (expr_fits e) (block_fits b) fits.0 in (
        front.0,
        serves_block g s (n + 1 + expr_width e + 1) b parts.block h.0 front.1,
        serves_tail g (with_declared s (declared_in_block b)) (n + 1 + expr_width e + 1 + block_width b + 1) o parts.tail h.1 fits.1,
      )
  serves_stmt g s n (tree.While' e b) f h k =
      let fits = and_parts (expr_fits e) (block_fits b) k in
      (fits.0, serves_block g s (n + 1 + expr_width e + 1) b (while_block g.items s n e b f) h fits.1)
  serves_stmt g s n (tree.Return' e) f h k = k

  pub serves_block : (g : Context) (s : Scope) (n : ℕ) (b : tree.Block) → block_faults g.items s n b ≡ [] → HasBlock g.names b → block_fits b ≡ true
      → ServesBlock g b
  serves_block g s n tree.Done f h k = tt
  serves_block g s n (tree.Then x b) f h k =
      let fits = and_parts (stmt_fits x) (block_fits b) k in (
        serves_stmt g s n x (nil_left (stmt_faults g.items s n x) (block_faults g.items (scope_after s x) (n + stmt_width x) b) f) h.0 fits.0,
        serves_block g (scope_after s x) (n + stmt_width x) b
            (nil_right (stmt_faults g.items s n x) (block_faults g.items (scope_after s x) (n + stmt_width x) b) f) h.1 fits.1,
      )

  serves_tail : (g : Context) (s : Scope) (n : ℕ) (o : tree.Tail) → tail_faults g.items s n o ≡ [] → HasTail g.names o → tail_fits o ≡ true → ServesTail g o
  serves_tail g s n tree.NoElse f h k = tt
  serves_tail g s n (tree.ElseOf b) f h k = serves_block g s (n + 2) b f h k

-- ---- parameters

pub serves_params : (items : List tree.Item) (names : List Name) (before : List Variable) (n : ℕ) (ps : List tree.Param)
    → params_faults items before n ps ≡ [] → HasParams names ps → ServesParams names ps
serves_params items names before n [] f h = tt
serves_params items names before n (p ∷ ps) f h =
    let own = nil_left (param_faults items before n p) (params_faults items (before ++ param_variable p ∷ []) (n + param_width p) ps) f in
    let rest = nil_right (param_faults items before n p) (params_faults items (before ++ param_variable p ∷ []) (n + param_width p) ps) f in
    let parts = nil_three (declared_faults items before n (param_variable p)) (fault_if (is_over before (kind_of p.type)) n rule.ConstantLimit)
    (type_faults (n + 2) p.type) own in
    (has_variable names p.name (n + 2) p.type parts.2 h.0, serves_params items names (before ++ param_variable p ∷ []) (n + param_width p) ps rest h.1)

-- each parameter takes at most 64 values
pub few_values : (items : List tree.Item) (before : List Variable) (n : ℕ) (ps : List tree.Param) → params_faults items before n ps ≡ []
    → values_for ps ≤ 64 * length ps
few_values items before n [] f = omega arith
few_values items before n (p ∷ ps) f =
    let own = nil_left (param_faults items before n p) (params_faults items (before ++ param_variable p ∷ []) (n + param_width p) ps) f in
    let rest = nil_right (param_faults items before n p) (params_faults items (before ++ param_variable p ∷ []) (n + param_width p) ps) f in
    let parts = nil_three (declared_faults items before n (param_variable p)) (fault_if (is_over before (kind_of p.type)) n rule.ConstantLimit)
    (type_faults (n + 2) p.type) own in
    let small = small_type (n + 2) p.type parts.2 in
    let more = few_values items (before ++ param_variable p ∷ []) (n + param_width p) ps rest in
    omega (arith, small, more)

-- there are at most eight of them
few_params : (items : List tree.Item) (before : List Variable) (n : ℕ) (ps : List tree.Param) → length before ≤ 8 → params_faults items before n ps ≡ []
    → length before + length ps ≤ 8
few_params items before n [] le f = omega arith
few_params items before n (p ∷ ps) le f =
    let own = nil_left (param_faults items before n p) (params_faults items (before ++ param_variable p ∷ []) (n + param_width p) ps) f in
    let rest = nil_right (param_faults items before n p) (params_faults items (before ++ param_variable p ∷ []) (n + param_width p) ps) f in
    let parts = nil_three (declared_faults items before n (param_variable p)) (fault_if (is_over before (kind_of p.type)) n rule.ConstantLimit)
    (type_faults (n + 2) p.type) own in
    let not_eight = not_eq (length before) 8
    (or_parts (nat_eq (length before) 8) (nat_lt 16 (slots before + size (kind_of p.type)))
    (not_found (is_over before (kind_of p.type)) n rule.ConstantLimit parts.1)).0 in
    let one = length-append before (param_variable p ∷ []) in
    let more = few_params items (before ++ param_variable p ∷ []) (n + param_width p) ps
    (below_next (length before) (length (before ++ param_variable p ∷ [])) le not_eight one) rest in
    omega (arith, one, more)
  where
    not_eq : (a b : ℕ) → nat_eq a b ≡ false → a ≡ b → ⊥
    not_eq a b h e = (let t : nat_eq a b ≡ true = eq-eqb a b e in cc)

    below_next : (a b : ℕ) → a ≤ 8 → (a ≡ 8 → ⊥) → b ≡ a + 1 → b ≤ 8
    below_next a b le ne e = omega (arith, le, ne, e)

pub values_bound : (items : List tree.Item) (n : ℕ) (ps : List tree.Param) → params_faults items [] n ps ≡ [] → values_for ps < 2 ^ 32
values_bound items n ps f = let a = few_values items [] n ps f in let b = few_params items [] n ps (omega arith) f in omega (arith, a, b)

-- ---- counts

init_words : (i : tree.Init) → words_of_init i ≤ init_width i
init_words (tree.GetOf w) = omega arith
init_words (tree.CreateOf w es) = omega arith
init_words (tree.Index w e) = omega arith
init_words (tree.Value e) = omega arith

mutual
  stmt_counts : (x : tree.Stmt) → (words_of_stmt x ≤ stmt_width x) × (instructions_for x ≤ stmt_width x)
  stmt_counts (tree.Declare w v) = (omega arith, omega arith)
  stmt_counts (tree.Define w v i) = (let k = init_words i in (omega (arith, k), omega arith))
  stmt_counts (tree.Assign w i) = (let k = init_words i in (omega (arith, k), omega arith))
  stmt_counts (tree.Store w e f) = (omega arith, omega arith)
  stmt_counts (tree.SpawnOf w es) = (omega arith, omega arith)
  stmt_counts tree.SyncAll = (omega arith, omega arith)
  stmt_counts (tree.If' e b o) = (let k = block_counts b in let l = tail_counts o in (omega (arith, k.0, l.0), omega (arith, k.1, l.1)))
  stmt_counts (tree.While' e b) = (let k = block_counts b in (omega (arith, k.0), omega (arith, k.1)))
  stmt_counts (tree.Return' e) = (omega arith, omega arith)

  pub block_counts : (b : tree.Block) → (words_of_block b ≤ block_width b) × (instructions_in b ≤ block_width b)
  block_counts tree.Done = (omega arith, omega arith)
  block_counts (tree.Then x b) = (let k = stmt_counts x in let l = block_counts b in (omega (arith, k.0, l.0), omega (arith, k.1, l.1)))

  tail_counts : (o : tree.Tail) → (words_of_tail o ≤ tail_width o) × (instructions_else o ≤ tail_width o)
  tail_counts tree.NoElse = (omega arith, omega arith)
  tail_counts (tree.ElseOf b) = (let k = block_counts b in (omega (arith, k.0), omega (arith, k.1)))

params_counted : (ps : List tree.Param) → length ps < params_width ps + 1
params_counted [] = omega arith
params_counted (p ∷ ps) = let e = each ps in omega (arith, e)
  where
    each : (qs : List tree.Param) → length qs ≤ each_param_width qs
    each [] = omega arith
    each (q ∷ qs) = (let r = each qs in omega (arith, r))

-- ---- items

module _ (globals : List tree.Item) where
  pub are_sound : (before : List tree.Item) (n : ℕ) (items : List tree.Item) → items_faults globals before n items ≡ [] → items_width items < 2 ^ 32
      → items_fit items ≡ true → AreSound globals items
  are_sound before n [] f few k = tt
  are_sound before n (tree.CellsOf w m ∷ rest) f few k =
      are_sound (before ++ tree.CellsOf w m ∷ []) (n + item_width (tree.CellsOf w m)) rest
      (nil_right (item_faults globals before n (tree.CellsOf w m))
      (items_faults globals (before ++ tree.CellsOf w m ∷ []) (n + item_width (tree.CellsOf w m)) rest) f) (omega (arith, few)) k
  are_sound before n (tree.TaskOf w ps d b ∷ rest) f few k =
      let fits = and_parts (block_fits b) (items_fit rest) k in
      let i = tree.TaskOf w ps d b in
      let own = nil_left (item_faults globals before n i) (items_faults globals (before ++ i ∷ []) (n + item_width i) rest) f in
      let later = nil_right (item_faults globals before n i) (items_faults globals (before ++ i ∷ []) (n + item_width i) rest) f in
      let start = n + 3 + params_width ps + d + 2 in
      let body = nil_right (head_faults globals before n w ps d) (body_faults globals (opening_scope d ps) start b) own in
      let head = nil_left (head_faults globals before n w ps d) (body_faults globals (opening_scope d ps) start b) own in
      let count = params_counted ps in (
        record {
          scope = opening_scope d ps;
          head = n + 3;
          start = start;
          params = nil_right (_) (params_faults globals [] (n + 3) ps) (nil_left (_) (_) head);
          body = nil_left (block_faults globals (opening_scope d ps) start b) (_) body;
          few = omega (arith, few, count);
          numbers = fits.0;
        },
        are_sound (before ++ i ∷ []) (n + item_width i) rest later (omega (arith, few)) fits.1,
      )

  pub have_cells : (before : List tree.Item) (n : ℕ) (items : List tree.Item) → items_faults globals before n items ≡ [] → EachHasCells items
  have_cells before n [] f = tt
  have_cells before n (tree.TaskOf w ps d b ∷ rest) f =
      let i = tree.TaskOf w ps d b in
      have_cells (before ++ i ∷ []) (n + item_width i) rest
      (nil_right (item_faults globals before n i) (items_faults globals (before ++ i ∷ []) (n + item_width i) rest) f)
  have_cells before n (tree.CellsOf w m ∷ rest) f =
      let i = tree.CellsOf w m in
      let own = nil_left (item_faults globals before n i) (items_faults globals (before ++ i ∷ []) (n + item_width i) rest) f in
      let bad = not_found (is_bad_array before m) (n + 3) rule.ConstantLimit
      (nil_right (fault_if (declares before w) (n + 1) rule.DoubledName) (fault_if (is_bad_array before m) (n + 3) rule.ConstantLimit) own) in (
        not_zero m (or_parts (nat_eq m 0) (nat_lt 65536 (cells before + m)) bad).0,
        have_cells (before ++ i ∷ []) (n + item_width i) rest
            (nil_right (item_faults globals before n i) (items_faults globals (before ++ i ∷ []) (n + item_width i) rest) f),
      )
    where
      not_zero : (m : ℕ) → nat_eq m 0 ≡ false → 1 ≤ m
      not_zero zero h = cc
      not_zero (suc m) h = omega arith

cells_more : (before : List tree.Item) (i : tree.Item) → cells (before ++ i ∷ []) ≡ cells before + cells (i ∷ [])
cells_more [] i = omega arith
cells_more (tree.CellsOf w m ∷ before) i = let r = cells_more before i in omega (arith, r)
cells_more (tree.TaskOf w ps d b ∷ before) i = cells_more before i

pub few_cells : (globals before : List tree.Item) (n : ℕ) (items : List tree.Item) → cells before ≤ 65536 → items_faults globals before n items ≡ []
    → cells before + count_cells items ≤ 65536
few_cells globals before n [] le f = omega arith
few_cells globals before n (tree.TaskOf w ps d b ∷ rest) le f =
    let i = tree.TaskOf w ps d b in
    let more = cells_more before i in
    let r = few_cells globals (before ++ i ∷ []) (n + item_width i) rest (omega (arith, more, le))
    (nil_right (item_faults globals before n i) (items_faults globals (before ++ i ∷ []) (n + item_width i) rest) f) in
    omega (arith, more, r)
few_cells globals before n (tree.CellsOf w m ∷ rest) le f =
    let i = tree.CellsOf w m in
    let more = cells_more before i in
    let own = nil_left (item_faults globals before n i) (items_faults globals (before ++ i ∷ []) (n + item_width i) rest) f in
    let bad = not_found (is_bad_array before m) (n + 3) rule.ConstantLimit
    (nil_right (fault_if (declares before w) (n + 1) rule.DoubledName) (fault_if (is_bad_array before m) (n + 3) rule.ConstantLimit) own) in
    let low : cells before + m ≤ 65536 = ltb-false 65536 (cells before + m) (or_parts (nat_eq m 0) (nat_lt 65536 (cells before + m)) bad).1 in
    let r = few_cells globals (before ++ i ∷ []) (n + item_width i) rest (omega (arith, more, low))
    (nil_right (item_faults globals before n i) (items_faults globals (before ++ i ∷ []) (n + item_width i) rest) f) in
    omega (arith, more, r)

arrays_counted : (n : ℕ) (items : List tree.Item) → length (arrays_from n items) ≤ items_width items
arrays_counted n [] = omega arith
arrays_counted n (tree.CellsOf w m ∷ rest) = let r = arrays_counted (n + m) rest in omega (arith, r)
arrays_counted n (tree.TaskOf w ps d b ∷ rest) = let r = arrays_counted n rest in omega (arith, r)

tasks_counted : (items : List tree.Item) → length (tasks_from items) ≤ items_width items
tasks_counted [] = omega arith
tasks_counted (tree.CellsOf w m ∷ rest) = let r = tasks_counted rest in omega (arith, r)
tasks_counted (tree.TaskOf w ps d b ∷ rest) = let r = tasks_counted rest in omega (arith, r)

-- ---- a whole program

no_fault : (items : List code.Item) → IsSomeAnd (program_tree items) IsWellTyped → items_faults (items_tree items) [] 0 (items_tree items) ≡ []
no_fault [] h = absurd h
no_fault (i ∷ items) h = h

-- what the compiler asks of the items of a program
pub record HasWhole (items : List tree.Item) : Type 0 where
  pub cells : count_cells items < 2 ^ 32
  pub some : EachHasCells items
  pub arrays : length (arrays_from 0 items) < 2 ^ 32
  pub tasks : length (tasks_from items) < 2 ^ 32
  pub sound : AreSound items items

numbers_in : (items : List code.Item) → some_fit (program_tree items) ≡ true → items_fit (items_tree items) ≡ true
numbers_in [] h = refl
numbers_in (i ∷ items) h = h

pub has_whole : (items : List code.Item) → IsSomeAnd (program_tree items) IsWellTyped → items_width (items_tree items) < 2 ^ 32
    → some_fit (program_tree items) ≡ true → HasWhole (items_tree items)
has_whole items h few numbers =
    let is = items_tree items in
    let f = no_fault items h in
    let c = few_cells is [] 0 is (omega arith) f in
    let a = arrays_counted 0 is in
    let t = tasks_counted is in
    record {
      cells = omega (arith, c);
      some = have_cells is [] 0 is f;
      arrays = omega (arith, a, few);
      tasks = omega (arith, t, few);
      sound = are_sound is [] 0 is f few (numbers_in items numbers);
    }

-- ---- one place of a list

pub served_at : (g : Context) (stmts : List _) (i : ℕ) (s : Stmt) → i < length stmts → s ≡ get_or stmts i s
    → ServesBlock g (block_tree stmts) → ServesStmt g (stmt_tree s)
served_at g [] i s lt is h = absurd (omega arith)
served_at g (x ∷ stmts) zero s lt is h = subst (λ y. ServesStmt g (stmt_tree y)) (sym is) h.0
served_at g (x ∷ stmts) (suc i) s lt is h = served_at g stmts i s (omega arith) is h.1

-- ---- one task

module _ (items : List tree.Item) (ps : List tree.Param) (b : tree.Block) (x : IsSound items ps b) where
  pub few_names : (names given : List Name) (count : ℕ) → given ≡ names → count ≡ length ps → length names ≤ count + words_of_block b → length given < 2 ^ 32
  few_names names given count same is le = let k = block_counts b in let n = ap length same in let few = x.few in omega (arith, k.0, n, is, le, few)

  pub params_are_served : (names given : List Name) → given ≡ names → HasParams names ps → ServesParams given ps
  params_are_served names given same h = subst (λ l. ServesParams l ps) (sym same) (serves_params items names [] x.head ps x.params h)

  pub few_arguments : values_for ps < 2 ^ 32
  few_arguments = values_bound items x.head ps x.params

  pub body_is_served : (names given : List Name) → given ≡ names → HasBlock names b → ServesBlock (record { items = items; names = given }) b
  body_is_served names given same h =
      subst (λ l. ServesBlock (record { items = items; names = l }) b) (sym same)
      (serves_block (record { items = items; names = names }) x.scope x.start b x.body h x.numbers)

  pub few_instructions : instructions_in b + 1 < 2 ^ 32
  few_instructions = let k = block_counts b in let few = x.few in omega (arith, k.1, few)

-- ---- one parameter

param_dropped : (ps : List Param) (i : ℕ) (p : Param) → i < length ps → p ≡ get_or ps i p
    → params_tree (drop i ps) ≡ param_tree p ∷ params_tree (drop (suc i) ps)
param_dropped [] i p lt is = absurd (omega arith)
param_dropped (q ∷ ps) zero p lt is = ap (λ r. param_tree r ∷ params_tree ps) (sym is)
param_dropped (q ∷ ps) (suc i) p lt is = param_dropped ps i p (omega arith) is

param_next : (ps : List Param) (i : ℕ) (p : Param) → i < length ps → p ≡ get_or ps i p → params_tree (drop i ps) ≡ param_tree p ∷ params_tree (drop (i + 1) ps)
param_next ps i p lt is = param_dropped ps i p lt is ∙ ap (λ n. param_tree p ∷ params_tree (drop n ps)) (sym (add-one i))

-- how far the parameters are gone over
pub record Taken (names : List Name) (ps : List Param) (i first : ℕ) (given : List ParamCode) : Type 0 where
  pub all : (more : List ParamCode) → AreGiven names first (params_tree (drop i ps)) more → AreGiven names 0 (params_tree ps) (given ++ more)
  pub serves : ServesParams names (params_tree (drop i ps))
  pub few : first + values_for (params_tree (drop i ps)) ≡ values_for (params_tree ps)

module _ (names : List Name) (ps : List Param) (i first : ℕ) (given : List ParamCode) (p : Param) (lt : i < length ps) (is : p ≡ get_or ps i p)
    (x : Taken names ps i first given) where
  served_rest : HasVariable names p.name (type_tree p.kind) × ServesParams names (params_tree (drop (i + 1) ps))
  served_rest = subst (ServesParams names) (param_next ps i p lt is) x.serves

  pub param_found : find_name names p.name ≡ None → ⊥
  param_found none = let h = served_rest in let e = sym h.0.found ∙ none in cc

  pub param_fits : first + size_of (type_tree p.kind) ≤ values_for (params_tree ps)
  param_fits = let e = ap values_for (param_next ps i p lt is) in let few = x.few in omega (arith, e, few)

  pub param_given : (v : ℕ) (new : List ParamCode) → find_name names p.name ≡ Some v
      → new ≡ given ++ record { variable = v; first = first; kind = p.kind } ∷ [] → Taken names ps (i + 1) (first + size_of (type_tree p.kind)) new
  param_given v new found added =
      let h = served_rest in
      let next = param_next ps i p lt is in
      let own : ParamCode = record { variable = v; first = first; kind = p.kind } in
      let same : h.0.number ≡ v = same_Some h.0.number v (sym h.0.found ∙ found) in
      record {
        all = λ more rest.
            subst (AreGiven names 0 (params_tree ps)) (ap (λ (l : List ParamCode). l ++ more) (sym added))
            (subst (AreGiven names 0 (params_tree ps)) (sym (append_assoc given (own ∷ []) more))
            (x.all (own ∷ more)
            (subst (λ qs. AreGiven names first qs (own ∷ more)) (sym next)
            (found, refl, refl, subst (λ n. HasRoom (rooms_by names) n (type_tree p.kind)) same h.0.room, rest))));
        serves = h.1;
        few = (let e = ap values_for next in let few = x.few in omega (arith, e, few));
      }

-- ---- one item

pub sound_at : (globals : List tree.Item) (items : List code.Item) (i : ℕ) (x : code.Item) (w : List ℕ) (ps : List Param) (d : ℕ) (b : List Stmt)
    → i < length items → x ≡ get_or items i x → x ≡ item.Task w ps d b → AreSound globals (items_tree items)
    → IsSound globals (params_tree ps) (block_tree b)
sound_at globals [] i x w ps d b lt read is h = absurd (omega arith)
sound_at globals (y ∷ items) zero x w ps d b lt read is h = (subst (λ (z : code.Item). AreSound globals (item_tree z ∷ items_tree items)) (sym read ∙ is) h).0
sound_at globals (item.Cells v k ∷ items) (suc i) x w ps d b lt read is h = sound_at globals items i x w ps d b (omega arith) read is h
sound_at globals (item.Task v qs e c ∷ items) (suc i) x w ps d b lt read is h = sound_at globals items i x w ps d b (omega arith) read is h.1

-- ---- one argument

pub fits_at : (es : List Expr) (i : ℕ) (e : Expr) → i < length es → e ≡ get_or es i e → each_fits (args_tree es) ≡ true → expr_fits (expr_tree e) ≡ true
fits_at [] i e lt read h = absurd (omega arith)
fits_at (x ∷ es) zero e lt read h = ap (λ y. expr_fits (expr_tree y)) read ∙ (and_parts (expr_fits (expr_tree x)) (each_fits (args_tree es)) h).0
fits_at (x ∷ es) (suc i) e lt read h = fits_at es i e (omega arith) read (and_parts (expr_fits (expr_tree x)) (each_fits (args_tree es)) h).1

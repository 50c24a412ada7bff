-- How the code follows the definition.
use Rattle.std.proofs.Common.{◌≡◌, ℕ, suc, ◌+◌, ◌<◌, ◌≤◌, Bool, cond, List, [], ◌∷◌, ◌++◌, length, min, replicate, refl, sym, ap, ◌∙◌, subst, arith}
use Rattle.std.specs.Prelude.{ℤ, pos, Option, Some, None, bytes_eq, slice_get, slice_set, slice_index, option_map}
use Rattle.std.proofs.lemmas.List.{get_or-set_same, get_or-set_other, length-set}
use Rattle.std.proofs.lemmas.Option.{slice_get_within, same_Some}
use Rattle.std.proofs.lemmas.Bool.{both_ways}
use Rattle.task_frame.proofs.Laying.{shape_count}
use Rattle.fut_base.proofs.Cases.{by_bool}
use Rattle.fut_base.specs.declared.record.Value.{Value}
use Rattle.fut_base.specs.declared.record.Value.TheVariants.{Int}
use Rattle.fut_syntax.specs.Trees as tree
use Rattle.fut_syntax.specs.Trees.{items_of}
use Rattle.task_machine.specs.Values.{number_of, is_zero, index_of}
use Rattle.task_machine.specs.Variables.{Slot, One, Many, Variables, slot_at, put, value_of, values_of}
use Rattle.task_machine.specs.Variables.{filled, refilled, value_in, number_in, values_in, slot_in}
use Rattle.task_machine.specs.Texts.{CellArray, cell_arrays, cell_at, find_cell, stmts_of, else_of}
use Rattle.task_machine.specs.State.{TaskState, ToSpawn, element_of, local_value, init_step, store_step, first_step, local_step, goes_on}
use Rattle.task_machine.specs.State.{set_by, read_of, write_of, get_of, spawn_of, create_of, end_of, wish_of_init, wish_by, wish_of}
use Rattle.task_types.proofs.Slots.{same_word, word_is, slot_put_same, slot_put_other}
use Rattle.task_frame.specs.declared.term.Term.{Term, Number}
use Rattle.task_frame.specs.declared.frame.Shape.TheVariants as shape
use Rattle.task_frame.specs.declared.names.Name.{Name}
use Rattle.task_code.specs.declared.code.TaskCode.{TaskCode}
use Rattle.task_frame.specs.declared.instruction.Fill.TheVariants as fill
use Rattle.task_frame.specs.declared.instruction.Target.{Target}
use Rattle.task_frame.specs.declared.instruction.Source.{Source}
use Rattle.task_frame.specs.declared.instruction.Source.TheVariants as source
use Rattle.task_frame.specs.declared.instruction.Instruction.{Instruction}
use Rattle.task_frame.specs.declared.instruction.Instruction.TheVariants.{Set, Store, Branch, Spawn, Sync, Return}
use Rattle.task_frame.specs.Arrays.{array_from, find_array, cell_in, cell_for}
use Rattle.task_frame.specs.Frames.{Held, slot_in_place, slot_for, zero_slot, shape_of, with_element}
use Rattle.task_frame.specs.Names.{find_from, find_name, rooms_by, Holds, HasRoom}
use Rattle.task_frame.specs.Terms.{number_by, value_by, values_by}
use Rattle.task_code.specs.Flat.{Context, MeansExpr, MeanAll, IsSource, DoesStmt, DoesBlock, DoesTail, fill_of}
use Rattle.task_code.specs.Tasks.{aimed, local_source, set_slots, store_slots, moved_to, Moved, moves, wished_source, wished, Does, IsEnd, where_of}
use Rattle.task_code.proofs.Meaning.{number_is}

-- ---- names

record FoundAt (k : ℕ) (names : List Name) (w : List ℕ) (n : ℕ) : Type 0 where
  index : ℕ
  is : n ≡ k + index
  name : Name
  there : slice_get names index ≡ Some name
  word : name.word ≡ w

found_at : (names : List Name) (k n : ℕ) (w : List ℕ) → find_from k names w ≡ Some n → FoundAt k names w n
found_at [] k n w h = absurd (cc)
found_at (d ∷ ds) k n w h =
    by_bool (λ b. cond b (Some k) (find_from (k + 1) ds w) ≡ Some n → FoundAt k (d ∷ ds) w n) (bytes_eq d.word w)
    (λ yes e. record { index = 0; is = (let q : k ≡ n = same_Some k n e in omega arith); name = d; there = refl; word = word_is d.word w yes })
    (λ no e. (let r = found_at ds (k + 1) n w e in record { index = suc r.index; is = omega (arith, r.is); name = r.name; there = r.there; word = r.word }))
    h

-- a name that was found has a variable
pub below_names : (names : List Name) (n : ℕ) (w : List ℕ) → find_name names w ≡ Some n → n < length names
below_names names n w h = let r = found_at names 0 n w h in omega (arith, r.is, slice_get_within names r.index r.name r.there)

-- names of one variable are one
pub one_word : (names : List Name) (m n : ℕ) (u w : List ℕ) → find_name names u ≡ Some m → find_name names w ≡ Some n → m ≡ n → w ≡ u
one_word names m n u w a b same =
    let x = found_at names 0 m u a in
    let y = found_at names 0 n w b in
    let index : x.index ≡ y.index = omega (arith, x.is, y.is) in
    let name : x.name ≡ y.name = same_Some x.name y.name (sym x.there ∙ ap (slice_get names) index ∙ y.there) in
    sym y.word ∙ ap (λ (d : Name). d.word) (sym name) ∙ x.word

pub unset : (slots : List Slot) (n : ℕ) (x : Slot) (o : Option ℕ) → ((m : ℕ) → o ≡ Some m → m ≡ n → ⊥) → slot_for slots o ≡ slot_for (slice_set slots n x) o
unset slots n x None h = refl
unset slots n x (Some m) h = sym (get_or-set_other slots n m x zero_slot (λ e. h m refl e))

pub holds_put : (names : List Name) (vars : Variables) (slots : List Slot) (w : List ℕ) (n : ℕ) (x : Slot) → Holds names vars slots
    → find_name names w ≡ Some n → Holds names (put vars w x) (slice_set slots n x)
holds_put names vars slots w n x h found =
    record {
      each = λ u. by_bool (λ b. slot_at (put vars w x) u ≡ slot_for (slice_set slots n x) (find_name names u)) (bytes_eq w u)
          (λ yes. (
          let set : slot_at (put vars w x) w ≡ slot_for (slice_set slots n x) (find_name names w) =
          slot_put_same vars w x ∙ sym (get_or-set_same slots n x zero_slot (omega (arith, below_names names n w found, h.long)))
          ∙ ap (slot_for (slice_set slots n x)) (sym found) in
          subst (λ v. slot_at (put vars w x) v ≡ slot_for (slice_set slots n x) (find_name names v)) (word_is w u yes) set))
          (λ no. slot_put_other vars w x u no ∙ h.each u ∙ unset slots n x (find_name names u)
          (λ m e same. both_ways (bytes_eq w u) no (same_word w u (one_word names m n u w e found same))));
      long = length-set slots n x ∙ h.long;
    }

-- ---- values

same_number : (names : List Name) (vars : Variables) (slots : List Slot) (e : tree.Expr) (t : Term) → Holds names vars slots → MeansExpr names e t
    → number_by slots t ≡ number_in vars e
same_number names vars slots e t h m = number_is slots t ∙ ap (λ s. number_of (value_of s)) (m.same vars slots h)

same_value : (names : List Name) (vars : Variables) (slots : List Slot) (e : tree.Expr) (t : Term) → Holds names vars slots → MeansExpr names e t
    → value_by slots t ≡ value_in vars e
same_value names vars slots e t h m = ap value_of (m.same vars slots h)

same_values : (names : List Name) (vars : Variables) (slots : List Slot) (es : List tree.Expr) (ts : List Term) → Holds names vars slots → MeanAll names es ts
    → values_by slots ts ≡ values_in vars es
same_values names vars slots [] [] h m = refl
same_values names vars slots [] (t ∷ ts) h m = absurd m
same_values names vars slots (e ∷ es) [] h m = absurd m
same_values names vars slots (e ∷ es) (t ∷ ts) h m =
    ap (λ s. values_of s ++ values_by slots ts) (m.0.same vars slots h) ∙ ap (λ vs. values_of (slot_in vars e) ++ vs) (same_values names vars slots es ts h m.1)

cell_from : (all rest : List CellArray) (k : ℕ) (w : List ℕ) (z : ℤ) → ((i : ℕ) → slice_get all (k + i) ≡ slice_get rest i)
    → cell_for all (array_from k rest w) z ≡ find_cell rest w z
cell_from all [] k w z h = refl
cell_from all (a ∷ rest) k w z h =
    by_bool (λ b. cell_for all (cond b (Some k) (array_from (k + 1) rest w)) z ≡ cond b (Some (a.first + index_of a.length z)) (find_cell rest w z))
    (bytes_eq a.name w)
    (λ yes. ap (option_map (cell_in z)) (ap (slice_get all) (let e : k ≡ k + 0 = omega arith in e) ∙ h 0))
    (λ no. cell_from all rest (k + 1) w z (λ i. ap (slice_get all) (let e : k + 1 + i ≡ k + suc i = omega arith in e) ∙ h (suc i)))

same_cell : (arrays : List CellArray) (w : List ℕ) (z : ℤ) → cell_for arrays (find_array arrays w) z ≡ find_cell arrays w z
same_cell arrays w z = cell_from arrays arrays 0 w z (λ i. ap (slice_get arrays) (let e : 0 + i ≡ i = omega arith in e))

-- ---- sources

same_local : (g : Context) (vars : Variables) (slots : List Slot) (init : tree.Init) (s : Source) → Holds g.names vars slots → IsSource g init s
    → local_source slots s ≡ local_value vars init
same_local g vars slots (tree.Value e) s h (t, m, is) = ap (local_source slots) is ∙ ap Some (same_value g.names vars slots e t h m)
same_local g vars slots (tree.Index w e) s h (t, m, is) =
    ap (local_source slots) is ∙ ap (λ x. element_of x (number_by slots t)) (sym (h.each w))
    ∙ ap (element_of (slot_at vars w)) (same_number g.names vars slots e t h m)
same_local g vars slots (tree.GetOf w) s h (n, found, is) = ap (local_source slots) is
same_local g vars slots (tree.CreateOf w es) s h (n, ts, found, m, is) = ap (local_source slots) is

same_wish : (P : tree.Program) (names : List Name) (vars : Variables) (slots : List Slot) (init : tree.Init) (s : Source) → Holds names vars slots
    → IsSource (record { items = items_of P; names = names }) init s → wish_of_init P vars init ≡ wished_source (cell_arrays P) slots s
same_wish P names vars slots (tree.Value e) s h (t, m, is) = sym (ap (wished_source (cell_arrays P) slots) is)
same_wish P names vars slots (tree.Index w e) s h (t, m, is) =
    sym
    (ap (wished_source (cell_arrays P) slots) is ∙ ap read_of (same_cell (cell_arrays P) w (number_by slots t))
    ∙ ap (λ z. read_of (cell_at P w z)) (same_number names vars slots e t h m))
same_wish P names vars slots (tree.GetOf w) s h (n, found, is) =
    sym (ap (wished_source (cell_arrays P) slots) is ∙ ap (λ x. get_of (value_of x)) (sym (h.each w ∙ ap (slot_for slots) found)))
same_wish P names vars slots (tree.CreateOf w es) s h (n, ts, found, m, is) =
    ap (λ o. create_of o (values_in vars es)) found ∙ ap (create_of (Some n)) (sym (same_values names vars slots es ts h m))
    ∙ sym (ap (wished_source (cell_arrays P) slots) is)

-- ---- what is set

fits : (k room : ℕ) → k ≤ room → min k room ≡ k
fits k room h = omega arith

same_fill : (held : Held) (n : ℕ) (type : tree.VarType) (v : Value) → HasRoom held.rooms n type
    → aimed held (record { variable = n; fill = fill_of type }) v ≡ slice_set held.slots n (filled type v)
same_fill held n (tree.Plain d) v h = refl
same_fill held n (tree.Array d k) v h = ap (λ m. slice_set held.slots n (Many (replicate m v))) (fits k (slice_index held.rooms n) h)

-- the variables after a value was received, by name and by number
pub holds_filled : (names : List Name) (vars : Variables) (held : Held) (w : List ℕ) (n : ℕ) (type : tree.VarType) (v : Value) → Holds names vars held.slots
    → held.rooms ≡ rooms_by names → find_name names w ≡ Some n → HasRoom (rooms_by names) n type
    → Holds names (put vars w (filled type v)) (aimed held (record { variable = n; fill = fill_of type }) v)
holds_filled names vars held w n type v h rooms found room =
    subst (Holds names (put vars w (filled type v))) (sym (same_fill held n type v (subst (λ rs. HasRoom rs n type) (sym rooms) room)))
    (holds_put names vars held.slots w n (filled type v) h found)

pub holds_refilled : (names : List Name) (vars : Variables) (held : Held) (w : List ℕ) (n : ℕ) (v : Value) → Holds names vars held.slots
    → find_name names w ≡ Some n → Holds names (put vars w (refilled (slot_at vars w) v)) (aimed held (record { variable = n; fill = fill.Again }) v)
holds_refilled names vars held w n v h found =
    let same : slot_at vars w ≡ slot_in_place held.slots n = h.each w ∙ ap (slot_for held.slots) found in
    subst (λ x. Holds names (put vars w (refilled (slot_at vars w) v)) (slice_set held.slots n (refilled x v))) same
    (holds_put names vars held.slots w n (refilled (slot_at vars w) v) h found)

-- ---- blocks

pub does_append : (g : Context) (code : List Instruction) (b : tree.Block) (next entry : ℕ) (rest : List tree.Stmt) → DoesBlock g code b next entry
    → Does g code next rest → Does g code entry (stmts_of b ++ rest)
does_append g code tree.Done next entry rest same h = subst (λ n. Does g code n rest) same h
does_append g code (tree.Then s b) next entry rest (middle, first, others) h = (middle, first, does_append g code b next middle rest others h)

does_tail : (g : Context) (code : List Instruction) (t : tree.Tail) (next entry : ℕ) (rest : List tree.Stmt) → DoesTail g code t next entry
    → Does g code next rest → Does g code entry (else_of t ++ rest)
does_tail g code tree.NoElse next entry rest same h = subst (λ n. Does g code n rest) same h
does_tail g code (tree.ElseOf b) next entry rest d h = does_append g code b next entry rest d h

-- ---- one step

-- what a step of the code does is what the definition does
abbrev pub Followed : tree.Program → TaskCode → Bool → Held → TaskState → Option Instruction → Option Moved → Type 0
Followed P t is_open held s o None = (local_step s ≡ None) × (wish_of P s ≡ wished (cell_arrays P) held.slots is_open o)
Followed P t is_open held s o (Some m) =
    (u : TaskState) × (local_step s ≡ Some u) × Holds t.names u.vars m.slots × Does (where_of P t) t.instructions m.next u.todo × (u.is_open ≡ s.is_open)

-- a statement that gives a variable a value
set_case : (P : tree.Program) (t : TaskCode) (is_open : Bool) (held : Held) (vars : Variables) (stmt : tree.Stmt) (rest : List tree.Stmt) (target : Target)
    (s : Source) (next : ℕ) (init : tree.Init) (o : Option Value)
    → ((v : Value) → Holds t.names (set_by stmt vars v) (aimed held target v)) → local_source held.slots s ≡ o
    → wish_of_init P vars init ≡ wished_source (cell_arrays P) held.slots s
    → first_step (record { vars = vars; todo = stmt ∷ rest; is_open = is_open }) (stmt ∷ rest)
    ≡ init_step (record { vars = vars; todo = stmt ∷ rest; is_open = is_open }) rest stmt o
    → wish_by P (record { vars = vars; todo = stmt ∷ rest; is_open = is_open }) stmt ≡ wish_of_init P vars init
    → Does (where_of P t) t.instructions next rest
    → Followed P t is_open held (record { vars = vars; todo = stmt ∷ rest; is_open = is_open }) (Some (Set target s next))
    (moved_to next (set_slots held target o))
set_case P t is_open held vars stmt rest target s next init None sets given wish step wish_is does = (step, wish_is ∙ wish)
set_case P t is_open held vars stmt rest target s next init (Some v) sets given wish step wish_is does = (_, step, sets v, does, refl)

store_case : (P : tree.Program) (t : TaskCode) (is_open : Bool) (held : Held) (vars : Variables) (w : List ℕ) (e f : tree.Expr) (rest : List tree.Stmt)
    (a b : Term) (next : ℕ) (o : Option ℕ) (x : Slot) → Holds t.names vars held.slots → find_name t.names w ≡ o → x ≡ slot_for held.slots o
    → slot_at vars w ≡ x → number_by held.slots a ≡ number_in vars e → value_by held.slots b ≡ value_in vars f → number_by held.slots b ≡ number_in vars f
    → Does (where_of P t) t.instructions next rest
    → Followed P t is_open held (record { vars = vars; todo = tree.Store w e f ∷ rest; is_open = is_open })
    (Some (Store o (find_array (cell_arrays P) w) a b next)) (moved_to next (store_slots held.slots o x (number_by held.slots a) (value_by held.slots b)))
store_case P t is_open held vars w e f rest a b next o (One v) h found is same index value number does = (
  ap (λ y. store_step (record { vars = vars; todo = tree.Store w e f ∷ rest; is_open = is_open }) rest w y (number_in vars e) (value_in vars f)) same,
  sym
      (ap (λ c. write_of c (number_by held.slots b)) (same_cell (cell_arrays P) w (number_by held.slots a))
      ∙ ap (λ z. write_of (cell_at P w z) (number_by held.slots b)) index ∙ ap (write_of (cell_at P w (number_in vars e))) number),
)
store_case P t is_open held vars w e f rest a b next None (Many vs) h found is same index value number does = absurd (cc)
store_case P t is_open held vars w e f rest a b next (Some n) (Many vs) h found is same index value number does =
    let new = Many (slice_set vs (index_of (length vs) (number_by held.slots a)) (value_by held.slots b)) in (
      goes_on (record { vars = vars; todo = tree.Store w e f ∷ rest; is_open = is_open }) rest (put vars w new),
      ap (λ y. store_step (record { vars = vars; todo = tree.Store w e f ∷ rest; is_open = is_open }) rest w y (number_in vars e) (value_in vars f)) same
          ∙ ap (λ z. store_step (record { vars = vars; todo = tree.Store w e f ∷ rest; is_open = is_open }) rest w (Many vs) z (value_in vars f)) (sym index)
          ∙ ap (λ z. store_step (record { vars = vars; todo = tree.Store w e f ∷ rest; is_open = is_open }) rest w (Many vs) (number_by held.slots a) z)
          (sym value),
      holds_put t.names vars held.slots w n new h found,
      does,
      refl,
    )

-- the code at a place, and what is to do
at_code : (P : tree.Program) (t : TaskCode) (is_open : Bool) (held : Held) (s : TaskState) (o p : Option Instruction) → p ≡ o
    → Followed P t is_open held s o (moves held o) → Followed P t is_open held s p (moves held p)
at_code P t is_open held s o p e f = subst (λ q. Followed P t is_open held s q (moves held q)) (sym e) f

branch_case : (P : tree.Program) (t : TaskCode) (is_open : Bool) (held : Held) (vars : Variables) (stmt : tree.Stmt) (rest : List tree.Stmt) (test : Term)
    (then otherwise : ℕ) (e : tree.Expr) (this that : List tree.Stmt) → Holds t.names vars held.slots → number_by held.slots test ≡ number_in vars e
    → local_step (record { vars = vars; todo = stmt ∷ rest; is_open = is_open })
    ≡ Some (record { vars = vars; todo = cond (is_zero (number_in vars e)) that this; is_open = is_open })
    → Does (where_of P t) t.instructions then this → Does (where_of P t) t.instructions otherwise that
    → Followed P t is_open held (record { vars = vars; todo = stmt ∷ rest; is_open = is_open }) (Some (Branch test then otherwise))
    (moves held (Some (Branch test then otherwise)))
branch_case P t is_open held vars stmt rest test then otherwise e this that h same step a b = (
  record { vars = vars; todo = cond (is_zero (number_in vars e)) that this; is_open = is_open },
  step,
  h,
  subst (λ z. Does (where_of P t) t.instructions (cond (is_zero z) otherwise then) (cond (is_zero (number_in vars e)) that this)) (sym same)
      (by_bool (λ c. Does (where_of P t) t.instructions (cond c otherwise then) (cond c that this)) (is_zero (number_in vars e)) (λ q. b) (λ q. a)),
  refl,
)

pub stmt_followed : (P : tree.Program) (t : TaskCode) (is_open : Bool) (held : Held) (vars : Variables) (stmt : tree.Stmt) (rest : List tree.Stmt)
    (place next : ℕ) → Holds t.names vars held.slots → held.rooms ≡ rooms_by t.names
    → DoesStmt (where_of P t) t.instructions stmt next place → Does (where_of P t) t.instructions next rest
    → Followed P t is_open held (record { vars = vars; todo = stmt ∷ rest; is_open = is_open }) (slice_get t.instructions place)
    (moves held (slice_get t.instructions place))
stmt_followed P t is_open held vars (tree.Declare w type) rest place next h rooms (i, there, (n, found, room, is)) does =
    let target : Target = record { variable = n; fill = fill_of type } in
    at_code P t is_open held (record { vars = vars; todo = tree.Declare w type ∷ rest; is_open = is_open })
    (Some (Set target (source.Value (Number (pos 0))) next)) _ (there ∙ ap Some is)
    (_, refl, holds_filled t.names vars held w n type (Int (pos 0)) h rooms found room, does, refl)
stmt_followed P t is_open held vars (tree.Define w type init) rest place next h rooms (i, there, (n, s, found, room, from, is)) does =
    let target : Target = record { variable = n; fill = fill_of type } in
    let same = same_local (where_of P t) vars held.slots init s h from in
    at_code P t is_open held (record { vars = vars; todo = tree.Define w type init ∷ rest; is_open = is_open }) (Some (Set target s next)) _
    (there ∙ ap Some is)
    (subst
    (λ o. Followed P t is_open held (record { vars = vars; todo = tree.Define w type init ∷ rest; is_open = is_open }) (Some (Set target s next))
    (moved_to next (set_slots held target o))) (sym same)
    (set_case P t is_open held vars (tree.Define w type init) rest target s next init (local_value vars init)
    (λ v. holds_filled t.names vars held w n type v h rooms found room) same (same_wish P t.names vars held.slots init s h from) refl refl does))
stmt_followed P t is_open held vars (tree.Assign w init) rest place next h rooms (i, there, (n, s, found, from, is)) does =
    let target : Target = record { variable = n; fill = fill.Again } in
    let same = same_local (where_of P t) vars held.slots init s h from in
    at_code P t is_open held (record { vars = vars; todo = tree.Assign w init ∷ rest; is_open = is_open }) (Some (Set target s next)) _ (there ∙ ap Some is)
    (subst
    (λ o. Followed P t is_open held (record { vars = vars; todo = tree.Assign w init ∷ rest; is_open = is_open }) (Some (Set target s next))
    (moved_to next (set_slots held target o))) (sym same)
    (set_case P t is_open held vars (tree.Assign w init) rest target s next init (local_value vars init)
    (λ v. holds_refilled t.names vars held w n v h found) same (same_wish P t.names vars held.slots init s h from) refl refl does))
stmt_followed P t is_open held vars (tree.Store w e f) rest place next h rooms (i, there, (a, b, index, value, is)) does =
    at_code P t is_open held (record { vars = vars; todo = tree.Store w e f ∷ rest; is_open = is_open })
    (Some (Store (find_name t.names w) (find_array (cell_arrays P) w) a b next)) _ (there ∙ ap Some is)
    (store_case P t is_open held vars w e f rest a b next (find_name t.names w) (slot_for held.slots (find_name t.names w)) h refl refl (h.each w)
    (same_number t.names vars held.slots e a h index) (same_value t.names vars held.slots f b h value)
    (same_number t.names vars held.slots f b h value) does)
stmt_followed P t is_open held vars (tree.SpawnOf w es) rest place next h rooms (i, there, (n, ts, found, means, is)) does =
    at_code P t is_open held (record { vars = vars; todo = tree.SpawnOf w es ∷ rest; is_open = is_open }) (Some (Spawn n ts next)) _ (there ∙ ap Some is)
    (refl, ap (λ o. spawn_of o (values_in vars es)) found ∙ ap (ToSpawn n) (sym (same_values t.names vars held.slots es ts h means)))
stmt_followed P t is_open held vars tree.SyncAll rest place next h rooms (i, there, is) does =
    at_code P t is_open held (record { vars = vars; todo = tree.SyncAll ∷ rest; is_open = is_open }) (Some (Sync next)) _ (there ∙ ap Some is) (refl, refl)
stmt_followed P t is_open held vars (tree.Return' e) rest place next h rooms (i, there, (v, means, is)) does =
    at_code P t is_open held (record { vars = vars; todo = tree.Return' e ∷ rest; is_open = is_open }) (Some (Return v)) _ (there ∙ ap Some is)
    (refl, ap (end_of is_open) (sym (same_value t.names vars held.slots e v h means)))
stmt_followed P t is_open held vars (tree.If' e b o) rest place next h rooms (test, then, otherwise, means, there, block, tail) does =
    at_code P t is_open held (record { vars = vars; todo = tree.If' e b o ∷ rest; is_open = is_open }) (Some (Branch test then otherwise)) _ there
    (branch_case P t is_open held vars (tree.If' e b o) rest test then otherwise e (stmts_of b ++ rest) (else_of o ++ rest) h
    (same_number t.names vars held.slots e test h means) refl
    (does_append (where_of P t) t.instructions b next then rest block does) (does_tail (where_of P t) t.instructions o next otherwise rest tail does))
stmt_followed P t is_open held vars (tree.While' e b) rest place next h rooms (test, then, means, there, block) does =
    at_code P t is_open held (record { vars = vars; todo = tree.While' e b ∷ rest; is_open = is_open }) (Some (Branch test then next)) _ there
    (branch_case P t is_open held vars (tree.While' e b) rest test then next e (stmts_of b ++ tree.While' e b ∷ rest) rest h
    (same_number t.names vars held.slots e test h means) refl
    (does_append (where_of P t) t.instructions b place then (tree.While' e b ∷ rest) block (next, (test, then, means, there, block), does)) does)

-- a body ends
end_followed : (P : tree.Program) (t : TaskCode) (is_open : Bool) (held : Held) (vars : Variables) (o : Option Instruction) → IsEnd o
    → Followed P t is_open held (record { vars = vars; todo = []; is_open = is_open }) o (moves held o)
end_followed P t is_open held vars None e = (refl, refl)
end_followed P t is_open held vars (Some i) e =
    at_code P t is_open held (record { vars = vars; todo = []; is_open = is_open }) (Some (Return (Number (pos 0)))) _ (ap Some e) (refl, refl)

pub followed : (P : tree.Program) (t : TaskCode) (is_open : Bool) (held : Held) (vars : Variables) (todo : List tree.Stmt) (place : ℕ)
    → Holds t.names vars held.slots → held.rooms ≡ rooms_by t.names → Does (where_of P t) t.instructions place todo
    → Followed P t is_open held (record { vars = vars; todo = todo; is_open = is_open }) (slice_get t.instructions place)
    (moves held (slice_get t.instructions place))
followed P t is_open held vars [] place h rooms does = end_followed P t is_open held vars (slice_get t.instructions place) does
followed P t is_open held vars (stmt ∷ rest) place h rooms (next, first, does) = stmt_followed P t is_open held vars stmt rest place next h rooms first does

-- ---- an element is set

stored : (slots : List Slot) (n : ℕ) (s : Slot) (z : ℤ) (x : Value) (count place : ℕ) (new : List Slot) → shape_of s ≡ shape.Many count
    → (1 ≤ count → place ≡ index_of count z) → new ≡ slice_set slots n (with_element s place x) → store_slots slots (Some n) s z x ≡ Some new
stored slots n (One v) z x count place new shape at is = absurd (cc)
stored slots n (Many []) z x count place new shape at is = ap Some (sym is)
stored slots n (Many (v ∷ vs)) z x count place new shape at is =
    let size : suc (length vs) ≡ count = shape_count (suc (length vs)) count shape in
    let place_is : place ≡ index_of (suc (length vs)) z = at (omega (arith, size)) ∙ ap (λ m. index_of m z) (sym size) in
    ap Some (sym (is ∙ ap (λ p. slice_set slots n (Many (slice_set (v ∷ vs) p x))) place_is))

pub many_is_stored : (slots : List Slot) (n : ℕ) (z : ℤ) (x : Value) (count place : ℕ) (new : List Slot) → shape_of (slot_in_place slots n) ≡ shape.Many count
    → count < 9223372036854775808 → (1 ≤ count → count < 9223372036854775808 → place ≡ index_of count z)
    → new ≡ slice_set slots n (with_element (slot_in_place slots n) place x)
    → store_slots slots (Some n) (slot_in_place slots n) z x ≡ Some new
many_is_stored slots n z x count place new shape small at is = stored slots n (slot_in_place slots n) z x count place new shape (λ some. at some small) is

-- The first task that has not ended is out of steps, or may go on.
use Rattle.std.proofs.Common.{◌≡◌, ◌≢◌, ℕ, zero, suc, ◌+◌, ◌%◌, ◌<◌, ◌≤◌, Bool, true, false, if◌then◌else◌, List}
use Rattle.std.proofs.Common.{[], ◌∷◌, length, replicate, ◌⊎◌, inl, inr, refl, sym, ap, ◌∙◌, subst, arith}
use Rattle.std.specs.Prelude.{ℤ, pos, negsuc, Option, Some, None, IsSome, is_some, option_map, option_and_then, bytes_eq, slice_get}
use Rattle.std.proofs.lemmas.Nat.{mod_below}
use Rattle.std.proofs.Math.ListN.{length-set}
use Rattle.std.proofs.lemmas.Option.{same_Some}
use Rattle.std.proofs.lemmas.Bool.{cases_eq, cases_lt}
use Rattle.fut_base.specs.declared.limits.TheConstants.{MOST_LOCAL_STEPS}
use Rattle.fut_base.specs.declared.record.Value.{Value}
use Rattle.fut_base.specs.declared.record.Value.TheVariants.{Int, Fut}
use Rattle.fut_base.specs.declared.event.Event.{Event}
use Rattle.fut_base.specs.declared.event.Action.{Action}
use Rattle.fut_base.specs.declared.event.Action.TheVariants.{Reads, Writes, Spawns, Creates, Syncs, Gets, Ends}
use Rattle.fut_base.specs.Dag.{Among, block_of}
use Rattle.fut_base.specs.Orders.{english_past, stands_before}
use Rattle.fut_base.specs.Sound.{next_strand, next_task, holds_handle, HoldsValue}
use Rattle.fut_syntax.specs.Trees as tree
use Rattle.fut_syntax.specs.Trees.{items_of}
use Rattle.task_machine.specs.Values.{index_of}
use Rattle.task_machine.specs.Texts.{CellArray, arrays_from, cell_at, cell_count, count_cells, find_cell, task_number}
use Rattle.task_machine.specs.Variables.{Variables, number_in, slot_at, value_of, value_in, values_in}
use Rattle.task_machine.specs.State.{TaskState, Wish, ToRead, ToWrite, ToSpawn, ToCreate, ToSync, ToGet, ToEnd, NoWish, local_step, read_of}
use Rattle.task_machine.specs.State.{write_of, spawn_of, create_of, get_of, end_of, wish_of_init, wish_by, first_wish, wish_of, Answers}
use Rattle.task_machine.specs.Runs.{StandsWithin, GoesOn, IsMost, StandsAt, IsOutOfSteps}
use Rattle.task_machine.specs.Machine.{Machine, Running, opening, after, cells_after, ended_with, AllHaveEnded, EachEnded, IsAllowed, IsRunning, Leads, Permits}
use Rattle.task_machine.proofs.Making.{children_come_later}
use Rattle.strand_laws.specs.Laws.{IsLeast}
use Rattle.strand_laws.proofs.Held.{is_root}
use Rattle.strand_laws.proofs.Least.{least_waits_for_none}
use Rattle.strand_laws.proofs.Links.{ev}
use Rattle.strand_laws.proofs.Places.{place, one_place, before_place, place_before}
use Rattle.strand_laws.proofs.Sources.{whole_en}
use Rattle.run_laws.specs.Laws.{Mirrors, past_of, HasCells, IsFirst, FirstExists, FirstIsOne, NoneIsStuck}
use Rattle.run_laws.proofs.Mirrored.{mirrors}
use Rattle.run_laws.proofs.Handles.{HandsOut, stands_all, wish_all}
use Rattle.run_laws.proofs.Holding.{Holder, numbers}
use Rattle.run_laws.proofs.Once.{apart, ended_at, not_both}
use Rattle.run_laws.proofs.Sound.{sound_past}
use Rattle.run_laws.proofs.Waits.{all_hold, get_some}

-- ---- local steps lead to an event, or go on

-- a state that goes on by n local steps, or stands within them
abbrev Ahead : ℕ → TaskState → Type 0
Ahead n s = ((t : TaskState) × StandsWithin n s t) ⊎ GoesOn n s

one_more : (n : ℕ) (s u : TaskState) → local_step s ≡ Some u → Ahead n u → Ahead (suc n) s
one_more n s u e (inl (t, (k, below, steps, stop))) = inl (t, (suc k, omega arith, (u, e, steps), stop))
one_more n s u e (inr (t, steps)) = inr (t, (u, e, steps))

ahead_by : (n : ℕ) (s : TaskState) → ((u : TaskState) → Ahead n u) → (o : Option TaskState) → local_step s ≡ o → Ahead (suc n) s
ahead_by n s ih None e = inl (s, (0, omega arith, refl, e))
ahead_by n s ih (Some u) e = one_more n s u e (ih u)

ahead : (limit : ℕ) (s : TaskState) → Ahead limit s
ahead zero s = inr (s, refl)
ahead (suc n) s = ahead_by n s (ahead n) (local_step s) refl

stands_or_out : (limit : ℕ) → IsMost limit → (s : TaskState) → ((t : TaskState) × StandsAt s t) ⊎ IsOutOfSteps s
stands_or_out limit most s = elim (ahead limit s) [ inl k ↦ inl (k.0, (limit, most, k.1)) | inr k ↦ inr (limit, most, k) ]

-- ---- the cells that a task reads and writes

index_below : (n : ℕ) (z : ℤ) → 0 < n → index_of n z < n
index_below n (pos a) h = mod_below a n h
index_below n (negsuc a) h = let k : a % n < n = mod_below a n h in omega arith

found_if : (b : Bool) (x : ℕ) (o : Option ℕ) (cell : ℕ) → (if b then Some x else o) ≡ Some cell → (x ≡ cell) ⊎ (o ≡ Some cell)
found_if true x o cell h = inl (same_Some x cell h)
found_if false x o cell h = inr h

found_below : (n : ℕ) (items : List tree.Item) (word : List ℕ) (z : ℤ) (cell : ℕ) → ((a : CellArray) → Among a (arrays_from n items) → 0 < a.length)
    → find_cell (arrays_from n items) word z ≡ Some cell → cell < n + count_cells items
found_below n [] word z cell f h = cc
found_below n (tree.CellsOf name size ∷ rest) word z cell f h =
    let some : 0 < size = f (record { name = name; first = n; length = size }) (inl refl) in
    elim (found_if (bytes_eq name word) (n + index_of size z) (find_cell (arrays_from (n + size) rest) word z) cell h) [
      | inl e ↦ (let k : index_of size z < size = index_below size z some in omega arith)
      | inr e ↦ (let k : cell < n + size + count_cells rest = found_below (n + size) rest word z cell (λ a i. f a (inr i)) e in omega arith)
    ]
found_below n (tree.TaskOf _ _ _ _ ∷ rest) word z cell f h = found_below n rest word z cell f h

cell_below : (P : tree.Program) → HasCells P → (word : List ℕ) (z : ℤ) (cell : ℕ) → cell_at P word z ≡ Some cell → cell < cell_count P
cell_below P f word z cell h = let k : cell < 0 + count_cells (items_of P) = found_below 0 (items_of P) word z cell f h in omega arith

-- a wish reads or writes a cell that there is
abbrev pub AccessesBelow : ℕ → Wish → Type 0
AccessesBelow n (ToRead cell) = cell < n
AccessesBelow n (ToWrite cell _) = cell < n
AccessesBelow n _ = Unit {0}

module _ (P : tree.Program) (f : HasCells P) where
  read_below : (o : Option ℕ) → ((cell : ℕ) → o ≡ Some cell → cell < cell_count P) → AccessesBelow (cell_count P) (read_of o)
  read_below None g = tt
  read_below (Some cell) g = g cell refl

  write_below : (o : Option ℕ) (z : ℤ) → ((cell : ℕ) → o ≡ Some cell → cell < cell_count P) → AccessesBelow (cell_count P) (write_of o z)
  write_below None z g = tt
  write_below (Some cell) z g = g cell refl

  spawn_below : (o : Option ℕ) (args : List Value) → AccessesBelow (cell_count P) (spawn_of o args)
  spawn_below None args = tt
  spawn_below (Some code) args = tt

  create_below : (o : Option ℕ) (args : List Value) → AccessesBelow (cell_count P) (create_of o args)
  create_below None args = tt
  create_below (Some code) args = tt

  get_below : (v : Value) → AccessesBelow (cell_count P) (get_of v)
  get_below (Int _) = tt
  get_below (Fut f) = tt

  end_below : (b : Bool) (v : Value) → AccessesBelow (cell_count P) (end_of b v)
  end_below true v = tt
  end_below false v = tt

  init_below : (vs : Variables) (init : tree.Init) → AccessesBelow (cell_count P) (wish_of_init P vs init)
  init_below vs (tree.GetOf word) = get_below (value_of (slot_at vs word))
  init_below vs (tree.CreateOf word es) = create_below (task_number P word) (values_in vs es)
  init_below vs (tree.Index word e) = read_below (cell_at P word (number_in vs e)) (cell_below P f word (number_in vs e))
  init_below vs (tree.Value _) = tt

  stmt_below : (s : TaskState) (stmt : tree.Stmt) → AccessesBelow (cell_count P) (wish_by P s stmt)
  stmt_below s (tree.Define _ _ init) = init_below s.vars init
  stmt_below s (tree.Assign _ init) = init_below s.vars init
  stmt_below s (tree.Store word e v) = write_below (cell_at P word (number_in s.vars e)) (number_in s.vars v) (cell_below P f word (number_in s.vars e))
  stmt_below s (tree.SpawnOf word es) = spawn_below (task_number P word) (values_in s.vars es)
  stmt_below s tree.SyncAll = tt
  stmt_below s (tree.Return' e) = end_below s.is_open (value_in s.vars e)
  stmt_below s (tree.Declare _ _) = tt
  stmt_below s (tree.If' _ _ _) = tt
  stmt_below s (tree.While' _ _) = tt

  todo_below : (s : TaskState) (todo : List tree.Stmt) → AccessesBelow (cell_count P) (first_wish P s todo)
  todo_below s [] = end_below s.is_open (Int (pos 0))
  todo_below s (stmt ∷ rest) = stmt_below s stmt

  pub wish_below : (s : TaskState) → AccessesBelow (cell_count P) (wish_of P s)
  wish_below s = todo_below s s.todo

pub cells_stay : (a : Action) (cells : List ℤ) → length (cells_after a cells) ≡ length cells
cells_stay (Reads _ _) cells = refl
cells_stay (Writes cell value) cells = length-set cells cell value
cells_stay (Spawns _ _ _ _ _) cells = refl
cells_stay (Creates _ _ _ _ _) cells = refl
cells_stay (Syncs _) cells = refl
cells_stay (Gets _ _ _) cells = refl
cells_stay (Ends _) cells = refl

pub cells_from : (P : tree.Program) (m : Machine) (h : List Event) (n : Machine) → Leads P m h n → length n.cells ≡ length m.cells
cells_from P m [] n l = ap (λ (z : Machine). length z.cells) (sym l)
cells_from P m (e ∷ h) n (next, step, rest) =
    cells_from P next h n rest ∙ ap (λ (z : Machine). length z.cells) step.gives ∙ cells_stay e.action m.cells

pub replicate_length : (n : ℕ) (z : ℤ) → length (replicate n z) ≡ n
replicate_length zero z = refl
replicate_length (suc n) z = ap suc (replicate_length n z)

-- ---- the first task that has not ended

option_none : (o : Option Value) (s : ℕ) → option_map (λ (v : Value). s) o ≡ None → o ≡ None
option_none None s h = refl
option_none (Some v) s h = cc

option_some : (o : Option Value) (s last : ℕ) → option_map (λ (v : Value). s) o ≡ Some last → (v : Value) × (o ≡ Some v)
option_some None s last h = cc
option_some (Some v) s last h = (v, refl)

module _ (P : tree.Program) (h : List Event) (m : Machine) (l : Leads P (opening P) h m) where
  past : List Event
  past = past_of h

  is_least : (t : ℕ) (r : Running) → IsFirst h m t r → IsLeast (past_of h) t r.strand
  is_least t r x =
      let k : Mirrors (past_of h) m = mirrors P h m l in
      let me = k.each t r x.running.0 in
      record {
        stands = me.strand;
        runs = me.last ∙ ap (λ o. option_map (λ (v : Value). r.strand) o) x.running.1;
        least = λ q a at runs. (
            elim (cases_lt q (length m.tasks)) [
              | inl lt ↦ (
                  let o = get_some m.tasks q lt in
                  let it = k.each q o.0 o.1 in
                  let same : o.0.strand ≡ a = same_Some o.0.strand a (sym it.strand ∙ at) in
                  let run : o.0.value ≡ None = option_none o.0.value o.0.strand (sym it.last ∙ runs) in
                  elim (x.least q o.0 (o.1, run)) [
                    | inl e ↦ inl e
                    | inr b ↦ inr (subst (λ z. stands_before r.strand z (english_past (past_of h)) ≡ true) same b)
                  ])
              | inr le ↦ absurd (let none : None ≡ Some a = sym (k.none q le).strand ∙ at in cc)
            ]);
      }

  -- what it waits for has ended
  ended_of : (t : ℕ) (r : Running) → IsFirst h m t r → (q : ℕ) → q < length m.tasks → (holds_handle (past_of h) t q ≡ true) ⊎ Among q (block_of (past_of h) t)
      → (v : Value) × (ended_with m q ≡ Some v)
  ended_of t r x q lt why =
      let k : Mirrors (past_of h) m = mirrors P h m l in
      let o = get_some m.tasks q lt in
      let last = least_waits_for_none (past_of h) (sound_past P h m l) t r.strand (is_least t r x) q why in
      let v = option_some o.0.value o.0.strand last.0 (sym (k.each q o.0 o.1).last ∙ last.1) in
      (v.0, ap (λ z. option_and_then (λ (y : Running). y.value) z) o.1 ∙ v.1)

  children_ended : (t : ℕ) (r : Running) → IsFirst h m t r → (cs : List ℕ) → ((c : ℕ) → Among c cs → Among c r.block) → AllHaveEnded m cs
  children_ended t r x [] f = tt
  children_ended t r x (c ∷ cs) f =
      let a : Among c r.block = f c (inl refl) in
      let b = ((mirrors P h m l).each t r x.running.0).block in
      let v = ended_of t r x c (children_come_later P h m t r l x.running.0 c a).1 (inr (subst (λ z. Among c z) (sym b) a)) in
      (ap (λ (z : Option Value). is_some z) v.1, children_ended t r x cs (λ d i. f d (inr i)))

  future_ended : (t : ℕ) (r : Running) → IsFirst h m t r → (f : ℕ) → holds_handle (past_of h) t f ≡ true → (v : Value) × (ended_with m f ≡ Some v)
  future_ended t r x f held =
      let root : f < next_task (past_of h) = (is_root (past_of h) (sound_past P h m l) t f held).1 in
      let count : next_task (past_of h) ≡ length m.tasks = (mirrors P h m l).tasks in
      ended_of t r x f (omega arith) (inl held)

  -- an event that answers the wish and may be done is a step
  goes : (t : ℕ) (r : Running) (s : TaskState) (a : Action) → IsRunning m t r → StandsAt r.state s → Answers (wish_of P s) a → Permits m r a → IsAllowed P m t
  goes t r s a run at is may = (
    ev t r.strand a,
    refl,
    after P m (ev t r.strand a) r s,
    record { task = r; stop = s; present = run.0; running = run.1; strand = refl; stands = at; answers = is; permits = may; gives = refl },
  )

  module _ (f : HasCells P) (t : ℕ) (r : Running) (x : IsFirst h m t r) (s : TaskState) (at : StandsAt r.state s) where
    out : HandsOut (HoldsValue (past_of h) t) s.is_open (wish_of P s)
    out =
        let own : Holder (past_of h) t r = all_hold P h m l t r x.running.0 in
        let k = stands_all (HoldsValue (past_of h) t) (numbers (past_of h) t) r.state s own.vars at in
        wish_all (HoldsValue (past_of h) t) (numbers (past_of h) t) P s k.1

    allowed : (w : Wish) → wish_of P s ≡ w → w ≢ NoWish → IsAllowed P m t
    allowed (ToRead cell) is some =
        let b : cell < cell_count P = subst (λ z. AccessesBelow (cell_count P) z) is (wish_below P f s) in
        let c : length m.cells ≡ cell_count P = cells_from P (opening P) h m l ∙ replicate_length (cell_count P) (pos 0) in
        let v = get_some m.cells cell (omega arith) in
        goes t r s (Reads cell v.0) x.running at is v.1
    allowed (ToWrite cell z) is some = goes t r s (Writes cell z) x.running at is tt
    allowed (ToSpawn code args) is some = goes t r s (Spawns code (length m.tasks) m.strands (m.strands + 1) args) x.running at is (refl, refl, refl)
    allowed (ToCreate code args) is some = goes t r s (Creates code (length m.tasks) m.strands (m.strands + 1) args) x.running at is (refl, refl, refl)
    allowed ToSync is some = goes t r s (Syncs m.strands) x.running at is (refl, children_ended t r x r.block (λ c a. a))
    allowed (ToGet future) is some =
        let held : holds_handle (past_of h) t future ≡ true = subst (λ z. HandsOut (HoldsValue (past_of h) t) s.is_open z) is out in
        let v = future_ended t r x future held in
        goes t r s (Gets future v.0 m.strands) x.running at is (refl, v.1)
    allowed (ToEnd value) is some = goes t r s (Ends value) x.running at is tt
    allowed NoWish is some = absurd (some refl)

pub none_is_stuck : NoneIsStuck
none_is_stuck P h m t r l f x wishes =
    elim (stands_or_out MOST_LOCAL_STEPS refl r.state) [
      | inl k ↦ inr (allowed P h m l f t r x k.0 k.1 (wish_of P k.0) refl (wishes k.0 k.1))
      | inr out ↦ inl out
    ]

-- ---- there is one such task

-- a task that runs, of the lowest rank
record Lowest (rank : Running → ℕ) (rs : List Running) : Type 0 where
  place : ℕ
  task : Running
  present : slice_get rs place ≡ Some task
  runs : task.value ≡ None
  low : (u : ℕ) (q : Running) → slice_get rs u ≡ Some q → q.value ≡ None → rank task ≤ rank q

module _ (rank : Running → ℕ) (r : Running) (rs : List Running) where
  after_ended : (w : Lowest rank rs) → IsSome r.value → Lowest rank (r ∷ rs)
  after_ended w done = record { place = suc w.place; task = w.task; present = w.present; runs = w.runs; low = low }
    where
      low : (u : ℕ) (q : Running) → slice_get (r ∷ rs) u ≡ Some q → q.value ≡ None → rank w.task ≤ rank q
      low zero q g run = absurd (let e : r ≡ q = same_Some r q g in not_both r.value (ap (λ (z : Running). z.value) e ∙ run) done)
      low (suc u) q g run = w.low u q g run

  alone : r.value ≡ None → EachEnded rs → Lowest rank (r ∷ rs)
  alone run all = record { place = 0; task = r; present = refl; runs = run; low = low }
    where
      low : (u : ℕ) (q : Running) → slice_get (r ∷ rs) u ≡ Some q → q.value ≡ None → rank r ≤ rank q
      low zero q g runs = let e : rank r ≡ rank q = ap rank (same_Some r q g) in omega arith
      low (suc u) q g runs = absurd (not_both q.value runs (ended_at rs u q all g))

  lower : r.value ≡ None → (w : Lowest rank rs) → rank r ≤ rank w.task → Lowest rank (r ∷ rs)
  lower run w le = record { place = 0; task = r; present = refl; runs = run; low = low }
    where
      low : (u : ℕ) (q : Running) → slice_get (r ∷ rs) u ≡ Some q → q.value ≡ None → rank r ≤ rank q
      low zero q g runs = let e : rank r ≡ rank q = ap rank (same_Some r q g) in omega arith
      low (suc u) q g runs = let k : rank w.task ≤ rank q = w.low u q g runs in omega arith

  higher : (w : Lowest rank rs) → rank w.task ≤ rank r → Lowest rank (r ∷ rs)
  higher w le = record { place = suc w.place; task = w.task; present = w.present; runs = w.runs; low = low }
    where
      low : (u : ℕ) (q : Running) → slice_get (r ∷ rs) u ≡ Some q → q.value ≡ None → rank w.task ≤ rank q
      low zero q g runs = let e : rank r ≡ rank q = ap rank (same_Some r q g) in omega arith
      low (suc u) q g runs = w.low u q g runs

ended_or_not : (o : Option Value) → IsSome o ⊎ (o ≡ None)
ended_or_not None = inr refl
ended_or_not (Some v) = inl refl

le_or_le : (a b : ℕ) → (a ≤ b) ⊎ (b ≤ a)
le_or_le a b = elim (cases_lt a b) [ inl h ↦ inl (omega arith) | inr h ↦ inr h ]

lowest : (rank : Running → ℕ) (rs : List Running) → EachEnded rs ⊎ Lowest rank rs
lowest rank [] = inl tt
lowest rank (r ∷ rs) =
    elim (ended_or_not r.value) [
      | inl done ↦ elim (lowest rank rs) [ inl all ↦ inl (done, all) | inr w ↦ inr (after_ended rank r rs w done) ]
      | inr run ↦ elim (lowest rank rs) [
        | inl all ↦ inr (alone rank r rs run all)
        | inr w ↦ elim (le_or_le (rank r) (rank w.task)) [ inl le ↦ inr (lower rank r rs run w le) | inr le ↦ inr (higher rank r rs w le) ]
      ]
    ]

module _ (P : tree.Program) (h : List Event) (m : Machine) (l : Leads P (opening P) h m) where
  order : List ℕ
  order = english_past (past_of h)

  in_order : (q : ℕ) (o : Running) → slice_get m.tasks q ≡ Some o → Among o.strand (english_past (past_of h))
  in_order q o g =
      let a : o.strand < m.strands = (apart P h m l).made q o g in
      let b : next_strand (past_of h) ≡ m.strands = (mirrors P h m l).strands in
      (whole_en (past_of h) (sound_past P h m l)).all o.strand (omega arith)

  first_of : (w : Lowest (λ r. place r.strand (english_past (past_of h))) m.tasks) → IsFirst h m w.place w.task
  first_of w =
      record {
        running = (w.present, w.runs);
        least = λ q o run. (
            elim (cases_eq q w.place) [
              | inl e ↦ inl e
              | inr ne ↦ inr (
                  let en : List ℕ = english_past (past_of h) in
                  let le : place w.task.strand (english_past (past_of h)) ≤ place o.strand (english_past (past_of h)) = w.low q o run.0 run.1 in
                  let apart' : place w.task.strand (english_past (past_of h)) ≢ place o.strand (english_past (past_of h)) =
                  λ k. ne
                  ((apart P h m l).own q w.place o w.task run.0 w.present
                  (sym (one_place w.task.strand o.strand (english_past (past_of h)) (in_order w.place w.task w.present) (in_order q o run.0) k))) in
                  place_before w.task.strand o.strand (english_past (past_of h)) (in_order q o run.0) (below _ _ le apart'))
            ]);
      }
    where
      below : (a b : ℕ) → a ≤ b → a ≢ b → a < b
      below a b le ne = omega arith

  one_first : (t u : ℕ) (r q : Running) → IsFirst h m t r → IsFirst h m u q → t ≡ u
  one_first t u r q x y =
      elim (x.least u q y.running) [
        | inl e ↦ sym e
        | inr b ↦ elim (y.least t r x.running) [
          | inl e ↦ e
          | inr b' ↦ elim (cases_eq r.strand q.strand) [
            | inl e ↦ (apart P h m l).own t u r q x.running.0 y.running.0 e
            | inr ne ↦ absurd (
                let k : place r.strand (english_past (past_of h)) < place q.strand (english_past (past_of h)) =
                before_place r.strand q.strand (english_past (past_of h)) ne b in
                let k' : place q.strand (english_past (past_of h)) < place r.strand (english_past (past_of h)) =
                before_place q.strand r.strand (english_past (past_of h)) (λ e. ne (sym e)) b' in
                omega arith)
          ]
        ]
      ]

pub first_exists : FirstExists
first_exists P h m l not_all =
    elim (lowest (λ r. place r.strand (english_past (past_of h))) m.tasks) [
      | inl all ↦ absurd (not_all all)
      | inr w ↦ (w.place, w.task, first_of P h m l w)
    ]

pub first_is_one : FirstIsOne
first_is_one P h m t u r q l x y = one_first P h m l t u r q x y

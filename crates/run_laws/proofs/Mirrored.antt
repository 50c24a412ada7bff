-- The machine and the functions on the structure agree.
use Rattle.std.proofs.Common.{◌≡◌, ◌≢◌, ℕ, zero, suc, ◌+◌, ◌<◌, ◌≤◌, Bool, true, false, ◌==◌, if◌then◌else◌}
use Rattle.std.proofs.Common.{List, [], ◌∷◌, ◌++◌, length, inl, inr, refl, sym, ap, ◌∙◌, subst, arith}
use Rattle.std.specs.Prelude.{◌&&◌, Option, Some, None, option_map, reverse, slice_get}
use Rattle.std.proofs.lemmas.Bool.{cases_Bool}
use Rattle.fut_base.proofs.Cases.{by_eq}
use Rattle.fut_base.specs.declared.record.Value.{Value}
use Rattle.fut_base.specs.declared.event.Event.{Event}
use Rattle.fut_base.specs.declared.event.Action.{Action}
use Rattle.fut_base.specs.declared.event.Action.TheVariants.{Reads, Writes, Spawns, Creates, Syncs, Gets, Ends}
use Rattle.fut_base.specs.Events.{structural}
use Rattle.fut_base.specs.Dag.{ends, last_of, block_of, block_after}
use Rattle.fut_base.specs.Sound.{current, current_by, next_task, next_strand, tasks_by, strands_by, future_of, future_by, value_of, value_by}
use Rattle.fut_syntax.specs.Trees as tree
use Rattle.task_machine.specs.Texts.{main_of}
use Rattle.task_machine.specs.State.{TaskState}
use Rattle.task_machine.specs.Machine.{Machine, Running, opening, begins, after, acted, child_of, strand_after, Permits, IsStep}
use Rattle.task_machine.proofs.Places.{Behind, get_below}
use Rattle.task_machine.proofs.Making.{task_count}
use Rattle.strand_laws.proofs.Links.{if_self, if_off, ev}
use Rattle.run_laws.specs.Laws.{IsMirrored, IsUnborn, Mirrors, MirrorsStructure}
use Rattle.run_laws.proofs.Pasts.{Came, came, kept_of, past_is, get_after}

-- the number is not that of the task that an action makes
abbrev pub NotMade : Action → ℕ → Type 0
NotMade (Spawns _ child _ _ _) t = t ≢ child
NotMade (Creates _ child _ _ _) t = t ≢ child
NotMade _ t = Unit {0}

pub not_made : (m : Machine) (r : Running) (a : Action) (t : ℕ) → Permits m r a → t ≢ length m.tasks → NotMade a t
not_made m r (Reads _ _) t may ne = tt
not_made m r (Writes _ _) t may ne = tt
not_made m r (Spawns _ child _ _ _) t may ne = λ e. ne (e ∙ may.0)
not_made m r (Creates _ child _ _ _) t may ne = λ e. ne (e ∙ may.0)
not_made m r (Syncs _) t may ne = tt
not_made m r (Gets _ _ _) t may ne = tt
not_made m r (Ends _) t may ne = tt

both : {A : Type 0} → (q t : ℕ) (x : A) → (if q == t then x else x) ≡ x
both q t x = by_eq (λ b. (if b then x else x) ≡ x) q t (λ _. refl) (λ _. refl)

last_off : (q t : ℕ) (b : Bool) (x y : Option ℕ) → q ≢ t → (if (q == t) && b then x else y) ≡ y
last_off q t b x y ne = by_eq (λ z. (if z && b then x else y) ≡ y) q t (λ e. absurd (ne e)) (λ _. refl)

last_same : (q t : ℕ) (x y : Option ℕ) → (if (q == t) && false then x else y) ≡ y
last_same q t x y = by_eq (λ z. (if z && false then x else y) ≡ y) q t (λ _. refl) (λ _. refl)

last_on : (t : ℕ) (x y : Option ℕ) → (if (t == t) && true then x else y) ≡ x
last_on t x y = by_eq (λ z. (if z && true then x else y) ≡ x) t t (λ _. refl) (λ n. absurd (n refl))

-- ---- the acting task

cur_at : (t : ℕ) (a : Action) (old : ℕ) → current_by t a t (Some old) ≡ Some (strand_after a old)
cur_at t (Reads _ _) old = refl
cur_at t (Writes _ _) old = refl
cur_at t (Spawns _ child kid cont _) old = if_self t (Some cont) (if t == child then Some kid else Some old)
cur_at t (Creates _ child kid cont _) old = if_self t (Some cont) (if t == child then Some kid else Some old)
cur_at t (Syncs strand) old = if_self t (Some strand) (Some old)
cur_at t (Gets _ _ strand) old = if_self t (Some strand) (Some old)
cur_at t (Ends _) old = refl

fut_other : (a : Action) (t own old : ℕ) → NotMade a t → future_by a t own old ≡ old
fut_other (Reads _ _) t own old ne = refl
fut_other (Writes _ _) t own old ne = refl
fut_other (Spawns _ child _ _ _) t own old ne = if_off t child own old ne
fut_other (Creates _ child _ _ _) t own old ne = if_off t child child old ne
fut_other (Syncs _) t own old ne = refl
fut_other (Gets _ _ _) t own old ne = refl
fut_other (Ends _) t own old ne = refl

-- the last strand of the acting task, which had not ended
last_at : (past : List Event) (t s : ℕ) (a : Action) (r : Running) (stop : TaskState) → r.value ≡ None → r.strand ≡ s
    → last_of past t ≡ option_map (λ (v : Value). r.strand) r.value
    → last_of (ev t s a ∷ past) t ≡ option_map (λ (v : Value). (acted r stop a).strand) (acted r stop a).value
last_at past t s (Reads _ _) r stop run on h = last_same t t (Some s) (last_of past t) ∙ h
last_at past t s (Writes _ _) r stop run on h = last_same t t (Some s) (last_of past t) ∙ h
last_at past t s (Spawns _ _ _ cont _) r stop run on h =
    last_same t t (Some s) (last_of past t) ∙ h ∙ ap (λ o. option_map (λ (v : Value). r.strand) o) run ∙ sym (ap (λ o. option_map (λ (v : Value). cont) o) run)
last_at past t s (Creates _ _ _ cont _) r stop run on h =
    last_same t t (Some s) (last_of past t) ∙ h ∙ ap (λ o. option_map (λ (v : Value). r.strand) o) run ∙ sym (ap (λ o. option_map (λ (v : Value). cont) o) run)
last_at past t s (Syncs x) r stop run on h =
    last_same t t (Some s) (last_of past t) ∙ h ∙ ap (λ o. option_map (λ (v : Value). r.strand) o) run ∙ sym (ap (λ o. option_map (λ (v : Value). x) o) run)
last_at past t s (Gets _ _ x) r stop run on h =
    last_same t t (Some s) (last_of past t) ∙ h ∙ ap (λ o. option_map (λ (v : Value). r.strand) o) run ∙ sym (ap (λ o. option_map (λ (v : Value). x) o) run)
last_at past t s (Ends v) r stop run on h = last_on t (Some s) (last_of past t) ∙ ap (λ z. Some z) (sym on)

own_next : (past : List Event) (t s : ℕ) (a : Action) (r : Running) (stop : TaskState) → r.value ≡ None → r.strand ≡ s → NotMade a t → IsMirrored past t r
    → IsMirrored (ev t s a ∷ past) t (acted r stop a)
own_next past t s a r stop run on ne x =
    record {
      strand = subst (λ o. current_by t a t o ≡ Some (strand_after a r.strand)) (sym x.strand) (cur_at t a r.strand);
      future = fut_other a t (future_of past t) (future_of past t) ne ∙ x.future;
      block = if_self t (block_after a (block_of past t)) (block_of past t) ∙ ap (block_after a) x.block;
      value = if_self t (value_by a (value_of past t)) (value_of past t) ∙ ap (value_by a) x.value;
      last = last_at past t s a r stop run on x.last;
    }

-- ---- the other tasks

cur_other : (by t : ℕ) (a : Action) (old : Option ℕ) → t ≢ by → NotMade a t → current_by by a t old ≡ old
cur_other by t (Reads _ _) old ne nm = refl
cur_other by t (Writes _ _) old ne nm = refl
cur_other by t (Spawns _ child kid cont _) old ne nm = if_off t by (Some cont) (if t == child then Some kid else old) ne ∙ if_off t child (Some kid) old nm
cur_other by t (Creates _ child kid cont _) old ne nm = if_off t by (Some cont) (if t == child then Some kid else old) ne ∙ if_off t child (Some kid) old nm
cur_other by t (Syncs strand) old ne nm = if_off t by (Some strand) old ne
cur_other by t (Gets _ _ strand) old ne nm = if_off t by (Some strand) old ne
cur_other by t (Ends _) old ne nm = refl

other_next : (past : List Event) (by s : ℕ) (a : Action) (t : ℕ) (r : Running) → t ≢ by → NotMade a t → IsMirrored past t r → IsMirrored (ev by s a ∷ past) t r
other_next past by s a t r ne nm x =
    record {
      strand = cur_other by t a (current past t) ne nm ∙ x.strand;
      future = fut_other a t (future_of past by) (future_of past t) nm ∙ x.future;
      block = if_off t by (block_after a (block_of past t)) (block_of past t) ne ∙ x.block;
      value = if_off t by (value_by a (value_of past t)) (value_of past t) ne ∙ x.value;
      last = last_off t by (ends a) (Some s) (last_of past t) ne ∙ x.last;
    }

none_next : (past : List Event) (by s : ℕ) (a : Action) (t : ℕ) → t ≢ by → NotMade a t → IsUnborn past t → IsUnborn (ev by s a ∷ past) t
none_next past by s a t ne nm x =
    record {
      strand = cur_other by t a (current past t) ne nm ∙ x.strand;
      block = if_off t by (block_after a (block_of past t)) (block_of past t) ne ∙ x.block;
      value = if_off t by (value_by a (value_of past t)) (value_of past t) ne ∙ x.value;
      last = last_off t by (ends a) (Some s) (last_of past t) ne ∙ x.last;
    }

-- ---- the task that is made

spawned_next : (P : tree.Program) (past : List Event) (by s code child kid cont : ℕ) (args : List Value) (future : ℕ) → child ≢ by
    → future_of past by ≡ future → IsUnborn past child
    → IsMirrored (ev by s (Spawns code child kid cont args) ∷ past) child (begins P code args kid future)
spawned_next P past by s code child kid cont args future ne home x =
    record {
      strand = if_off child by (Some cont) (if child == child then Some kid else current past child) ne ∙ if_self child (Some kid) (current past child);
      future = if_self child (future_of past by) (future_of past child) ∙ home;
      block = if_off child by (block_of past child ++ child ∷ []) (block_of past child) ne ∙ x.block;
      value = if_off child by (value_of past child) (value_of past child) ne ∙ x.value;
      last = last_off child by false (Some s) (last_of past child) ne ∙ x.last;
    }

created_next : (P : tree.Program) (past : List Event) (by s code child kid cont : ℕ) (args : List Value) → child ≢ by → IsUnborn past child
    → IsMirrored (ev by s (Creates code child kid cont args) ∷ past) child (begins P code args kid child)
created_next P past by s code child kid cont args ne x =
    record {
      strand = if_off child by (Some cont) (if child == child then Some kid else current past child) ne ∙ if_self child (Some kid) (current past child);
      future = if_self child child (future_of past child);
      block = if_off child by (block_of past child) (block_of past child) ne ∙ x.block;
      value = if_off child by (value_of past child) (value_of past child) ne ∙ x.value;
      last = last_off child by false (Some s) (last_of past child) ne ∙ x.last;
    }

pub only : {X : Type 0} (x y : X) (k : ℕ) → slice_get (x ∷ []) k ≡ Some y → (k ≡ 0) × (x ≡ y)
only x y zero h = (refl, cc)
only x y (suc k) h = cc

made_next : (P : tree.Program) (past : List Event) (m : Machine) (by s : ℕ) (a : Action) (r : Running) → by < length m.tasks → Permits m r a
    → IsMirrored past by r → Mirrors past m
    → (t : ℕ) (q : Running) → Behind m.tasks (child_of P r a) t q → IsMirrored (ev by s a ∷ past) t q
made_next P past m by s (Reads _ _) r below may own x t q (k, at, is) = cc
made_next P past m by s (Writes _ _) r below may own x t q (k, at, is) = cc
made_next P past m by s (Spawns code child kid cont args) r below may own x t q (k, at, is) =
    let o = only (begins P code args kid r.future) q k is in
    let first : k ≡ 0 = o.0 in
    let same : child ≡ t = may.0 ∙ (let z : length m.tasks ≡ t = omega arith in z) in
    let ne : child ≢ by = λ e. (let f : child ≡ length m.tasks = may.0 in omega arith) in
    let u : IsUnborn past child = subst (λ z. IsUnborn past z) (sym may.0) (x.none (length m.tasks) (omega arith)) in
    subst (λ (z : ℕ). IsMirrored (ev by s (Spawns code child kid cont args) ∷ past) z q) same
    (subst (λ (z : Running). IsMirrored (ev by s (Spawns code child kid cont args) ∷ past) child z) o.1
    (spawned_next P past by s code child kid cont args r.future ne own.future u))
made_next P past m by s (Creates code child kid cont args) r below may own x t q (k, at, is) =
    let o = only (begins P code args kid child) q k is in
    let first : k ≡ 0 = o.0 in
    let same : child ≡ t = may.0 ∙ (let z : length m.tasks ≡ t = omega arith in z) in
    let ne : child ≢ by = λ e. (let f : child ≡ length m.tasks = may.0 in omega arith) in
    let u : IsUnborn past child = subst (λ z. IsUnborn past z) (sym may.0) (x.none (length m.tasks) (omega arith)) in
    subst (λ (z : ℕ). IsMirrored (ev by s (Creates code child kid cont args) ∷ past) z q) same
    (subst (λ (z : Running). IsMirrored (ev by s (Creates code child kid cont args) ∷ past) child z) o.1
    (created_next P past by s code child kid cont args ne u))
made_next P past m by s (Syncs _) r below may own x t q (k, at, is) = cc
made_next P past m by s (Gets _ _ _) r below may own x t q (k, at, is) = cc
made_next P past m by s (Ends _) r below may own x t q (k, at, is) = cc

-- a number behind all tasks after an action
late : (m : Machine) (r : Running) (a : Action) (t : ℕ) → Permits m r a → length m.tasks + tasks_by a ≤ t → NotMade a t
late m r (Reads _ _) t may le = tt
late m r (Writes _ _) t may le = tt
late m r (Spawns _ child _ _ _) t may le = λ e. (let f : child ≡ length m.tasks = may.0 in omega arith)
late m r (Creates _ child _ _ _) t may le = λ e. (let f : child ≡ length m.tasks = may.0 in omega arith)
late m r (Syncs _) t may le = tt
late m r (Gets _ _ _) t may le = tt
late m r (Ends _) t may le = tt

module _ (P : tree.Program) (past : List Event) (m : Machine) (x : Mirrors past m) (e : Event) (r : Running) (stop : TaskState)
    (present : slice_get m.tasks e.task ≡ Some r) (run : r.value ≡ None) (on : r.strand ≡ e.strand) (may : Permits m r e.action) where
  below : e.task < length m.tasks
  below = get_below m.tasks e.task r present

  each : (t : ℕ) (q : Running) → slice_get (after P m e r stop).tasks t ≡ Some q → IsMirrored (e ∷ past) t q
  each t q h =
      elim (get_after m.tasks (child_of P r e.action) e.task (acted r stop e.action) r present t q h) [
        | inl own ↦ (
            subst (λ (z : ℕ). IsMirrored (e ∷ past) z q) (sym own.0)
            (subst (λ (z : Running). IsMirrored (e ∷ past) e.task z) own.1
            (own_next past e.task e.strand e.action r stop run on (not_made m r e.action e.task may (λ k. omega (arith, below))) (x.each e.task r present))))
        | inr other ↦ elim other [
          | inl old ↦ other_next past e.task e.strand e.action t q old.0 (not_made m r e.action t may (λ k. omega (arith, get_below m.tasks t q old.1)))
              (x.each t q old.1)
          | inr new ↦ made_next P past m e.task e.strand e.action r below may (x.each e.task r present) x t q new
        ]
      ]

  mirrors_after : Mirrors (e ∷ past) (after P m e r stop)
  mirrors_after =
      record {
        tasks = ap (λ n. n + tasks_by e.action) x.tasks ∙ sym (task_count P m e r stop);
        strands = ap (λ n. n + strands_by e.action) x.strands;
        each = each;
        none = λ t le. (
            let n : length (after P m e r stop).tasks ≡ length m.tasks + tasks_by e.action = task_count P m e r stop in
            let lt : e.task < length m.tasks = below in
            none_next past e.task e.strand e.action t (λ k. omega arith) (late m r e.action t may (omega arith)) (x.none t (omega arith)));
      }

pub mirrors_next : (P : tree.Program) (past : List Event) (m : Machine) (e : Event) (n : Machine) → Mirrors past m → IsStep P m e n → Mirrors (e ∷ past) n
mirrors_next P past m e n x step =
    subst (λ z. Mirrors (e ∷ past) z) (sym step.gives) (mirrors_after P past m x e step.task step.stop step.present step.running step.strand step.permits)

-- ---- accesses change nothing

same_each : (past : List Event) (by s : ℕ) (a : Action) → structural a ≡ false → (t : ℕ) (r : Running) → IsMirrored (ev by s a ∷ past) t r → IsMirrored past t r
same_each past by s (Reads _ _) off t r x =
    record {
      strand = x.strand;
      future = x.future;
      block = sym (both t by (block_of past t)) ∙ x.block;
      value = sym (both t by (value_of past t)) ∙ x.value;
      last = sym (last_same t by (Some s) (last_of past t)) ∙ x.last;
    }
same_each past by s (Writes _ _) off t r x =
    record {
      strand = x.strand;
      future = x.future;
      block = sym (both t by (block_of past t)) ∙ x.block;
      value = sym (both t by (value_of past t)) ∙ x.value;
      last = sym (last_same t by (Some s) (last_of past t)) ∙ x.last;
    }
same_each past by s (Spawns _ _ _ _ _) off t r x = cc
same_each past by s (Creates _ _ _ _ _) off t r x = cc
same_each past by s (Syncs _) off t r x = cc
same_each past by s (Gets _ _ _) off t r x = cc
same_each past by s (Ends _) off t r x = cc

same_none : (past : List Event) (by s : ℕ) (a : Action) → structural a ≡ false → (t : ℕ) → IsUnborn (ev by s a ∷ past) t → IsUnborn past t
same_none past by s (Reads _ _) off t x =
    record {
      strand = x.strand;
      block = sym (both t by (block_of past t)) ∙ x.block;
      value = sym (both t by (value_of past t)) ∙ x.value;
      last = sym (last_same t by (Some s) (last_of past t)) ∙ x.last;
    }
same_none past by s (Writes _ _) off t x =
    record {
      strand = x.strand;
      block = sym (both t by (block_of past t)) ∙ x.block;
      value = sym (both t by (value_of past t)) ∙ x.value;
      last = sym (last_same t by (Some s) (last_of past t)) ∙ x.last;
    }
same_none past by s (Spawns _ _ _ _ _) off t x = cc
same_none past by s (Creates _ _ _ _ _) off t x = cc
same_none past by s (Syncs _) off t x = cc
same_none past by s (Gets _ _ _) off t x = cc
same_none past by s (Ends _) off t x = cc

none_made : (a : Action) → structural a ≡ false → (tasks_by a ≡ 0) × (strands_by a ≡ 0)
none_made (Reads _ _) off = (refl, refl)
none_made (Writes _ _) off = (refl, refl)
none_made (Spawns _ _ _ _ _) off = cc
none_made (Creates _ _ _ _ _) off = cc
none_made (Syncs _) off = cc
none_made (Gets _ _ _) off = cc
none_made (Ends _) off = cc

pub mirrors_same : (past : List Event) (e : Event) (m : Machine) → structural e.action ≡ false → Mirrors (e ∷ past) m → Mirrors past m
mirrors_same past e m off x =
    let z = none_made e.action off in
    let a : next_task past + tasks_by e.action ≡ length m.tasks = x.tasks in
    let b : next_strand past + strands_by e.action ≡ m.strands = x.strands in
    record {
      tasks = omega (arith, z.0);
      strands = omega (arith, z.1);
      each = λ t r h. same_each past e.task e.strand e.action off t r (x.each t r h);
      none = λ t le. same_none past e.task e.strand e.action off t (x.none t le);
    }

-- ---- whole histories

start_each : (P : tree.Program) (t : ℕ) (r : Running) → slice_get (opening P).tasks t ≡ Some r → IsMirrored [] t r
start_each P t r h =
    let o = only (begins P (main_of P) [] 0 0) r t h in
    subst (λ (z : ℕ). IsMirrored [] z r) (sym o.0)
    (subst (λ (q : Running). IsMirrored [] 0 q) o.1 (record { strand = refl; future = refl; block = refl; value = refl; last = refl }))

start_mirrors : (P : tree.Program) → Mirrors [] (opening P)
start_mirrors P =
    record {
      tasks = refl;
      strands = refl;
      each = start_each P;
      none = λ t le. record { strand = if_off t 0 (Some 0) None (λ e. omega arith); block = refl; value = refl; last = refl };
    }

-- the structural events of a past, after one more event
pub kept_on : (past : List Event) (e : Event) → structural e.action ≡ true → kept_of (e ∷ past) ≡ e ∷ kept_of past
kept_on past e st = rw st refl

pub kept_off : (past : List Event) (e : Event) → structural e.action ≡ false → kept_of (e ∷ past) ≡ kept_of past
kept_off past e off = rw off refl

pub mirrors_kept : (P : tree.Program) (past : List Event) (m n : Machine) (e : Event) → Mirrors (kept_of past) m → IsStep P m e n
    → Mirrors (kept_of (e ∷ past)) n
mirrors_kept P past m n e x step =
    let next : Mirrors (e ∷ kept_of past) n = mirrors_next P (kept_of past) m e n x step in
    elim (cases_Bool (structural e.action)) [
      | inl st ↦ subst (λ l. Mirrors l n) (sym (kept_on past e st)) next
      | inr off ↦ subst (λ l. Mirrors l n) (sym (kept_off past e off)) (mirrors_same (kept_of past) e n off next)
    ]

pub came_mirrors : (P : tree.Program) (past : List Event) (m : Machine) → Came P past m → Mirrors (kept_of past) m
came_mirrors P [] m c = subst (λ z. Mirrors [] z) c (start_mirrors P)
came_mirrors P (e ∷ past) m (q, c, step) = mirrors_kept P past q m e (came_mirrors P past q c) step

pub mirrors : MirrorsStructure
mirrors P h m l = subst (λ z. Mirrors z m) (past_is h) (came_mirrors P (reverse h) m (came P h m l))

-- The handles in a task's variables are held by the task in the structure.
use Rattle.std.proofs.Common.{◌≡◌, ℕ, ◌<◌, Bool, true, false, ◌==◌, ◌||◌, List, [], ◌∷◌, ◌++◌, length, inl, inr, refl, sym, ◌∙◌, subst, arith, eq-eqb}
use Rattle.std.specs.Prelude.{◌&&◌, ℤ, Option, Some, None, slice_get}
use Rattle.std.proofs.lemmas.Bool.{and_from, or_left, or_right, cases_Bool}
use Rattle.task_machine.proofs.Stepping.{receives_open}
use Rattle.fut_base.specs.declared.record.Value.{Value}
use Rattle.fut_base.specs.declared.record.Value.TheVariants.{Int, Fut}
use Rattle.fut_base.specs.declared.event.Event.{Event}
use Rattle.fut_base.specs.declared.event.Action.{Action}
use Rattle.fut_base.specs.declared.event.Action.TheVariants.{Reads, Writes, Spawns, Creates, Syncs, Gets, Ends}
use Rattle.fut_base.specs.Events.{structural}
use Rattle.fut_base.specs.Dag.{block_after}
use Rattle.fut_base.specs.Sound.{holds_by, holds_handle, is_handle, has_handle, HoldsValue}
use Rattle.fut_syntax.specs.Trees as tree
use Rattle.task_machine.specs.Texts.{TaskText, main_of, task_at}
use Rattle.task_machine.specs.State.{TaskState, started, effect_of}
use Rattle.task_machine.specs.Runs.{StandsAt}
use Rattle.task_machine.specs.Machine.{Machine, Running, opening, begins, after, acted, child_of, Permits, IsStep}
use Rattle.task_machine.proofs.Places.{Behind, get_below}
use Rattle.strand_laws.proofs.Links.{if_self, if_off, ev}
use Rattle.run_laws.proofs.Pasts.{Came, kept_of, get_after}
use Rattle.run_laws.proofs.Mirrored.{NotMade, not_made, only, kept_on, kept_off}
use Rattle.run_laws.proofs.Handles.{Each, InAll, brings, each_more, all_more, start_all, stands_all, effect_all}

abbrev pub is_filled : List ℕ → Bool
is_filled [] = false
is_filled (_ ∷ _) = true

-- a task's variables have no handle that it does not hold, and it knows whether its block is open
pub record Holder (past : List Event) (t : ℕ) (r : Running) : Type 0 where
  pub is_open : r.state.is_open ≡ is_filled r.block
  pub vars : InAll (HoldsValue past t) r.state.vars

abbrev pub AllHold : List Event → Machine → Type 0
AllHold past m = (t : ℕ) (r : Running) → slice_get m.tasks t ≡ Some r → Holder past t r

pub numbers : (past : List Event) (t : ℕ) (z : ℤ) → HoldsValue past t (Int z)
numbers past t z = tt

-- ---- the acting task and the others hold what they held

held_on : (by t f : ℕ) (a : Action) (old : Bool) → NotMade a t → old ≡ true → holds_by by a t f old ≡ true
held_on by t f (Reads _ _) old nm h = h
held_on by t f (Writes _ _) old nm h = h
held_on by t f (Spawns _ child _ _ args) old nm h = if_off t child (has_handle f args) old nm ∙ h
held_on by t f (Creates _ child _ _ args) old nm h =
    if_off t child (has_handle f args) (((t == by) && (f == child)) || old) nm ∙ or_right ((t == by) && (f == child)) old h
held_on by t f (Syncs _) old nm h = h
held_on by t f (Gets _ value _) old nm h = or_right ((t == by) && is_handle f value) old h
held_on by t f (Ends _) old nm h = h

value_on : (past : List Event) (by s : ℕ) (a : Action) (t : ℕ) → NotMade a t → (v : Value) → HoldsValue past t v → HoldsValue (ev by s a ∷ past) t v
value_on past by s a t nm (Int z) h = tt
value_on past by s a t nm (Fut f) h = held_on by t f a (holds_handle past t f) nm h

got : (past : List Event) (t s f : ℕ) (v : Value) (x : ℕ) → HoldsValue (ev t s (Gets f v x) ∷ past) t v
got past t s f (Int z) x = tt
got past t s f (Fut g) x = or_left ((t == t) && (g == g)) (holds_handle past t g) (and_from (t == t) (g == g) (eq-eqb t t refl) (eq-eqb g g refl))

-- what an action brings is held
brought : (past : List Event) (t s : ℕ) (a : Action) → NotMade a t → HoldsValue (ev t s a ∷ past) t (brings a)
brought past t s (Reads _ _) nm = tt
brought past t s (Writes _ _) nm = tt
brought past t s (Spawns _ _ _ _ _) nm = tt
brought past t s (Creates _ child _ _ args) nm =
    if_off t child (has_handle child args) (((t == t) && (child == child)) || holds_handle past t child) nm
    ∙ or_left ((t == t) && (child == child)) (holds_handle past t child) (and_from (t == t) (child == child) (eq-eqb t t refl) (eq-eqb child child refl))
brought past t s (Syncs _) nm = tt
brought past t s (Gets f value x) nm = got past t s f value x
brought past t s (Ends _) nm = tt

filled_end : (b : List ℕ) (c : ℕ) → true ≡ is_filled (b ++ c ∷ [])
filled_end [] c = refl
filled_end (x ∷ b) c = refl

effect_open : (s : TaskState) (a : Action) (block : List ℕ) → s.is_open ≡ is_filled block → (effect_of s a).is_open ≡ is_filled (block_after a block)
effect_open s (Reads _ value) block h = receives_open s s.todo (Int value) ∙ h
effect_open s (Writes _ _) block h = h
effect_open s (Spawns _ child _ _ _) block h = filled_end block child
effect_open s (Creates _ child _ _ _) block h = receives_open s s.todo (Fut child) ∙ h
effect_open s (Syncs _) block h = refl
effect_open s (Gets _ value _) block h = receives_open s s.todo value ∙ h
effect_open s (Ends _) block h = h

own_holds : (past : List Event) (t s : ℕ) (a : Action) (r : Running) (stop : TaskState) → NotMade a t → StandsAt r.state stop → Holder past t r
    → Holder (ev t s a ∷ past) t (acted r stop a)
own_holds past t s a r stop nm at x =
    let k = stands_all (HoldsValue past t) (numbers past t) r.state stop x.vars at in
    record {
      is_open = effect_open stop a r.block (k.0 ∙ x.is_open);
      vars = effect_all (HoldsValue (ev t s a ∷ past) t) (numbers (ev t s a ∷ past) t) stop a
          (all_more (HoldsValue past t) (HoldsValue (ev t s a ∷ past) t) (value_on past t s a t nm) stop.vars k.1) (brought past t s a nm);
    }

other_holds : (past : List Event) (by s : ℕ) (a : Action) (t : ℕ) (r : Running) → NotMade a t → Holder past t r → Holder (ev by s a ∷ past) t r
other_holds past by s a t r nm x =
    record { is_open = x.is_open; vars = all_more (HoldsValue past t) (HoldsValue (ev by s a ∷ past) t) (value_on past by s a t nm) r.state.vars x.vars }

-- ---- the task that is made holds its arguments

abbrev Given : List Value → Value → Type 0
Given args v = (f : ℕ) → is_handle f v ≡ true → has_handle f args ≡ true

given : (args : List Value) → Each (Given args) args
given [] = tt
given (v ∷ args) = (
  (λ f h. or_left (is_handle f v) (has_handle f args) h),
  each_more (Given args) (Given (v ∷ args)) (λ w g f h. or_right (is_handle f v) (has_handle f args) (g f h)) args (given args),
)

spawn_given : (past : List Event) (by s code child kid cont : ℕ) (args : List Value) (v : Value) → Given args v
    → HoldsValue (ev by s (Spawns code child kid cont args) ∷ past) child v
spawn_given past by s code child kid cont args (Int z) g = tt
spawn_given past by s code child kid cont args (Fut f) g = if_self child (has_handle f args) (holds_handle past child f) ∙ g f (eq-eqb f f refl)

create_given : (past : List Event) (by s code child kid cont : ℕ) (args : List Value) (v : Value) → Given args v
    → HoldsValue (ev by s (Creates code child kid cont args) ∷ past) child v
create_given past by s code child kid cont args (Int z) g = tt
create_given past by s code child kid cont args (Fut f) g =
    if_self child (has_handle f args) (((child == by) && (f == child)) || holds_handle past child f) ∙ g f (eq-eqb f f refl)

started_open : (o : Option TaskText) (args : List Value) → (started o args).is_open ≡ false
started_open None args = refl
started_open (Some t) args = refl

begun_holds : (P : tree.Program) (past : List Event) (t code kid future : ℕ) (args : List Value) → Each (HoldsValue past t) args
    → Holder past t (begins P code args kid future)
begun_holds P past t code kid future args h =
    record { is_open = started_open (task_at P code) args; vars = start_all (HoldsValue past t) (numbers past t) P code args h }

made_holds : (P : tree.Program) (past : List Event) (m : Machine) (by s : ℕ) (a : Action) (r : Running) → Permits m r a → (t : ℕ) (q : Running)
    → Behind m.tasks (child_of P r a) t q → Holder (ev by s a ∷ past) t q
made_holds P past m by s (Reads _ _) r may t q (k, at, is) = cc
made_holds P past m by s (Writes _ _) r may t q (k, at, is) = cc
made_holds P past m by s (Spawns code child kid cont args) r may t q (k, at, is) =
    let now : List Event = ev by s (Spawns code child kid cont args) ∷ past in
    let o = only (begins P code args kid r.future) q k is in
    let first : k ≡ 0 = o.0 in
    let same : child ≡ t = may.0 ∙ (let z : length m.tasks ≡ t = omega arith in z) in
    subst (λ (z : ℕ). Holder now z q) same
    (subst (λ (z : Running). Holder now child z) o.1
    (begun_holds P now child code kid r.future args
    (each_more (Given args) (HoldsValue now child) (spawn_given past by s code child kid cont args) args (given args))))
made_holds P past m by s (Creates code child kid cont args) r may t q (k, at, is) =
    let now : List Event = ev by s (Creates code child kid cont args) ∷ past in
    let o = only (begins P code args kid child) q k is in
    let first : k ≡ 0 = o.0 in
    let same : child ≡ t = may.0 ∙ (let z : length m.tasks ≡ t = omega arith in z) in
    subst (λ (z : ℕ). Holder now z q) same
    (subst (λ (z : Running). Holder now child z) o.1
    (begun_holds P now child code kid child args
    (each_more (Given args) (HoldsValue now child) (create_given past by s code child kid cont args) args (given args))))
made_holds P past m by s (Syncs _) r may t q (k, at, is) = cc
made_holds P past m by s (Gets _ _ _) r may t q (k, at, is) = cc
made_holds P past m by s (Ends _) r may t q (k, at, is) = cc

-- ---- all tasks

module _ (P : tree.Program) (past : List Event) (m : Machine) (x : AllHold past m) (e : Event) (r : Running) (stop : TaskState)
    (present : slice_get m.tasks e.task ≡ Some r) (at : StandsAt r.state stop) (may : Permits m r e.action) where
  hold_after : AllHold (e ∷ past) (after P m e r stop)
  hold_after t q h =
      let below : e.task < length m.tasks = get_below m.tasks e.task r present in
      elim (get_after m.tasks (child_of P r e.action) e.task (acted r stop e.action) r present t q h) [
        | inl own ↦ (
            subst (λ (z : ℕ). Holder (e ∷ past) z q) (sym own.0)
            (subst (λ (z : Running). Holder (e ∷ past) e.task z) own.1
            (own_holds past e.task e.strand e.action r stop (not_made m r e.action e.task may (λ k. omega arith)) at (x e.task r present))))
        | inr other ↦ elim other [
          | inl old ↦ other_holds past e.task e.strand e.action t q (not_made m r e.action t may (λ k. omega (arith, get_below m.tasks t q old.1)))
              (x t q old.1)
          | inr new ↦ made_holds P past m e.task e.strand e.action r may t q new
        ]
      ]

hold_next : (P : tree.Program) (past : List Event) (m : Machine) (e : Event) (n : Machine) → AllHold past m → IsStep P m e n → AllHold (e ∷ past) n
hold_next P past m e n x step =
    subst (λ z. AllHold (e ∷ past) z) (sym step.gives) (hold_after P past m x e step.task step.stop step.present step.stands step.permits)

-- an access changes nothing
value_same : (past : List Event) (by s : ℕ) (a : Action) → structural a ≡ false → (t : ℕ) (v : Value) → HoldsValue (ev by s a ∷ past) t v → HoldsValue past t v
value_same past by s a off t (Int z) h = tt
value_same past by s (Reads _ _) off t (Fut f) h = h
value_same past by s (Writes _ _) off t (Fut f) h = h
value_same past by s (Spawns _ _ _ _ _) off t (Fut f) h = cc
value_same past by s (Creates _ _ _ _ _) off t (Fut f) h = cc
value_same past by s (Syncs _) off t (Fut f) h = cc
value_same past by s (Gets _ _ _) off t (Fut f) h = cc
value_same past by s (Ends _) off t (Fut f) h = cc

hold_same : (past : List Event) (e : Event) (m : Machine) → structural e.action ≡ false → AllHold (e ∷ past) m → AllHold past m
hold_same past e m off x t r h =
    let k : Holder (e ∷ past) t r = x t r h in
    record {
      is_open = k.is_open;
      vars = all_more (HoldsValue (e ∷ past) t) (HoldsValue past t)
          (value_same past e.task e.strand e.action off t) r.state.vars k.vars;
    }

hold_kept : (P : tree.Program) (past : List Event) (m n : Machine) (e : Event) → AllHold (kept_of past) m → IsStep P m e n → AllHold (kept_of (e ∷ past)) n
hold_kept P past m n e x step =
    let next : AllHold (e ∷ kept_of past) n = hold_next P (kept_of past) m e n x step in
    elim (cases_Bool (structural e.action)) [
      | inl st ↦ subst (λ l. AllHold l n) (sym (kept_on past e st)) next
      | inr off ↦ subst (λ l. AllHold l n) (sym (kept_off past e off)) (hold_same (kept_of past) e n off next)
    ]

start_holds : (P : tree.Program) → AllHold [] (opening P)
start_holds P t r h =
    let o = only (begins P (main_of P) [] 0 0) r t h in
    subst (λ (q : Running). Holder [] t q) o.1 (begun_holds P [] t (main_of P) 0 0 [] tt)

pub came_holds : (P : tree.Program) (past : List Event) (m : Machine) → Came P past m → AllHold (kept_of past) m
came_holds P [] m c = subst (λ z. AllHold [] z) c (start_holds P)
came_holds P (e ∷ past) m (q, c, step) = hold_kept P past q m e (came_holds P past q c) step

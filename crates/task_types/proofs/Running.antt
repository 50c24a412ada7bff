-- In every run of a well-typed program each task keeps the type rules.
use Rattle.std.proofs.Common.{◌≡◌, ℕ, zero, suc, Bool, true, false, List, [], ◌∷◌, inl, inr, refl, sym, ap, ◌∙◌, subst, eqb-true, eq-eqb}
use Rattle.std.specs.Prelude.{Some, None, Option, nat_eq, slice_get, option_and_then}
use Rattle.std.proofs.lemmas.Option.{same_Some}
use Rattle.std.proofs.lemmas.Bool.{both_ways}
use Rattle.fut_base.proofs.Cases.{by_bool}
use Rattle.fut_base.specs.declared.record.Value.{Value}
use Rattle.fut_base.specs.declared.event.Event.{Event}
use Rattle.fut_base.specs.declared.event.Action.{Action}
use Rattle.fut_base.specs.declared.event.Action.TheVariants.{Reads, Writes, Spawns, Creates, Syncs, Gets, Ends}
use Rattle.fut_base.specs.Dag.{ends}
use Rattle.fut_base.specs.Sound.{value_by}
use Rattle.fut_syntax.specs.Trees as tree
use Rattle.fut_check.specs.Items.{IsWellTyped}
use Rattle.task_machine.specs.Texts.{main_of}
use Rattle.task_machine.specs.State.{TaskState, ToSpawn, ToCreate, ToGet, ToEnd, NoWish, local_step, wish_of, Answers}
use Rattle.task_machine.specs.Runs.{StandsAt}
use Rattle.task_machine.specs.Machine.{Machine, Running, opening, begins, acted, child_of, Permits, IsStep, Leads}
use Rattle.task_machine.proofs.Places.{get_set_append}
use Rattle.task_machine.proofs.Making.{acting_task, others_stay, child_comes}
use Rattle.task_types.specs.Typed.{Text, text_at, Fits, ArgsFit, ActionFits, IsTypedState, any_future}
use Rattle.task_types.specs.Running.{has_depth, runs_depth, gives_of, IsTypedTask, Grows, Passes}
use Rattle.task_types.proofs.Slots.{no_some}
use Rattle.task_types.proofs.Growing.{fits_on, args_on, typed_on, action_on}
use Rattle.task_types.proofs.Mains.{main_fits}
use Rattle.task_types.proofs.Stepping.{steps_stay}
use Rattle.task_types.proofs.Calling.{start_typed}
use Rattle.task_types.proofs.Wishing.{effect_stays}
use Rattle.task_types.proofs.Wishes.{typed_has_wish, wished_args_fit, wished_end_fits, wished_get_fits}

-- each task of a machine is typed
abbrev pub AreTyped : tree.Program → Machine → Type 0
AreTyped P m = (t : ℕ) (r : Running) → slice_get m.tasks t ≡ Some r → IsTypedTask P m r

-- a future that gives values of this depth is a task that runs a text of it
pub record Gives (P : tree.Program) (m : Machine) (f d : ℕ) : Type 0 where
  pub task : Running
  pub present : slice_get m.tasks f ≡ Some task
  pub text : Text
  pub is : text_at P task.which ≡ Some text
  pub depth : text.depth ≡ d

depth_is : (d : ℕ) (o : Option Text) → has_depth d o ≡ true → (t : Text) × (o ≡ Some t) × (t.depth ≡ d)
depth_is d None h = absurd (let e : false ≡ true = h in cc)
depth_is d (Some t) h = (t, refl, eqb-true t.depth d h)

runs_is : (P : tree.Program) (d : ℕ) (o : Option Running) → runs_depth P d o ≡ true → (r : Running) × (o ≡ Some r) × (has_depth d (text_at P r.which) ≡ true)
runs_is P d None h = absurd (let e : false ≡ true = h in cc)
runs_is P d (Some r) h = (r, refl, h)

gives_is : (P : tree.Program) (m : Machine) (f d : ℕ) → gives_of P m f d ≡ true → Gives P m f d
gives_is P m f d h =
    let r = runs_is P d (slice_get m.tasks f) h in
    let t = depth_is d (text_at P r.0.which) r.2 in
    record { task = r.0; present = r.1; text = t.0; is = t.1; depth = t.2 }

is_gives : (P : tree.Program) (m : Machine) (f : ℕ) (r : Running) (t : Text) → slice_get m.tasks f ≡ Some r → text_at P r.which ≡ Some t
    → gives_of P m f t.depth ≡ true
is_gives P m f r t h e = ap (runs_depth P t.depth) h ∙ ap (has_depth t.depth) e ∙ eq-eqb t.depth t.depth refl

-- a task runs the same text after a step
which_stays : (P : tree.Program) (m : Machine) (e : Event) (n : Machine) (x : IsStep P m e n) (f : ℕ) (r : Running) → slice_get m.tasks f ≡ Some r
    → (q : Running) × (slice_get n.tasks f ≡ Some q) × (q.which ≡ r.which)
which_stays P m e n x f r h =
    by_bool (λ b. nat_eq f e.task ≡ b → (q : Running) × (slice_get n.tasks f ≡ Some q) × (q.which ≡ r.which)) (nat_eq f e.task)
    (λ t. λ i. (
    let same : f ≡ e.task = eqb-true f e.task i in
    let task : x.task ≡ r = same_Some x.task r (sym x.present ∙ subst (λ k. slice_get m.tasks k ≡ Some r) same h) in (
      acted x.task x.stop e.action,
      subst (λ k. slice_get n.tasks k ≡ Some (acted x.task x.stop e.action)) (sym same) (acting_task P m e n x),
      ap (λ (y : Running). y.which) task,
    )))
    (λ t. λ i. (r, others_stay P m e n f r x (λ same. both_ways (nat_eq f e.task) i (eq-eqb f e.task same)) h, refl))
    refl

grows : (P : tree.Program) (m : Machine) (e : Event) (n : Machine) → IsStep P m e n → Grows (gives_of P m) (gives_of P n)
grows P m e n x f d h =
    let g = gives_is P m f d h in
    let q = which_stays P m e n x f g.task g.present in
    subst (λ k. gives_of P n f k ≡ true) g.depth (is_gives P n f q.0 g.text q.1 (subst (λ k. text_at P k ≡ Some g.text) (sym q.2) g.is))

typed_task_on : (P : tree.Program) (m n : Machine) (r : Running) → Grows (gives_of P m) (gives_of P n) → IsTypedTask P m r → IsTypedTask P n r
typed_task_on P m n r g x =
    record {
      text = x.text;
      is = x.is;
      runs = λ v. typed_on (gives_of P m) (gives_of P n) P r.which r.state g (x.runs v);
      ended = λ v e. fits_on (gives_of P m) (gives_of P n) x.text.depth v g (x.ended v e);
    }

-- ---- the acting task

-- the state at which a task stands that acts, and what is known of it
pub record Acts (P : tree.Program) (m : Machine) (e : Event) (n : Machine) (x : IsStep P m e n) : Type 0 where
  pub typed : IsTypedTask P m x.task
  pub state : IsTypedState (gives_of P m) P x.task.which x.stop
  pub stop : local_step x.stop ≡ None

acts : (P : tree.Program) (m : Machine) (e : Event) (n : Machine) (x : IsStep P m e n) → IsWellTyped P → AreTyped P m → Acts P m e n x
acts P m e n x w a =
    let t = a e.task x.task x.present in
    let (limit, most, (k, below, steps, stop)) = x.stands in
    record { typed = t; state = steps_stay (gives_of P m) P x.task.which k x.task.state x.stop w (t.runs x.running) steps; stop = stop }

child_there : (P : tree.Program) (m : Machine) (e : Event) (n : Machine) (x : IsStep P m e n) (code child kid cont : ℕ) (args : List Value)
    → e.action ≡ Creates code child kid cont args → slice_get n.tasks child ≡ Some (begins P code args kid child)
child_there P m e n x code child kid cont args is =
    let may : Permits m x.task (Creates code child kid cont args) = subst (Permits m x.task) is x.permits in
    subst (λ k. slice_get n.tasks k ≡ Some (begins P code args kid child)) (sym may.0)
    (child_comes P m e n (begins P code args kid child) x (ap (child_of P x.task) is))

-- what an action gives its task fits
step_fits : (P : tree.Program) (m : Machine) (e : Event) (n : Machine) (x : IsStep P m e n) (a : Action) → IsWellTyped P → AreTyped P m → Acts P m e n x
    → e.action ≡ a → ActionFits (gives_of P n) P x.task.which x.stop a
step_fits P m e n x (Reads cell value) w all k is = tt
step_fits P m e n x (Writes cell value) w all k is = tt
step_fits P m e n x (Spawns code child kid cont args) w all k is = tt
step_fits P m e n x (Creates code child kid cont args) w all k is =
    λ t at. is_gives P n child (begins P code args kid child) t (child_there P m e n x code child kid cont args is) at
step_fits P m e n x (Syncs strand) w all k is = tt
step_fits P m e n x (Gets future value strand) w all k is = λ d depth. (
    let wish : wish_of P x.stop ≡ ToGet future = subst (λ y. Answers (wish_of P x.stop) y) is x.answers in
    let g = gives_is P m future d (wished_get_fits (gives_of P m) P x.task.which x.stop future d w k.state k.stop wish depth) in
    let may : Permits m x.task (Gets future value strand) = subst (Permits m x.task) is x.permits in
    let ended : g.task.value ≡ Some value = ap (λ o. option_and_then (λ (r : Running). r.value) o) (sym g.present) ∙ may.1 in
    let t = all future g.task g.present in
    let same : t.text ≡ g.text = same_Some t.text g.text (sym t.is ∙ g.is) in
    fits_on (gives_of P m) (gives_of P n) d value (grows P m e n x)
    (subst (λ y. Fits (gives_of P m) y value) (ap (λ (z : Text). z.depth) same ∙ g.depth) (t.ended value ended)))
step_fits P m e n x (Ends value) w all k is = tt

value_none : (a : Action) (o : Option Value) → ends a ≡ false → value_by a o ≡ o
value_none (Reads cell value) o h = refl
value_none (Writes cell value) o h = refl
value_none (Spawns code child kid cont args) o h = refl
value_none (Creates code child kid cont args) o h = refl
value_none (Syncs strand) o h = refl
value_none (Gets future value strand) o h = refl
value_none (Ends value) o h = absurd (let e : true ≡ false = h in cc)

ends_with : (a : Action) → ends a ≡ true → (v : Value) × (a ≡ Ends v)
ends_with (Reads cell value) h = absurd (let e : false ≡ true = h in cc)
ends_with (Writes cell value) h = absurd (let e : false ≡ true = h in cc)
ends_with (Spawns code child kid cont args) h = absurd (let e : false ≡ true = h in cc)
ends_with (Creates code child kid cont args) h = absurd (let e : false ≡ true = h in cc)
ends_with (Syncs strand) h = absurd (let e : false ≡ true = h in cc)
ends_with (Gets future value strand) h = absurd (let e : false ≡ true = h in cc)
ends_with (Ends v) h = (v, refl)

acted_typed : (P : tree.Program) (m : Machine) (e : Event) (n : Machine) (x : IsStep P m e n) → IsWellTyped P → AreTyped P m
    → IsTypedTask P n (acted x.task x.stop e.action)
acted_typed P m e n x w all =
    let k = acts P m e n x w all in
    let on = grows P m e n x in
    by_bool (λ b. ends e.action ≡ b → IsTypedTask P n (acted x.task x.stop e.action)) (ends e.action)
    (λ t. λ i. (
    let v = ends_with e.action i in
    let value : value_by e.action x.task.value ≡ Some v.0 = ap (λ a. value_by a x.task.value) v.1 in
    let wish : wish_of P x.stop ≡ ToEnd v.0 = subst (λ y. Answers (wish_of P x.stop) y) v.1 x.answers in
    let fits = wished_end_fits (gives_of P m) P x.task.which x.stop v.0 k.typed.text w k.state k.stop wish k.typed.is in
    record {
      text = k.typed.text;
      is = k.typed.is;
      runs = λ none. absurd (no_some v.0 _ value none);
      ended = λ u h. subst (Fits (gives_of P n) k.typed.text.depth) (same_Some v.0 u (sym value ∙ h))
          (fits_on (gives_of P m) (gives_of P n) k.typed.text.depth v.0 on fits);
    }))
    (λ t. λ i. record {
      text = k.typed.text;
      is = k.typed.is;
      runs = λ none. effect_stays (gives_of P n) P x.task.which x.stop e.action w
          (typed_on (gives_of P m) (gives_of P n) P x.task.which x.stop on k.state) k.stop x.answers i (step_fits P m e n x e.action w all k refl);
      ended = λ u h. absurd (no_some u _ h (value_none e.action x.task.value i ∙ x.running));
    })
    refl

-- the arguments that an action passes fit
passed_fit : (P : tree.Program) (m : Machine) (e : Event) (n : Machine) (x : IsStep P m e n) (a : Action) (which : ℕ) (args : List Value) → IsWellTyped P
    → Acts P m e n x → e.action ≡ a → Passes a which args → ArgsFit (gives_of P m) P which args
passed_fit P m e n x (Reads cell value) which args w k is h = absurd h
passed_fit P m e n x (Writes cell value) which args w k is h = absurd h
passed_fit P m e n x (Spawns code child kid cont given) which args w k is h =
    let wish : wish_of P x.stop ≡ ToSpawn code given = subst (λ y. Answers (wish_of P x.stop) y) is x.answers in
    subst (λ c. ArgsFit (gives_of P m) P c args) h.0
    (subst (ArgsFit (gives_of P m) P code) h.1 (wished_args_fit (gives_of P m) P x.task.which x.stop code given w k.state k.stop (inl wish)))
passed_fit P m e n x (Creates code child kid cont given) which args w k is h =
    let wish : wish_of P x.stop ≡ ToCreate code given = subst (λ y. Answers (wish_of P x.stop) y) is x.answers in
    subst (λ c. ArgsFit (gives_of P m) P c args) h.0
    (subst (ArgsFit (gives_of P m) P code) h.1 (wished_args_fit (gives_of P m) P x.task.which x.stop code given w k.state k.stop (inr wish)))
passed_fit P m e n x (Syncs strand) which args w k is h = absurd h
passed_fit P m e n x (Gets future value strand) which args w k is h = absurd h
passed_fit P m e n x (Ends value) which args w k is h = absurd h

begun_typed : (P : tree.Program) (m : Machine) (code kid future : ℕ) (args : List Value) → IsWellTyped P → ArgsFit (gives_of P m) P code args
    → IsTypedTask P m (begins P code args kid future)
begun_typed P m code kid future args w f =
    record { text = f.0; is = f.1; runs = λ none. start_typed (gives_of P m) P code args w f; ended = λ v h. absurd (no_some v _ h refl) }

new_typed : (P : tree.Program) (m : Machine) (code kid future k : ℕ) (args : List Value) (r : Running) → IsWellTyped P → ArgsFit (gives_of P m) P code args
    → slice_get (begins P code args kid future ∷ []) k ≡ Some r → IsTypedTask P m r
new_typed P m code kid future zero args r w f h = subst (IsTypedTask P m) (same_Some _ r h) (begun_typed P m code kid future args w f)
new_typed P m code kid future (suc k) args r w f h = absurd (no_some r _ h refl)

none_there : (k : ℕ) (r : Running) → slice_get [] k ≡ Some r → ⊥
none_there k r h = let e : None ≡ Some r = h in cc

child_typed : (P : tree.Program) (m : Machine) (e : Event) (n : Machine) (x : IsStep P m e n) (a : Action) (k : ℕ) (r : Running) → IsWellTyped P
    → Acts P m e n x → e.action ≡ a → slice_get (child_of P x.task a) k ≡ Some r → IsTypedTask P n r
child_typed P m e n x (Reads cell value) k r w y is h = absurd (none_there k r h)
child_typed P m e n x (Writes cell value) k r w y is h = absurd (none_there k r h)
child_typed P m e n x (Spawns code child kid cont args) k r w y is h =
    new_typed P n code kid x.task.future k args r w
    (args_on (gives_of P m) (gives_of P n) P code args (grows P m e n x)
    (passed_fit P m e n x (Spawns code child kid cont args) code args w y is (refl, refl))) h
child_typed P m e n x (Creates code child kid cont args) k r w y is h =
    new_typed P n code kid child k args r w
    (args_on (gives_of P m) (gives_of P n) P code args (grows P m e n x)
    (passed_fit P m e n x (Creates code child kid cont args) code args w y is (refl, refl))) h
child_typed P m e n x (Syncs strand) k r w y is h = absurd (none_there k r h)
child_typed P m e n x (Gets future value strand) k r w y is h = absurd (none_there k r h)
child_typed P m e n x (Ends value) k r w y is h = absurd (none_there k r h)

step_typed : (P : tree.Program) (m : Machine) (e : Event) (n : Machine) → IsStep P m e n → IsWellTyped P → AreTyped P m → AreTyped P n
step_typed P m e n x w all t r h =
    elim (get_set_append m.tasks (child_of P x.task e.action) e.task (acted x.task x.stop e.action) t r
    (subst (λ (q : Machine). slice_get q.tasks t ≡ Some r) x.gives h)) [
      | inl own ↦ subst (IsTypedTask P n) own.1 (acted_typed P m e n x w all)
      | inr other ↦ elim other [
        | inl old ↦ typed_task_on P m n r (grows P m e n x) (all t r old)
        | inr new ↦ child_typed P m e n x e.action new.0 r w (acts P m e n x w all) refl new.2
      ]
    ]

opening_typed : (P : tree.Program) → IsWellTyped P → AreTyped P (opening P)
opening_typed P w t r h = new_typed P (opening P) (main_of P) 0 0 t [] r w (main_fits (gives_of P (opening P)) P w) h

leads_typed : (P : tree.Program) (m : Machine) (h : List Event) (n : Machine) → IsWellTyped P → Leads P m h n → AreTyped P m → AreTyped P n
leads_typed P m [] n w l a = subst (AreTyped P) l a
leads_typed P m (e ∷ h) n w (next, step, rest) a = leads_typed P next h n w rest (step_typed P m e next step w a)

-- ---- the laws

pub runs_are_typed : (P : tree.Program) (h : List Event) (m : Machine) (t : ℕ) (r : Running) → IsWellTyped P → Leads P (opening P) h m
    → slice_get m.tasks t ≡ Some r → IsTypedTask P m r
runs_are_typed P h m t r w l = leads_typed P (opening P) h m w l (opening_typed P w) t r

to_any : (gives : ℕ → ℕ → Bool) → Grows gives any_future
to_any gives f d h = refl

pub steps_fit : (P : tree.Program) (h : List Event) (m : Machine) (e : Event) (n : Machine) → IsWellTyped P → Leads P (opening P) h m → (x : IsStep P m e n)
    → ActionFits any_future P x.task.which x.stop e.action
steps_fit P h m e n w l x =
    let all = leads_typed P (opening P) h m w l (opening_typed P w) in
    action_on (gives_of P n) any_future P x.task.which x.stop e.action (to_any (gives_of P n)) (step_fits P m e n x e.action w all (acts P m e n x w all) refl)

pub children_fit : (P : tree.Program) (h : List Event) (m : Machine) (e : Event) (n : Machine) (which : ℕ) (args : List Value) → IsWellTyped P
    → Leads P (opening P) h m → IsStep P m e n → Passes e.action which args → ArgsFit any_future P which args
children_fit P h m e n which args w l x p =
    let all = leads_typed P (opening P) h m w l (opening_typed P w) in
    args_on (gives_of P m) any_future P which args (to_any (gives_of P m)) (passed_fit P m e n x e.action which args w (acts P m e n x w all) refl p)

pub running_has_wish : (P : tree.Program) (h : List Event) (m : Machine) (t : ℕ) (r : Running) (stop : TaskState) → IsWellTyped P → Leads P (opening P) h m
    → slice_get m.tasks t ≡ Some r → r.value ≡ None → StandsAt r.state stop → wish_of P stop ≡ NoWish → ⊥
running_has_wish P h m t r stop w l present runs (limit, most, (k, below, steps, at)) none =
    let x = runs_are_typed P h m t r w l present in
    typed_has_wish (gives_of P m) P r.which stop w (steps_stay (gives_of P m) P r.which k r.state stop w (x.runs runs) steps) at none

pub main_fits_any : (P : tree.Program) → IsWellTyped P → ArgsFit any_future P (main_of P) []
main_fits_any P w = main_fits any_future P w

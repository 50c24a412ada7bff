-- What the machine of a history has: the state of each task by its trace, and the values of the cells.
use Rattle.std.proofs.Common.{◌≡◌, ◌≢◌, ℕ, zero, suc, ◌+◌, ◌<◌, Bool, cond, ◌==◌, if◌then◌else◌, List, [], ◌∷◌}
use Rattle.std.proofs.Common.{◌++◌, length, inl, inr, refl, sym, ap, ◌∙◌, subst, arith, ℤ, pos, replicate}
use Rattle.fut_base.proofs.Cases.{by_eq}
use Rattle.std.proofs.lemmas.List.{reverse-append}
use Rattle.std.specs.Prelude.{Some, reverse, filter, slice_get, slice_set}
use Rattle.fut_base.specs.declared.record.Value.{Value}
use Rattle.fut_base.specs.declared.event.Event.{Event}
use Rattle.fut_base.specs.declared.event.Action.{Action}
use Rattle.fut_base.specs.declared.event.Action.TheVariants.{Reads, Writes, Spawns, Creates, Syncs, Gets, Ends}
use Rattle.fut_base.specs.Dag.{Among}
use Rattle.fut_base.specs.Sound.{tasks_by}
use Rattle.fut_syntax.specs.Trees as tree
use Rattle.task_machine.specs.Texts.{main_of, cell_count}
use Rattle.task_machine.specs.State.{TaskState, effect_of, start_state}
use Rattle.task_machine.specs.Runs.{Follows, IsStateAfter}
use Rattle.task_machine.specs.Machine.{Machine, Running, begins, acted, child_of, cells_after, Permits, IsStep}
use Rattle.task_machine.proofs.Places.{Behind, get_below}
use Rattle.task_machine.proofs.Making.{task_count}
use Rattle.task_machine.proofs.Stepping.{stands_at_one}
use Rattle.run_laws.proofs.Pasts.{Came, get_after}
use Rattle.run_laws.proofs.Mirrored.{only}
use Rattle.merge_laws.specs.Parts.{Makes, StartsAs, value_after, value_left}

-- ---- ways of a task

pub follows_split : (P : tree.Program) (s : TaskState) (xs ys : List Event) (t : TaskState) → Follows P s (xs ++ ys) t
    → (u : TaskState) × Follows P s xs u × Follows P u ys t
follows_split P s [] ys t f = (s, refl, f)
follows_split P s (x ∷ xs) ys t (at, stands, answers, rest) =
    let k = follows_split P (effect_of at x.action) xs ys t rest in (k.0, (at, stands, answers, k.1), k.2)

pub follows_join : (P : tree.Program) (s : TaskState) (xs ys : List Event) (u t : TaskState) → Follows P s xs u → Follows P u ys t → Follows P s (xs ++ ys) t
follows_join P s [] ys u t f g = subst (λ z. Follows P z ys t) (sym f) g
follows_join P s (x ∷ xs) ys u t (at, stands, answers, rest) g = (at, stands, answers, follows_join P (effect_of at x.action) xs ys u t rest g)

pub follows_one : (P : tree.Program) (s : TaskState) (xs : List Event) (t u : TaskState) → Follows P s xs t → Follows P s xs u → t ≡ u
follows_one P s [] t u f g = sym f ∙ g
follows_one P s (x ∷ xs) t u f g =
    let same : f.0 ≡ g.0 = stands_at_one s f.0 g.0 f.1 g.1 in
    follows_one P (effect_of f.0 x.action) xs t u f.3 (subst (λ z. Follows P (effect_of z x.action) xs u) (sym same) g.3)

-- ---- the events of a task

abbrev pub of_task : ℕ → Event → Bool
of_task t e = e.task == t

-- in order
abbrev pub acts_of : ℕ → List Event → List Event
acts_of t past = reverse (filter (of_task t) past)

pub acts_on : (t : ℕ) (e : Event) (past : List Event) → e.task ≡ t → acts_of t (e ∷ past) ≡ acts_of t past ++ e ∷ []
acts_on t e past same =
    by_eq (λ b. reverse (cond b (e ∷ filter (of_task t) past) (filter (of_task t) past)) ≡ acts_of t past ++ e ∷ []) e.task t
    (λ _. reverse-append (e ∷ []) (filter (of_task t) past))
    (λ ne. absurd (ne same))

pub acts_off : (t : ℕ) (e : Event) (past : List Event) → e.task ≢ t → acts_of t (e ∷ past) ≡ acts_of t past
acts_off t e past ne =
    by_eq (λ b. reverse (cond b (e ∷ filter (of_task t) past) (filter (of_task t) past)) ≡ acts_of t past) e.task t
    (λ same. absurd (ne same))
    (λ _. refl)

pub acts_none : (t : ℕ) (past : List Event) → ((e : Event) → Among e past → e.task ≢ t) → acts_of t past ≡ []
acts_none t [] none = refl
acts_none t (e ∷ past) none = acts_off t e past (none e (inl refl)) ∙ acts_none t past (λ d a. none d (inr a))

-- ---- starts

pub starts_more : (P : tree.Program) (e : Event) (past : List Event) (t which : ℕ) (args : List Value) → StartsAs P past t which args
    → StartsAs P (e ∷ past) t which args
starts_more P e past t which args (inl s) = inl s
starts_more P e past t which args (inr (d, a, m)) = inr (d, inr a, m)

-- ---- tasks

tasks_next : (P : tree.Program) (q : Machine) (e : Event) (n : Machine) → IsStep P q e n → length n.tasks ≡ length q.tasks + tasks_by e.action
tasks_next P q e n step = ap (λ (z : Machine). length z.tasks) step.gives ∙ task_count P q e step.task step.stop

-- each event is of a task that the machine has
pub came_tasks : (P : tree.Program) (past : List Event) (m : Machine) → Came P past m → (e : Event) → Among e past → e.task < length m.tasks
came_tasks P [] m c e a = absurd a
came_tasks P (x ∷ past) m (q, c, step) e (inl same) =
    let k = tasks_next P q x m step in
    let l : x.task < length q.tasks = get_below q.tasks x.task step.task step.present in
    let o : x.task ≡ e.task = ap (λ (z : Event). z.task) same in
    omega (arith, k, l, o)
came_tasks P (x ∷ past) m (q, c, step) e (inr a) =
    let k = tasks_next P q x m step in
    let l : e.task < length q.tasks = came_tasks P past q c e a in
    omega (arith, k, l)

-- the state of each task is that of its trace, from its start
abbrev pub StatesOf : tree.Program → List Event → Machine → Type 0
StatesOf P past m =
    (t : ℕ) (r : Running) → slice_get m.tasks t ≡ Some r → (args : List Value) × StartsAs P past t r.which args
    × IsStateAfter P r.which args (acts_of t past) r.state

-- the state of a task that was just made
new_state : (P : tree.Program) (q : Machine) (e : Event) (past : List Event) (r : Running) (t which : ℕ) (args : List Value) (x : Running)
    → Makes e.action t which args → acts_of t (e ∷ past) ≡ [] → which ≡ x.which → start_state P which args ≡ x.state
    → (given : List Value) × StartsAs P (e ∷ past) t x.which given × IsStateAfter P x.which given (acts_of t (e ∷ past)) x.state
new_state P q e past r t which args x makes none same state = (
  args,
  inr (e, inl refl, subst (λ w. Makes e.action t w args) same makes),
  subst (λ (l : List Event). Follows P (start_state P x.which args) l x.state) (sym none) (ap (λ w. start_state P w args) (sym same) ∙ state),
)

made_state : (P : tree.Program) (q : Machine) (e : Event) (past : List Event) (a : Action) → e.action ≡ a → (r : Running) → e.task < length q.tasks
    → Permits q r a
    → ((d : Event) → Among d past → d.task < length q.tasks)
    → (t : ℕ) (x : Running) → Behind q.tasks (child_of P r a) t x
    → (args : List Value) × StartsAs P (e ∷ past) t x.which args × IsStateAfter P x.which args (acts_of t (e ∷ past)) x.state
made_state P q e past (Reads _ _) is r below may old t x (k, at, got) = cc
made_state P q e past (Writes _ _) is r below may old t x (k, at, got) = cc
made_state P q e past (Spawns code child kid cont args) is r below may old t x (k, at, got) =
    let o = only (begins P code args kid r.future) x k got in
    let first : k ≡ 0 = o.0 in
    let last : length q.tasks ≡ t = omega arith in
    new_state P q e past r t code args x
    (subst (λ b. Makes b t code args) (sym is) (may.0 ∙ last, refl, refl))
    (acts_none t (e ∷ past) (λ d a. elim a [
      | inl same ↦ (λ h. (let z : e.task ≡ d.task = ap (λ (y : Event). y.task) same in omega (arith, below, z, h, last)))
      | inr a ↦ (λ h. omega (arith, old d a, h, last))
    ]))
    (ap (λ (y : Running). y.which) o.1)
    (ap (λ (y : Running). y.state) o.1)
made_state P q e past (Creates code child kid cont args) is r below may old t x (k, at, got) =
    let o = only (begins P code args kid child) x k got in
    let first : k ≡ 0 = o.0 in
    let last : length q.tasks ≡ t = omega arith in
    new_state P q e past r t code args x
    (subst (λ b. Makes b t code args) (sym is) (may.0 ∙ last, refl, refl))
    (acts_none t (e ∷ past) (λ d a. elim a [
      | inl same ↦ (λ h. (let z : e.task ≡ d.task = ap (λ (y : Event). y.task) same in omega (arith, below, z, h, last)))
      | inr a ↦ (λ h. omega (arith, old d a, h, last))
    ]))
    (ap (λ (y : Running). y.which) o.1)
    (ap (λ (y : Running). y.state) o.1)
made_state P q e past (Syncs _) is r below may old t x (k, at, got) = cc
made_state P q e past (Gets _ _ _) is r below may old t x (k, at, got) = cc
made_state P q e past (Ends _) is r below may old t x (k, at, got) = cc

pub came_states : (P : tree.Program) (past : List Event) (m : Machine) → Came P past m → StatesOf P past m
came_states P [] m c t r h =
    let o = only (begins P (main_of P) [] 0 0) r t (ap (λ (z : Machine). slice_get z.tasks t) c ∙ h) in
    ([], inl (o.0, ap (λ (y : Running). y.which) o.1, refl), ap (λ (y : Running). start_state P y.which []) (sym o.1) ∙ ap (λ (y : Running). y.state) o.1)
came_states P (e ∷ past) m (q, c, step) t r h =
    let ih = came_states P past q c in
    let below : e.task < length q.tasks = get_below q.tasks e.task step.task step.present in
    elim (get_after q.tasks (child_of P step.task e.action) e.task (acted step.task step.stop e.action) step.task step.present t r
    (ap (λ (z : Machine). slice_get z.tasks t) (sym step.gives) ∙ h)) [
      | inl own ↦ (
          let k = ih e.task step.task step.present in
          let which : step.task.which ≡ r.which = ap (λ (y : Running). y.which) own.1 in
          let state : effect_of step.stop e.action ≡ r.state = ap (λ (y : Running). y.state) own.1 in
          let next : Follows P (start_state P step.task.which k.0) (acts_of e.task past ++ e ∷ []) (effect_of step.stop e.action) =
          follows_join P (start_state P step.task.which k.0) (acts_of e.task past) (e ∷ []) step.task.state (effect_of step.stop e.action) k.2
          (step.stop, step.stands, step.answers, refl) in
          let all : Follows P (start_state P step.task.which k.0) (acts_of e.task (e ∷ past)) (effect_of step.stop e.action) =
          subst (λ (l : List Event). Follows P (start_state P step.task.which k.0) l (effect_of step.stop e.action)) (sym (acts_on e.task e past refl)) next in
          let Q : ℕ → ℕ → TaskState → Type 0 = λ i w s. (args : List Value) × StartsAs P (e ∷ past) i w args × IsStateAfter P w args (acts_of i (e ∷ past)) s in
          let q0 : Q e.task step.task.which (effect_of step.stop e.action) = (k.0, starts_more P e past e.task step.task.which k.0 k.1, all) in
          let q1 : Q t step.task.which (effect_of step.stop e.action) = subst (λ i. Q i step.task.which (effect_of step.stop e.action)) (sym own.0) q0 in
          let q2 : Q t r.which (effect_of step.stop e.action) = subst (λ w. Q t w (effect_of step.stop e.action)) which q1 in
          subst (λ s. Q t r.which s) state q2)
      | inr other ↦ elim other [
        | inl old ↦ (
            let k = ih t r old.1 in (
              k.0,
              starts_more P e past t r.which k.0 k.1,
              subst (λ (l : List Event). Follows P (start_state P r.which k.0) l r.state)
                  (sym (acts_off t e past (λ s. old.0 (sym s)))) k.2,
            ))
        | inr new ↦ made_state P q e past e.action refl step.task below step.permits (came_tasks P past q c) t r new
      ]
    ]

-- ---- cells

get_zeros : (n c : ℕ) → c < n → slice_get (replicate n (pos 0)) c ≡ Some (pos 0)
get_zeros zero c lt = absurd (omega (arith, lt))
get_zeros (suc n) zero lt = refl
get_zeros (suc n) (suc c) lt = get_zeros n c (omega (arith, lt))

set_same : {X : Type 0} (xs : List X) (i : ℕ) (x old : X) → slice_get xs i ≡ Some old → slice_get (slice_set xs i x) i ≡ Some x
set_same [] i x old h = cc
set_same (y ∷ xs) zero x old h = refl
set_same (y ∷ xs) (suc i) x old h = set_same xs i x old h

set_other : {X : Type 0} (xs : List X) (i : ℕ) (x : X) (t : ℕ) → i ≢ t → slice_get (slice_set xs i x) t ≡ slice_get xs t
set_other [] i x t ne = refl
set_other (y ∷ xs) zero x zero ne = absurd (ne refl)
set_other (y ∷ xs) zero x (suc t) ne = refl
set_other (y ∷ xs) (suc i) x zero ne = refl
set_other (y ∷ xs) (suc i) x (suc t) ne = set_other xs i x t (λ e. ne (ap suc e))

cell_next : (a : Action) (cells : List ℤ) (c : ℕ) (old : ℤ) → slice_get cells c ≡ Some old → slice_get (cells_after a cells) c ≡ Some (value_after c a old)
cell_next (Reads _ _) cells c old h = h
cell_next (Writes cell value) cells c old h =
    by_eq (λ b. slice_get (slice_set cells cell value) c ≡ Some (if b then value else old)) cell c
    (λ same. subst (λ i. slice_get (slice_set cells i value) c ≡ Some value) (sym same) (set_same cells c value old h))
    (λ ne. set_other cells cell value c ne ∙ h)
cell_next (Spawns _ _ _ _ _) cells c old h = h
cell_next (Creates _ _ _ _ _) cells c old h = h
cell_next (Syncs _) cells c old h = h
cell_next (Gets _ _ _) cells c old h = h
cell_next (Ends _) cells c old h = h

-- each cell of the program has the value that the events left
pub came_cells : (P : tree.Program) (past : List Event) (m : Machine) → Came P past m → (c : ℕ) → c < cell_count P
    → slice_get m.cells c ≡ Some (value_left c past)
came_cells P [] m came c lt = subst (λ (z : Machine). slice_get z.cells c ≡ Some (pos 0)) came (get_zeros (cell_count P) c lt)
came_cells P (e ∷ past) m (q, came, step) c lt =
    ap (λ (z : Machine). slice_get z.cells c) step.gives ∙ cell_next e.action q.cells c (value_left c past) (came_cells P past q came c lt)

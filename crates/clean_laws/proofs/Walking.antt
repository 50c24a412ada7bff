-- From a beginning of a history on to the next event of a task.
use Rattle.std.proofs.Common.{◌≡◌, ◌≢◌, ℕ, ◌+◌, ◌≤◌, List, [], ◌∷◌, length, slice_get, ◌⊎◌, inl, inr, refl, sym, ap, cond, ◌∙◌, subst, arith}
use Rattle.std.specs.Prelude.{Option, Some, None}
use Rattle.std.proofs.lemmas.Bool.{cases_eq}
use Rattle.std.proofs.lemmas.Option.{same_Some}
use Rattle.fut_base.proofs.Cases.{by_eq}
use Rattle.fut_base.specs.declared.record.Value.{Value}
use Rattle.fut_base.specs.declared.event.Event.{Event}
use Rattle.fut_base.specs.declared.event.Action.{Action}
use Rattle.fut_base.specs.declared.event.Action.TheVariants.{Reads, Writes, Spawns, Creates, Syncs, Gets, Ends}
use Rattle.fut_base.specs.Dag.{Among}
use Rattle.fut_base.specs.Sound.{tasks_by}
use Rattle.fut_syntax.specs.Trees as tree
use Rattle.task_machine.specs.Machine.{Machine, Running, IsStep, Permits}
use Rattle.task_machine.proofs.Making.{others_stay, task_count}
use Rattle.task_machine.proofs.Places.{get_below}
use Rattle.access_shards.proofs.Histories.{Stood}
use Rattle.run_laws.proofs.Pasts.{Came}
use Rattle.clean_laws.specs.Closed.{Makes, Concerns, HasAll, HasAllOf, waited, IsDue, IsClosed}
use Rattle.clean_laws.specs.Traces.{events_by}
use Rattle.clean_laws.proofs.Tails.{IsTail, tail_short, came_one}

-- ---- sets of places

pub has_more : (j : ℕ) (places : List ℕ) (past : List Event) (t : ℕ) → HasAll places past t → HasAll (j ∷ places) past t
has_more j places [] t h = tt
has_more j places (x ∷ past) t h = (has_more j places past t h.0, λ c. inr (h.1 c))

pub has_of_more : (j : ℕ) (places : List ℕ) (past : List Event) (ts : List ℕ) → HasAllOf places past ts → HasAllOf (j ∷ places) past ts
has_of_more j places past [] h = tt
has_of_more j places past (t ∷ ts) h = (has_more j places past t h.0, has_of_more j places past ts h.1)

pub due_more : (j : ℕ) (places : List ℕ) (past : List Event) (e : Event) → IsDue places past e → IsDue (j ∷ places) past e
due_more j places past e h = (has_more j places past e.task h.0, has_of_more j places past (waited past e) h.1)

pub has_at : (places : List ℕ) (past : List Event) (t i : ℕ) (d : Event) → HasAll places past t → Stood past i d → Concerns d t → Among i places
has_at places [] t i d h s c = absurd s
has_at places (x ∷ past) t i d h (inl s) c = subst (λ z. Among z places) s.0 (h.1 (subst (λ (z : Event). Concerns z t) (sym s.1) c))
has_at places (x ∷ past) t i d h (inr s) c = has_at places past t i d h.0 s c

pub has_down : (places : List ℕ) (past older : List Event) (t : ℕ) → IsTail past older → HasAll places past t → HasAll places older t
has_down places [] older t l h = subst (λ z. HasAll places z t) (sym l) h
has_down places (x ∷ past) older t (inl l) h = subst (λ z. HasAll places z t) l h
has_down places (x ∷ past) older t (inr l) h = has_down places past older t l h.0

pub due_at : (places : List ℕ) (past older : List Event) (d : Event) → IsTail past (d ∷ older) → IsClosed places past → Among (length older) places
    → IsDue places older d
due_at places [] older d l closed a = absurd (let z : d ∷ older ≡ [] = l in cc)
due_at places (x ∷ past) older d (inl l) closed a = (subst (IsClosed places) l closed).1 a
due_at places (x ∷ past) older d (inr l) closed a = due_at places past older d l closed.0 a

closed_add : (j : ℕ) (places : List ℕ) (past : List Event) → length past ≤ j → IsClosed places past → IsClosed (j ∷ places) past
closed_add j places [] le c = tt
closed_add j places (x ∷ past) le c = (closed_add j places past (omega (arith, le)) c.0, λ a. due_more j places past x (c.1 (old a)))
  where
    old : Among (length past) (j ∷ places) → Among (length past) places
    old (inl e) = absurd (omega (arith, le, e))
    old (inr a) = a

-- a place may come to a closed set where what has to come before it is there
pub closed_more : (places : List ℕ) (past older : List Event) (d : Event) → IsTail past (d ∷ older) → IsClosed places past → IsDue places older d
    → IsClosed (length older ∷ places) past
closed_more places [] older d l c due = tt
closed_more places (x ∷ past) older d (inl l) c due =
    subst (IsClosed (length older ∷ places)) (sym l)
    (closed_add (length older) places older (omega arith) (subst (IsClosed places) l c).0, λ a. due_more (length older) places older d due)
closed_more places (x ∷ past) older d (inr l) c due = (closed_more places past older d l c.0 due, λ a. due_more (length older) places past x (c.1 (old a)))
  where
    old : Among (length past) (length older ∷ places) → Among (length past) places
    old (inl e) = absurd (let k = tail_short past (d ∷ older) l in omega (arith, k, e))
    old (inr a) = a

-- ---- tasks

pub makes_next : (m : Machine) (r : Running) (a : Action) (u : ℕ) → Permits m r a → Makes a u → u ≡ length m.tasks
makes_next m r (Spawns _ _ _ _ _) u p k = sym k ∙ p.0
makes_next m r (Creates _ _ _ _ _) u p k = sym k ∙ p.0
makes_next m r (Reads _ _) u p k = absurd k
makes_next m r (Writes _ _) u p k = absurd k
makes_next m r (Syncs _) u p k = absurd k
makes_next m r (Gets _ _ _) u p k = absurd k
makes_next m r (Ends _) u p k = absurd k

makes_one : (a : Action) (u : ℕ) → Makes a u → tasks_by a ≡ 1
makes_one (Spawns _ _ _ _ _) u k = refl
makes_one (Creates _ _ _ _ _) u k = refl
makes_one (Reads _ _) u k = absurd k
makes_one (Writes _ _) u k = absurd k
makes_one (Syncs _) u k = absurd k
makes_one (Gets _ _ _) u k = absurd k
makes_one (Ends _) u k = absurd k

pub count_step : (P : tree.Program) (m : Machine) (e : Event) (n : Machine) → IsStep P m e n → length n.tasks ≡ length m.tasks + tasks_by e.action
count_step P m e n step = ap (λ (z : Machine). length z.tasks) step.gives ∙ task_count P m e step.task step.stop

pub tasks_grow : (P : tree.Program) (past older : List Event) (m q : Machine) → Came P past m → IsTail past older → Came P older q
    → length q.tasks ≤ length m.tasks
tasks_grow P [] older m q c l d = let k : length q.tasks ≡ length m.tasks =
    ap (λ (z : Machine). length z.tasks) (came_one P [] q m (subst (λ z. Came P z q) l d) c) in omega (arith, k)
tasks_grow P (x ∷ past) older m q c (inl l) d =
    let k : length q.tasks ≡ length m.tasks =
    ap (λ (z : Machine). length z.tasks) (came_one P (x ∷ past) q m (subst (λ z. Came P z q) (sym l) d) c) in omega (arith, k)
tasks_grow P (x ∷ past) older m q c (inr l) d = let k = tasks_grow P past older c.0 q c.1 l d in let g = count_step P c.0 x m c.2 in omega (arith, k, g)

-- no event concerns a task that is not there yet
pub has_unborn : (P : tree.Program) (places : List ℕ) (past : List Event) (m : Machine) (u : ℕ) → Came P past m → length m.tasks ≤ u → HasAll places past u
has_unborn P places [] m u c le = tt
has_unborn P places (x ∷ past) m u (q, c, step) le =
    let g = count_step P q x m step in (
      has_unborn P places past q u c (omega (arith, g, le)),
      λ k. absurd (elim k [
        | inl e ↦ (let b = get_below q.tasks x.task step.task step.present in omega (arith, b, g, le, e))
        | inr k ↦ (let b = makes_next q step.task x.action u step.permits k in let o = makes_one x.action u k in omega (arith, b, o, g, le))
      ]),
    )

-- ---- events of a task

pub by_on : (e : Event) (past : List Event) (t : ℕ) → e.task ≡ t → events_by t (e ∷ past) ≡ e ∷ events_by t past
by_on e past t is = by_eq (λ z. cond z (e ∷ events_by t past) (events_by t past) ≡ e ∷ events_by t past) e.task t (λ k. refl) (λ ne. absurd (ne is))

pub by_off : (e : Event) (past : List Event) (t : ℕ) → e.task ≢ t → events_by t (e ∷ past) ≡ events_by t past
by_off e past t ne = by_eq (λ z. cond z (e ∷ events_by t past) (events_by t past) ≡ events_by t past) e.task t (λ k. absurd (ne k)) (λ k. refl)

pub unborn_by : (P : tree.Program) (past : List Event) (m : Machine) (u : ℕ) → Came P past m → length m.tasks ≤ u → events_by u past ≡ []
unborn_by P [] m u c le = refl
unborn_by P (x ∷ past) m u (q, c, step) le =
    let g = count_step P q x m step in
    let b = get_below q.tasks x.task step.task step.present in
    by_off x past u (λ e. omega (arith, b, g, le, e)) ∙ unborn_by P past q u c (omega (arith, g, le))

-- ---- the next event of a task

pub record Next (P : tree.Program) (hp before : List Event) (places : List ℕ) (u : ℕ) (r : Running) : Type 0 where
  pub older : List Event
  pub event : Event
  pub tail : IsTail hp (event ∷ older)
  pub later : length before ≤ length older
  pub machine : Machine
  pub came : Came P older machine
  pub present : slice_get machine.tasks u ≡ Some r
  pub next : Machine
  pub step : IsStep P machine event next
  pub task_is : event.task ≡ u
  pub all : HasAll places older u
  pub trace : events_by u older ≡ events_by u before

not_new : (P : tree.Program) (q n : Machine) (x : Event) (u : ℕ) (r : Running) → IsStep P q x n → slice_get q.tasks u ≡ Some r → Makes x.action u → ⊥
not_new P q n x u r step present k = let a = makes_next q step.task x.action u step.permits k in let b = get_below q.tasks u r present in omega (arith, a, b)

pub walk : (P : tree.Program) (hp before : List Event) (places : List ℕ) (u : ℕ) (r : Running) (q m : Machine) → Came P before q
    → slice_get q.tasks u ≡ Some r → HasAll places before u → Came P hp m → IsTail hp before
    → Next P hp before places u r ⊎ ((slice_get m.tasks u ≡ Some r) × HasAll places hp u × (events_by u hp ≡ events_by u before))
walk P [] before places u r q m cb present has c l =
    inr (
      subst (λ (z : Machine). slice_get z.tasks u ≡ Some r) (came_one P [] q m (subst (λ z. Came P z q) l cb) c) present,
      tt,
      ap (λ z. events_by u z) (sym l),
    )
walk P (x ∷ hp) before places u r q m cb present has c (inl l) =
    inr (
      subst (λ (z : Machine). slice_get z.tasks u ≡ Some r) (came_one P (x ∷ hp) q m (subst (λ z. Came P z q) (sym l) cb) c) present,
      subst (λ z. HasAll places z u) (sym l) has,
      ap (λ z. events_by u z) l,
    )
walk P (x ∷ hp) before places u r q m cb present has (k, c, step) (inr l) = elim (walk P hp before places u r q k cb present has c l) [
  | inl n ↦
      inl
      (record {
        older = n.older;
        event = n.event;
        tail = inr n.tail;
        later = n.later;
        machine = n.machine;
        came = n.came;
        present = n.present;
        next = n.next;
        step = n.step;
        task_is = n.task_is;
        all = n.all;
        trace = n.trace;
      })
  | inr s ↦ elim (cases_eq x.task u) [
    | inl e ↦
        inl
        (record {
          older = hp;
          event = x;
          tail = inl refl;
          later = tail_short hp before l;
          machine = k;
          came = c;
          present = s.0;
          next = m;
          step = step;
          task_is = e;
          all = s.1;
          trace = s.2;
        })
    | inr ne ↦
        inr (
          others_stay P k x m u r step (λ e. ne (sym e)) s.0,
          (s.1, λ z. absurd (elim z [ inl e ↦ ne e | inr mk ↦ not_new P k m x u r step s.0 mk ])),
          by_off x hp u ne ∙ s.2,
        )
  ]
]

none_some : (v : Value) (o : Option Value) → o ≡ Some v → o ≡ None → ⊥
none_some v o a b = let z = sym a ∙ b in cc

-- a task that has ended stays as it is
pub ended_stays : (P : tree.Program) (hp before : List Event) (u : ℕ) (r : Running) (v : Value) (q m : Machine) → Came P before q
    → slice_get q.tasks u ≡ Some r → r.value ≡ Some v → Came P hp m → IsTail hp before → slice_get m.tasks u ≡ Some r
ended_stays P [] before u r v q m cb present ended c l =
    subst (λ (z : Machine). slice_get z.tasks u ≡ Some r) (came_one P [] q m (subst (λ z. Came P z q) l cb) c) present
ended_stays P (x ∷ hp) before u r v q m cb present ended c (inl l) =
    subst (λ (z : Machine). slice_get z.tasks u ≡ Some r) (came_one P (x ∷ hp) q m (subst (λ z. Came P z q) (sym l) cb) c) present
ended_stays P (x ∷ hp) before u r v q m cb present ended (k, c, step) (inr l) =
    let s = ended_stays P hp before u r v q k cb present ended c l in
    others_stay P k x m u r step
    (λ e. none_some v r.value ended (ap (λ (z : Running). z.value) (same_Some _ _ (sym s ∙ ap (slice_get k.tasks) e ∙ step.present)) ∙ step.running)) s

-- and all its events are there
pub ended_all : (P : tree.Program) (hp before : List Event) (places : List ℕ) (u : ℕ) (r : Running) (v : Value) (q m : Machine) → Came P before q
    → slice_get q.tasks u ≡ Some r → r.value ≡ Some v → HasAll places before u → Came P hp m → IsTail hp before
    → HasAll places hp u
ended_all P hp before places u r v q m cb present ended has c l = elim (walk P hp before places u r q m cb present has c l) [
  | inr s ↦ s.1
  | inl n ↦
      absurd
      (none_some v r.value ended
      (ap (λ (z : Running). z.value) (same_Some _ _ (sym n.present ∙ ap (slice_get n.machine.tasks) (sym n.task_is) ∙ n.step.present)) ∙ n.step.running))
]

-- and there is no other one
pub ended_trace : (P : tree.Program) (hp before : List Event) (places : List ℕ) (u : ℕ) (r : Running) (v : Value) (q m : Machine) → Came P before q
    → slice_get q.tasks u ≡ Some r → r.value ≡ Some v → HasAll places before u → Came P hp m → IsTail hp before
    → events_by u hp ≡ events_by u before
ended_trace P hp before places u r v q m cb present ended has c l = elim (walk P hp before places u r q m cb present has c l) [
  | inr s ↦ s.2
  | inl n ↦
      absurd
      (none_some v r.value ended
      (ap (λ (z : Running). z.value) (same_Some _ _ (sym n.present ∙ ap (slice_get n.machine.tasks) (sym n.task_is) ∙ n.step.present)) ∙ n.step.running))
]

-- A further event of the other run is matched too.
use Rattle.std.proofs.Common.{◌≡◌, ◌≢◌, ℕ, zero, suc, ◌+◌, ◌<◌, ◌≤◌, List, [], ◌∷◌, ◌++◌, length, slice_get, ◌⊎◌, inl, inr, refl, sym, ap, ◌∙◌, subst, arith}
use Rattle.std.specs.Prelude.{Option, Some, None}
use Rattle.std.proofs.lemmas.Bool.{cases_eq}
use Rattle.fut_base.specs.declared.record.Value.{Value}
use Rattle.fut_base.specs.declared.event.Event.{Event}
use Rattle.fut_base.specs.declared.event.Action.{Action}
use Rattle.fut_base.specs.declared.event.Action.TheVariants.{Reads, Writes, Spawns, Creates, Syncs, Gets, Ends}
use Rattle.fut_base.specs.Dag.{Among, block_after}
use Rattle.fut_base.specs.Sound.{value_by}
use Rattle.fut_syntax.specs.Trees as tree
use Rattle.task_machine.specs.State.{TaskState}
use Rattle.task_machine.specs.Machine.{Machine, Running, IsStep, acted, child_of}
use Rattle.task_machine.proofs.Making.{acting_task}
use Rattle.task_machine.proofs.Places.{get_below}
use Rattle.access_shards.proofs.Histories.{Stood}
use Rattle.run_laws.proofs.Pasts.{Came, get_after}
use Rattle.clean_laws.specs.Same.{Names, Matched, Wider, SameOption, IsSameState, SameAction}
use Rattle.clean_laws.specs.Closed.{Makes, HasAll, IsDue, IsClosed}
use Rattle.clean_laws.specs.Traces.{events_by, SameTrace}
use Rattle.clean_laws.proofs.Same.{wider_value, wider_action, same_is_wider, effect_is_same}
use Rattle.clean_laws.proofs.Tails.{IsTail, tail_on, stood_head, stood_down, stood_one, tails_compare}
use Rattle.clean_laws.proofs.Walking.{by_on, by_off, unborn_by, has_more, has_at, has_unborn, due_at, closed_more, makes_next, count_step, tasks_grow}
use Rattle.clean_laws.proofs.Paired.{Paired, SameTouch}

abbrev pub SameBlock : Names → List ℕ → List ℕ → Type 0
SameBlock names [] [] = Unit {0}
SameBlock names (c ∷ cs) (d ∷ ds) = Matched names c d × SameBlock names cs ds
SameBlock names [] (d ∷ ds) = ⊥
SameBlock names (c ∷ cs) [] = ⊥

pub record IsSameTask (names : Names) (q r : Running) : Type 0 where
  pub which : q.which ≡ r.which
  pub state : IsSameState (Matched names) q.state r.state
  pub block : SameBlock names q.block r.block
  pub value : SameOption (Matched names) q.value r.value

-- a task of the other run, and its mate after a beginning of the history: of the mate's events those of the beginning are among the
-- places, and no other
pub record Cut (P : tree.Program) (hp gp : List Event) (places : List ℕ) (names : Names) (t : ℕ) (q : Running) : Type 0 where
  pub mate : ℕ
  pub matched : Matched names t mate
  pub older : List Event
  pub tail : IsTail hp older
  pub machine : Machine
  pub came : Came P older machine
  pub task : Running
  pub present : slice_get machine.tasks mate ≡ Some task
  pub same : IsSameTask names q task
  pub all : HasAll places older mate
  pub trace : SameTrace names (events_by t gp) (events_by mate older)
  pub none : (i : ℕ) (d : Event) → length older ≤ i → Stood hp i d → d.task ≡ mate → Among i places → ⊥

-- the events of the other run, up to a machine, are matched with places of the history
pub record IsMatch (P : tree.Program) (hp gp : List Event) (n : Machine) (places : List ℕ) (names : Names) : Type 0 where
  pub paired : Paired hp gp places
  pub closed : IsClosed places hp
  pub tasks : (t : ℕ) (q : Running) → slice_get n.tasks t ≡ Some q → Cut P hp gp places names t q
  pub below : (t u : ℕ) → Matched names t u → t < length n.tasks
  pub mates : (t u v : ℕ) → Matched names t u → Matched names t v → u ≡ v
  pub single : (t s u : ℕ) → Matched names t u → Matched names s u → t ≡ s
  pub made : (i : ℕ) (d : Event) (u : ℕ) → Stood hp i d → Among i places → Makes d.action u → (t : ℕ) × Matched names t u
  pub zero : Matched names 0 0

-- ---- more names

wider_block : (names more : Names) → Wider (Matched names) (Matched more) → (cs ds : List ℕ) → SameBlock names cs ds → SameBlock more cs ds
wider_block names more w [] [] h = tt
wider_block names more w (c ∷ cs) (d ∷ ds) h = (w c d h.0, wider_block names more w cs ds h.1)
wider_block names more w [] (d ∷ ds) h = absurd h
wider_block names more w (c ∷ cs) [] h = absurd h

wider_option : (names more : Names) → Wider (Matched names) (Matched more) → (o p : Option Value) → SameOption (Matched names) o p
    → SameOption (Matched more) o p
wider_option names more w None None h = tt
wider_option names more w (Some x) (Some y) h = wider_value (Matched names) (Matched more) w x y h
wider_option names more w None (Some y) h = absurd h
wider_option names more w (Some x) None h = absurd h

pub wider_task : (names more : Names) → Wider (Matched names) (Matched more) → (q r : Running) → IsSameTask names q r → IsSameTask more q r
wider_task names more w q r h =
    record {
      which = h.which;
      state = same_is_wider names more q.state r.state w h.state;
      block = wider_block names more w q.block r.block h.block;
      value = wider_option names more w q.value r.value h.value;
    }

pub wider_trace : (names more : Names) → Wider (Matched names) (Matched more) → (es ds : List Event) → SameTrace names es ds → SameTrace more es ds
wider_trace names more w [] [] h = tt
wider_trace names more w (e ∷ es) (d ∷ ds) h = (wider_action (Matched names) (Matched more) w e.action d.action h.0, wider_trace names more w es ds h.1)
wider_trace names more w [] (d ∷ ds) h = absurd h
wider_trace names more w (e ∷ es) [] h = absurd h

block_end : (names : Names) (cs ds : List ℕ) (c d : ℕ) → SameBlock names cs ds → Matched names c d → SameBlock names (cs ++ c ∷ []) (ds ++ d ∷ [])
block_end names [] [] c d h m = (m, tt)
block_end names (x ∷ cs) (y ∷ ds) c d h m = (h.0, block_end names cs ds c d h.1 m)
block_end names [] (y ∷ ds) c d h m = absurd h
block_end names (x ∷ cs) [] c d h m = absurd h

same_block_after : (names : Names) (a b : Action) (cs ds : List ℕ) → SameAction (Matched names) a b → SameBlock names cs ds
    → SameBlock names (block_after a cs) (block_after b ds)
same_block_after names (Spawns _ c _ _ _) (Spawns _ d _ _ _) cs ds s h = block_end names cs ds c d h s.1
same_block_after names (Reads _ _) (Reads _ _) cs ds s h = h
same_block_after names (Writes _ _) (Writes _ _) cs ds s h = h
same_block_after names (Creates _ _ _ _ _) (Creates _ _ _ _ _) cs ds s h = h
same_block_after names (Syncs _) (Syncs _) cs ds s h = tt
same_block_after names (Gets _ _ _) (Gets _ _ _) cs ds s h = h
same_block_after names (Ends _) (Ends _) cs ds s h = h
same_block_after names _ _ cs ds s h = absurd s

same_value_by : (names : Names) (a b : Action) (o p : Option Value) → SameAction (Matched names) a b → SameOption (Matched names) o p
    → SameOption (Matched names) (value_by a o) (value_by b p)
same_value_by names (Ends v) (Ends w) o p s h = s
same_value_by names (Reads _ _) (Reads _ _) o p s h = h
same_value_by names (Writes _ _) (Writes _ _) o p s h = h
same_value_by names (Creates _ _ _ _ _) (Creates _ _ _ _ _) o p s h = h
same_value_by names (Spawns _ _ _ _ _) (Spawns _ _ _ _ _) o p s h = h
same_value_by names (Syncs _) (Syncs _) o p s h = h
same_value_by names (Gets _ _ _) (Gets _ _ _) o p s h = h
same_value_by names _ _ o p s h = absurd s

pub same_acted : (names : Names) (q r : Running) (stop at : TaskState) (a b : Action) → IsSameTask names q r → IsSameState (Matched names) stop at
    → SameAction (Matched names) a b → IsSameTask names (acted q stop a) (acted r at b)
same_acted names q r stop at a b h s k =
    record {
      which = h.which;
      state = effect_is_same names stop at a b s k;
      block = same_block_after names a b q.block r.block k h.block;
      value = same_value_by names a b q.value r.value k h.value;
    }

-- ---- a child of the other run and its mate

pub record Born (P : tree.Program) (names : Names) (n m : Machine) (d : Event) (q : Running) : Type 0 where
  pub mate : ℕ
  pub matched : Matched names (length n.tasks) mate
  pub makes : Makes d.action mate
  pub task : Running
  pub present : slice_get m.tasks mate ≡ Some task
  pub same : IsSameTask names q task

-- ---- the step

module _ (P : tree.Program) (hp gp : List Event) (n next : Machine) (e : Event) (step : IsStep P n e next) (places : List ℕ) (names more : Names)
    (x : IsMatch P hp gp n places names)
    (older : List Event) (d : Event) (tail : IsTail hp (d ∷ older)) (m after : Machine) (came_m : Came P older m) (own : IsStep P m d after)
    (matched : Matched names e.task d.task) (all : HasAll places older d.task) (fresh : Among (length older) places → ⊥)
    (none : (i : ℕ) (b : Event) → length older ≤ i → Stood hp i b → b.task ≡ d.task → Among i places → ⊥)
    (due : IsDue places older d) (touch : SameTouch e.action d.action) (wider : Wider (Matched names) (Matched more))
    (trace : SameTrace names (events_by e.task gp) (events_by d.task older)) (action : SameAction (Matched more) e.action d.action) (came_g : Came P gp n)
    (same : IsSameTask more (acted step.task step.stop e.action) (acted own.task own.stop d.action))
    (born : (q : Running) (k : ℕ) → slice_get (child_of P step.task e.action) k ≡ Some q → (k ≡ 0) × Born P more n after d q)
    (pairs : (t u : ℕ) → Matched more t u → Matched names t u ⊎ ((t ≡ length n.tasks) × Makes d.action u × (t < length next.tasks)))
    (makes : (u : ℕ) → Makes d.action u → (t : ℕ) × Matched more t u) where
  here : Stood hp (length older) d
  here = stood_head hp older d tail

  -- the place of d is among the places of no mate that d makes
  none_made : (t u : ℕ) → Matched names t u → Makes d.action u → ⊥
  none_made t u mt mk = by_get (slice_get n.tasks t) refl
    where
      by_cut : (q : Running) → slice_get n.tasks t ≡ Some q → ⊥
      by_cut q is =
          let cut = x.tasks t q is in
          let mate : cut.mate ≡ u = x.mates t cut.mate u cut.matched mt in
          let there : HasAll places cut.older u = subst (HasAll places cut.older) mate cut.all in
          let present : slice_get cut.machine.tasks u ≡ Some cut.task = subst (λ z. slice_get cut.machine.tasks z ≡ Some cut.task) mate cut.present in
          let new : u ≡ length m.tasks = makes_next m own.task d.action u own.permits mk in
          elim (tails_compare hp cut.older (d ∷ older) cut.tail tail) [
            | inl l ↦ fresh (has_at places cut.older u (length older) d there (stood_head cut.older older d l) (inr mk))
            | inr l ↦ elim l [
              | inl s ↦ fresh (has_at places cut.older u (length older) d there (subst (λ z. Stood z (length older) d) s (inl (refl, refl))) (inr mk))
              | inr l ↦
                  (let g = tasks_grow P older cut.older m cut.machine came_m l cut.came in let b =
                  get_below cut.machine.tasks u cut.task present in omega (arith, g, b, new))
            ]
          ]

      by_get : (o : Option Running) → slice_get n.tasks t ≡ o → ⊥
      by_get (Some q) is = by_cut q is
      by_get None is = absent n.tasks t (x.below t u mt) is
        where
          absent : (xs : List Running) (i : ℕ) → i < length xs → slice_get xs i ≡ None → ⊥
          absent [] i lt h = omega (arith, lt)
          absent (y ∷ xs) zero lt h = cc
          absent (y ∷ xs) (suc i) lt h = absent xs i (omega (arith, lt)) h

  old_place : (i : ℕ) → Among i (length older ∷ places) → (length older ≡ i) ⊎ Among i places
  old_place i a = a

  -- after d none of these places has an event of the task
  none_after : (u : ℕ) → ((i : ℕ) (b : Event) → length older ≤ i → Stood hp i b → b.task ≡ u → Among i places → ⊥) → (i : ℕ) (b : Event)
      → length (d ∷ older) ≤ i → Stood hp i b → b.task ≡ u → Among i (length older ∷ places) → ⊥
  none_after u f i b le s t (inl q) = omega (arith, le, q)
  none_after u f i b le s t (inr a) = f i b (omega (arith, le)) s t a

  own_cut : (q : Running) → acted step.task step.stop e.action ≡ q → Cut P hp (e ∷ gp) (length older ∷ places) more e.task q
  own_cut q is =
      record {
        mate = d.task;
        matched = wider e.task d.task matched;
        older = d ∷ older;
        tail = tail;
        machine = after;
        came = (m, came_m, own);
        task = acted own.task own.stop d.action;
        present = acting_task P m d after own;
        same = subst (λ z. IsSameTask more z (acted own.task own.stop d.action)) is same;
        all = (has_more (length older) places older d.task all, λ c. inl refl);
        none = none_after d.task none;
        trace = subst (λ z. SameTrace more z (events_by d.task (d ∷ older))) (sym (by_on e gp e.task refl))
            (subst (λ z. SameTrace more (e ∷ events_by e.task gp) z) (sym (by_on d older d.task refl))
            (action, wider_trace names more wider (events_by e.task gp) (events_by d.task older) trace));
      }

  other_cut : (t : ℕ) (q : Running) → t ≢ e.task → slice_get n.tasks t ≡ Some q → Cut P hp (e ∷ gp) (length older ∷ places) more t q
  other_cut t q ne is =
      let cut = x.tasks t q is in
      record {
        mate = cut.mate;
        matched = wider t cut.mate cut.matched;
        older = cut.older;
        tail = cut.tail;
        machine = cut.machine;
        came = cut.came;
        task = cut.task;
        present = cut.present;
        same = wider_task names more wider q cut.task cut.same;
        all = has_more (length older) places cut.older cut.mate cut.all;
        trace = subst (λ z. SameTrace more z (events_by cut.mate cut.older)) (sym (by_off e gp t (λ k. ne (sym k))))
            (wider_trace names more wider (events_by t gp) (events_by cut.mate cut.older) cut.trace);
        none = λ i b le s tk a. (elim (old_place i a) [
          | inl p ↦
              ne
              (x.single t e.task cut.mate cut.matched
              (subst (Matched names e.task) (ap (λ (z : Event). z.task) (stood_one hp i d b (subst (λ z. Stood hp z d) p here) s) ∙ tk) matched))
          | inr a ↦ cut.none i b le s tk a
        ]);
      }

  child_cut : (t : ℕ) (q : Running) → t ≡ length n.tasks → Born P more n after d q → Cut P hp (e ∷ gp) (length older ∷ places) more t q
  child_cut t q at b =
      let new : b.mate ≡ length m.tasks = makes_next m own.task d.action b.mate own.permits b.makes in
      record {
        mate = b.mate;
        matched = subst (λ z. Matched more z b.mate) (sym at) b.matched;
        older = d ∷ older;
        tail = tail;
        machine = after;
        came = (m, came_m, own);
        task = b.task;
        present = b.present;
        same = b.same;
        all = (has_more (length older) places older b.mate (has_unborn P places older m b.mate came_m (omega (arith, new))), λ c. inl refl);
        trace = subst (λ z. SameTrace more z (events_by b.mate (d ∷ older)))
            (sym
            (by_off e gp t (λ k. (let lt = get_below n.tasks e.task step.task step.present in omega (arith, lt, k, at)))
            ∙ unborn_by P gp n t came_g (omega (arith, at))))
            (subst (λ z. SameTrace more [] z)
            (sym
            (by_off d older b.mate (λ k. (let lt = get_below m.tasks d.task own.task own.present in omega (arith, lt, k, new)))
            ∙ unborn_by P older m b.mate came_m (omega (arith, new)))) tt);
        none = none_after b.mate (λ i y le s tk a. not_there i y le s b.mate tk a b.makes);
      }
    where
      not_there : (i : ℕ) (y : Event) → length older ≤ i → Stood hp i y → (u : ℕ) → y.task ≡ u → Among i places → Makes d.action u → ⊥
      not_there i y le s u tk a mk = later (behind hp i y s)
        where
          behind : (past : List Event) (i : ℕ) (y : Event) → Stood past i y → (rest : List Event) × IsTail past (y ∷ rest) × (length rest ≡ i)
          behind [] i y s = absurd s
          behind (z ∷ past) i y (inl s) = (past, inl (ap (λ w. w ∷ past) s.1), s.0)
          behind (z ∷ past) i y (inr s) = let k = behind past i y s in (k.0, inr k.1, k.2)

          later : (rest : List Event) × IsTail hp (y ∷ rest) × (length rest ≡ i) → ⊥
          later (rest, t, l) = elim (cases_eq (length older) i) [
            | inl q ↦ fresh (subst (λ z. Among z places) (sym q) a)
            | inr ne ↦ (
                let all_of = due_at places hp rest y t x.closed (subst (λ z. Among z places) (sym l) a) in
                let there : Stood rest (length older) d = stood_down hp rest (length older) d (tail_on hp y rest t) here (omega (arith, le, ne, l)) in
                fresh (has_at places rest u (length older) d (subst (HasAll places rest) tk all_of.0) there (inr mk)))
          ]

  one_more : length n.tasks ≤ length next.tasks
  one_more = let k = count_step P n e next step in omega (arith, k)

  pub step_match : IsMatch P hp (e ∷ gp) next (length older ∷ places) more
  step_match =
      record {
        paired = (x.paired, (d, here, touch), fresh, x.closed);
        closed = closed_more places hp older d tail x.closed due;
        tasks =
            λ t q is.
            (elim (get_after n.tasks (child_of P step.task e.action) e.task (acted step.task step.stop e.action) step.task step.present t q
            (subst (λ (z : Machine). slice_get z.tasks t ≡ Some q) step.gives is)) [
              | inl o ↦ subst (λ z. Cut P hp (e ∷ gp) (length older ∷ places) more z q) (sym o.0) (own_cut q o.1)
              | inr o ↦ elim o [
                | inl o ↦ other_cut t q o.0 o.1
                | inr b ↦ (let k = born q b.0 b.2 in child_cut t q (at_end b.0 b.1 k.0) k.1)
              ]
            ]);
        below = λ t u k. (elim (pairs t u k) [ inl o ↦ (let b = x.below t u o in omega (arith, b, one_more)) | inr o ↦ o.2 ]);
        mates = λ t u v a b. two_mates t u v (pairs t u a) (pairs t v b);
        single = λ t s u a b. one_mate t s u (pairs t u a) (pairs s u b);
        made = λ i y u s a mk. (elim (old_place i a) [
          | inl p ↦ makes u (subst (λ (z : Event). Makes z.action u) (stood_one hp i y d s (subst (λ z. Stood hp z d) p here)) mk)
          | inr a ↦ (let k = x.made i y u s a mk in (k.0, wider k.0 u k.1))
        ]);
        zero = wider 0 0 x.zero;
      }
    where
      at_end : {t : ℕ} (k : ℕ) → t ≡ length n.tasks + k → k ≡ 0 → t ≡ length n.tasks
      at_end k at z = omega (arith, at, z)

      two_mates : (t u v : ℕ) → Matched names t u ⊎ ((t ≡ length n.tasks) × Makes d.action u × (t < length next.tasks))
          → Matched names t v ⊎ ((t ≡ length n.tasks) × Makes d.action v × (t < length next.tasks)) → u ≡ v
      two_mates t u v (inl a) (inl b) = x.mates t u v a b
      two_mates t u v (inl a) (inr b) = absurd (let k = x.below t u a in omega (arith, k, b.0))
      two_mates t u v (inr a) (inl b) = absurd (let k = x.below t v b in omega (arith, k, a.0))
      two_mates t u v (inr a) (inr b) = makes_next m own.task d.action u own.permits a.1 ∙ sym (makes_next m own.task d.action v own.permits b.1)

      one_mate : (t s u : ℕ) → Matched names t u ⊎ ((t ≡ length n.tasks) × Makes d.action u × (t < length next.tasks))
          → Matched names s u ⊎ ((s ≡ length n.tasks) × Makes d.action u × (s < length next.tasks)) → t ≡ s
      one_mate t s u (inl a) (inl b) = x.single t s u a b
      one_mate t s u (inl a) (inr b) = absurd (none_made t u a b.1)
      one_mate t s u (inr a) (inl b) = absurd (none_made s u b a.1)
      one_mate t s u (inr a) (inr b) = a.0 ∙ sym b.0

-- The seats after a step, and after a task has gone to wait.
use Rattle.std.proofs.Common.{◌≡◌, ◌↔◌, ℕ, zero, suc, ◌<◌, ◌≤◌, List, [], length, inl, inr, refl, sym, ap, ◌∙◌, subst, arith}
use Rattle.std.specs.Prelude.{Option, Some, None, option_and_then, slice_get}
use Rattle.fut_base.specs.declared.record.Value.{Value}
use Rattle.fut_base.specs.Dag.{Among}
use Rattle.fut_syntax.specs.Trees as tree
use Rattle.task_machine.specs.Machine.{Machine, Running, ended_with}
use Rattle.task_machine.proofs.Places.{get_below}
use Rattle.strand_laws.proofs.Places.{same_or_not}
use Rattle.fut_engine.specs.declared.seat.Seat.{Seat}
use Rattle.fut_engine.specs.Seats.{value_at, parent_at, went_for, waits_by, waits_for, while_none, new_seat, put_in}
use Rattle.fut_engine.specs.Wholes.{IsOnce, unended, sitter, IsSeat, AreSeated}
use Rattle.fut_engine.proofs.Lists.{get_none, get_some, low_or_high}

-- ---- reading a seat

abbrev pub waits_in : Option Seat → Option (Option ℕ)
waits_in o = option_and_then (λ (s : Seat). s.waits) o

abbrev pub parent_in : Option Seat → Option ℕ
parent_in o = option_and_then (λ (s : Seat). s.parent) o

abbrev pub value_in : Option Seat → Option Value
value_in o = option_and_then (λ (s : Seat). s.awaited.value) o

abbrev pub waiting_in : List Seat → Option Seat → Option (Option ℕ)
waiting_in seats o = option_and_then (λ (s : Seat). waits_by seats s.children.count s.waits) o

-- a task that waits for nothing
module _ (seats : List Seat) (t : ℕ) (s : Seat) (at : slice_get seats t ≡ Some s) (free : waits_for seats t ≡ None) where
  pub free_by : waits_by seats s.children.count s.waits ≡ None
  free_by = sym (ap (waiting_in seats) at) ∙ free

  -- it did not go to wait for a task that has not ended
  pub free_went : (u : ℕ) → value_at seats u ≡ None → went_for seats t ≡ Some (Some u) → ⊥
  free_went u none went =
      let is : s.waits ≡ Some (Some u) = sym (ap waits_in at) ∙ went in
      let b : while_none u (value_at seats u) ≡ None = sym (ap (waits_by seats s.children.count) is) ∙ free_by in
      let c : Some (Some u) ≡ None = sym (ap (while_none u) none) ∙ b in
      cc

pub free_sits : (seats : List Seat) (t count : ℕ) (w : Option (Option ℕ)) → waits_by seats count w ≡ None → sitter t count w ≡ None
free_sits seats t count None h = refl
free_sits seats t count (Some (Some f)) h = refl
free_sits seats t zero (Some None) h = refl
free_sits seats t (suc c) (Some None) h = cc

-- ---- what is known of all tasks

module _ (P : tree.Program) (m : Machine) (seats : List Seat) (a : AreSeated P m seats) where
  pub seat_of : (t : ℕ) (r : Running) → slice_get m.tasks t ≡ Some r → (s : Seat) × (slice_get seats t ≡ Some s) × IsSeat P m seats t r s
  seat_of t r is =
      let size = a.size in
      let lt = get_below m.tasks t r is in
      let s = get_some seats t (omega (arith, size, lt)) in
      (s.0, s.1, a.each t r s.0 is s.1)

  pub task_of : (t : ℕ) (s : Seat) → slice_get seats t ≡ Some s → (r : Running) × (slice_get m.tasks t ≡ Some r) × IsSeat P m seats t r s
  task_of t s is =
      let size = a.size in
      let lt = get_below seats t s is in
      let r = get_some m.tasks t (omega (arith, size, lt)) in
      (r.0, r.1, a.each t r.0 s r.1 is)

  values : (t : ℕ) → (o : Option Running) → slice_get m.tasks t ≡ o → value_at seats t ≡ ended_with m t
  values t (Some r) is = let s = seat_of t r is in ap value_in s.1 ∙ (s.2.value ∙ sym (ap (λ o. option_and_then (λ (q : Running). q.value) o) is))
  values t None is =
      elim (low_or_high t (length m.tasks)) [
        | inl lt ↦ absurd (let r = get_some m.tasks t lt in let k : None ≡ Some r.0 = sym is ∙ r.1 in cc)
        | inr k ↦ (
            let size = a.size in
            let at = k.1 in
            ap value_in (get_none seats t (omega (arith, size, at))) ∙ sym (ap (λ o. option_and_then (λ (q : Running). q.value) o) is))
      ]

  -- the value of a seat is that with which its task has ended
  pub values_are : (t : ℕ) → value_at seats t ≡ ended_with m t
  values_are t = values t (slice_get m.tasks t) refl

-- ---- changes that leave a task where it is

-- parents are kept, and a task that has not ended stays in the block of its parent
pub record Shift (m n : Machine) (seats new : List Seat) : Type 0 where
  pub parents : (c p : ℕ) → parent_at seats c ≡ Some p → parent_at new c ≡ Some p
  pub blocks : (p c : ℕ) (q : Running) → slice_get m.tasks p ≡ Some q → Among c q.block → ended_with n c ≡ None
      → (k : Running) × (slice_get n.tasks p ≡ Some k) × Among c k.block

abbrev pub SameWent : List Seat → List Seat → ℕ → Type 0
SameWent seats new u = (w : ℕ) → (went_for new w ≡ Some (Some u)) ↔ (went_for seats w ≡ Some (Some u))

-- no other task has gone to wait, and this one waits for none
pub record Freed (seats new : List Seat) (t : ℕ) : Type 0 where
  pub went : (w : ℕ) → (w ≡ t → ⊥) → went_for new w ≡ went_for seats w
  pub gone : went_for new t ≡ None

pub same_went : (seats new : List Seat) (t : ℕ) (s : Seat) → slice_get seats t ≡ Some s → waits_for seats t ≡ None → Freed seats new t → (u : ℕ)
    → value_at seats u ≡ None → SameWent seats new u
same_went seats new t s at free k u none w =
    elim (same_or_not w t) [
      | inl same ↦ (
        (λ e. absurd (let no : went_for new w ≡ None = ap (went_for new) same ∙ k.gone in let bad : None ≡ Some (Some u) = sym no ∙ e in cc)),
        (λ e. absurd (free_went seats t s at free u none (sym (ap (went_for seats) same) ∙ e))),
      )
      | inr other ↦ (
        (λ e. sym (k.went w other) ∙ e),
        (λ e. k.went w other ∙ e),
      )
    ]

module _ (P : tree.Program) (m n : Machine) (seats new : List Seat) (k : Shift m n seats new) (u : ℕ) where
  pub stays : (q : Running) (z y : Seat) → IsSeat P m seats u q z → y.parent ≡ z.parent → y.awaited ≡ z.awaited → y.waits ≡ z.waits
      → y.children.count ≡ unended n q.block
      → y.children.waiter ≡ sitter u y.children.count y.waits → (q.value ≡ None → ended_with n u ≡ None) → (q.value ≡ None → SameWent seats new u)
      → IsSeat P n new u q y
  stays q z y x pa aw wa cnt wt live went =
      record {
        value = ap (λ a. a.value) aw ∙ x.value;
        count = cnt;
        once = x.once;
        own = λ c i. k.parents c u (x.own c i);
        held = λ p is run. (let h = x.held p (sym pa ∙ is) run in k.blocks p u h.0 h.1 h.2 (live run));
        future = x.future;
        child = λ p is. x.child p (sym pa ∙ is);
        wants = λ o is. x.wants o (sym wa ∙ is);
        waiter = wt;
        awaits = λ w run. (
          (λ i. (went run w).1 ((x.awaits w run).0 (subst (λ a. Among w a.waiters) aw i))),
          (λ e. subst (λ a. Among w a.waiters) (sym aw) ((x.awaits w run).1 ((went run w).0 e))),
        );
        each_once = subst (λ a. IsOnce a.waiters) (sym aw) x.each_once;
      }

  -- the task that acts, and does not end
  pub acts : (r q : Running) (z y : Seat) → IsSeat P m seats u r z → y.parent ≡ z.parent → y.awaited ≡ z.awaited → y.waits ≡ None → y.children.waiter ≡ None
      → r.value ≡ None → q.value ≡ None → q.future ≡ r.future
      → y.children.count ≡ unended n q.block → IsOnce q.block → ((c : ℕ) → Among c q.block → parent_at new c ≡ Some u) → ended_with n u ≡ None
      → SameWent seats new u → IsSeat P n new u q y
  acts r q z y x pa aw wa wt run still fut cnt once own live went =
      record {
        value = ap (λ a. a.value) aw ∙ (x.value ∙ (run ∙ sym still));
        count = cnt;
        once = once;
        own = own;
        held = λ p is _. (let h = x.held p (sym pa ∙ is) run in k.blocks p u h.0 h.1 h.2 live);
        future = (let le = x.future in omega (arith, le, fut));
        child = λ p is. (let h = x.child p (sym pa ∙ is) in let lt = h.1 in (h.0, omega (arith, lt, fut)));
        wants = λ o is. absurd (let bad : None ≡ Some o = sym wa ∙ is in cc);
        waiter = wt ∙ sym (ap (sitter u y.children.count) wa);
        awaits = λ w _. (
          (λ i. (went w).1 ((x.awaits w run).0 (subst (λ a. Among w a.waiters) aw i))),
          (λ e. subst (λ a. Among w a.waiters) (sym aw) ((x.awaits w run).1 ((went w).0 e))),
        );
        each_once = subst (λ a. IsOnce a.waiters) (sym aw) x.each_once;
      }

  -- the task that ends
  pub ends : (r q : Running) (v : Value) (z : Seat) → IsSeat P m seats u r z → z.children.waiter ≡ None → q.value ≡ Some v → q.future ≡ r.future
      → q.block ≡ r.block → unended n q.block ≡ unended m r.block → IsSeat P n new u q (put_in v z)
  ends r q v z x wt ended fut block cnt =
      record {
        value = sym ended;
        count = x.count ∙ sym cnt;
        once = subst IsOnce (sym block) x.once;
        own = λ c i. k.parents c u (x.own c (subst (Among c) block i));
        held = λ p is run. absurd (let bad : None ≡ Some v = sym run ∙ ended in cc);
        future = (let le = x.future in omega (arith, le, fut));
        child = λ p is. (let h = x.child p is in let lt = h.1 in (h.0, omega (arith, lt, fut)));
        wants = λ o is. absurd (let bad : None ≡ Some o = is in cc);
        waiter = wt;
        awaits = λ w run. absurd (let bad : None ≡ Some v = sym run ∙ ended in cc);
        each_once = tt;
      }

  -- a task that begins
  pub newborn : (q : Running) (parent : Option ℕ) → q.value ≡ None → q.block ≡ [] → q.future ≤ u
      → ((p : ℕ) → parent ≡ Some p → (p < u) × (q.future < u) × ((z : Running) × (slice_get n.tasks p ≡ Some z) × Among u z.block))
      → ((w : ℕ) → went_for new w ≡ Some (Some u) → ⊥) → IsSeat P n new u q (new_seat parent)
  newborn q parent run block fut child went =
      record {
        value = sym run;
        count = sym (ap (unended n) block);
        once = subst IsOnce (sym block) tt;
        own = λ c i. absurd (subst (Among c) block i);
        held = λ p is _. (child p is).2;
        future = fut;
        child = λ p is. (let h = child p is in (h.0, h.1));
        wants = λ o is. absurd (let bad : None ≡ Some o = is in cc);
        waiter = refl;
        awaits = λ w _. ((λ i. absurd i), (λ e. absurd (went w e)));
        each_once = tt;
      }

-- The seats after a step that ends no task.
use Rattle.std.proofs.Common.{◌≡◌, ℕ, ◌+◌, ◌<◌, ◌≤◌, List, ◌++◌, length, inl, inr, refl, sym, ap, ◌∙◌, subst, arith, length-append}
use Rattle.std.specs.Prelude.{Option, Some, None, option_and_then, slice_get, slice_set}
use Rattle.fut_base.specs.declared.event.Event.{Event}
use Rattle.fut_base.specs.Dag.{Among}
use Rattle.fut_syntax.specs.Trees as tree
use Rattle.task_machine.specs.Machine.{Machine, Running, opening, acted, child_of, ended_with, IsStep, Leads}
use Rattle.task_machine.proofs.Making.{acting_task, others_stay}
use Rattle.task_machine.proofs.Places.{get_below}
use Rattle.strand_laws.proofs.Places.{same_or_not}
use Rattle.run_replay.proofs.Lining.{set_length, get_set_here}
use Rattle.fut_engine.specs.declared.seat.Seat.{Seat}
use Rattle.fut_engine.specs.Seats.{value_at, parent_at, went_for, waits_for}
use Rattle.fut_engine.specs.Wholes.{IsOnce, unended, IsSeat, AreSeated}
use Rattle.fut_engine.proofs.Lists.{some_same, set_else, append_low, append_high, get_none, low_or_high}
use Rattle.fut_engine.proofs.Steps.{places, ended_else, ran, unended_same, future_is}
use Rattle.fut_engine.proofs.Seating.{waits_in, parent_in, free_by, free_sits, task_of, values_are, Shift, SameWent, Freed, same_went, stays, acts}

-- ---- a change of one seat, with others behind

-- a seat was changed, and seats were added behind
pub record Changed (old : List Seat) (t : ℕ) (y : Seat) (extra new : List Seat) : Type 0 where
  pub here : slice_get new t ≡ Some y
  pub there : (u : ℕ) → (u ≡ t → ⊥) → u < length old → slice_get new u ≡ slice_get old u
  pub behind : (k : ℕ) → slice_get new (length old + k) ≡ slice_get extra k
  pub size : length new ≡ length old + length extra

pub changed : (old : List Seat) (t : ℕ) (s y : Seat) (extra new : List Seat) → slice_get old t ≡ Some s → new ≡ slice_set old t y ++ extra
    → Changed old t y extra new
changed old t s y extra new at is =
    let lt : t < length old = get_below old t s at in
    let set : length (slice_set old t y) ≡ length old = set_length old t y in
    let low : (u : ℕ) → u < length old → slice_get new u ≡ slice_get (slice_set old t y) u =
    λ u less. ap (λ l. slice_get l u) is ∙ append_low (slice_set old t y) extra u (omega (arith, set, less)) in
    record {
      here = low t lt ∙ get_set_here old t y lt;
      there = λ u other less. low u less ∙ set_else old t y u other;
      behind = λ k. ap (λ l. slice_get l (length old + k)) is
          ∙ (ap (λ j. slice_get (slice_set old t y ++ extra) (j + k)) (sym set) ∙ append_high (slice_set old t y) extra k);
      size = ap length is ∙ (length-append (slice_set old t y) extra ∙ ap (λ j. j + length extra) set);
    }

-- where the added seats wait for nothing, and the changed one doesn't, nobody has gone to wait
pub changed_frees : (old : List Seat) (t : ℕ) (y : Seat) (extra new : List Seat) → Changed old t y extra new → y.waits ≡ None
    → ((k : ℕ) → waits_in (slice_get extra k) ≡ None) → t < length old → Freed old new t
changed_frees old t y extra new c wa quiet lt =
    record {
      went = λ w other. elim (low_or_high w (length old)) [
        | inl less ↦ ap waits_in (c.there w other less)
        | inr k ↦ (
            let high : length old ≤ w = (let e = k.1 in omega (arith, e)) in
            ap (λ j. went_for new j) k.1 ∙ (ap waits_in (c.behind k.0) ∙ (quiet k.0 ∙ sym (ap waits_in (get_none old w high)))))
      ];
      gone = ap waits_in c.here ∙ wa;
    }

-- parents stay
pub changed_parents : (old : List Seat) (t : ℕ) (s y : Seat) (extra new : List Seat) → Changed old t y extra new → slice_get old t ≡ Some s
    → y.parent ≡ s.parent → (c p : ℕ) → parent_at old c ≡ Some p → parent_at new c ≡ Some p
changed_parents old t s y extra new k at pa c p is =
    elim (same_or_not c t) [
      | inl same ↦ (ap (parent_at new) same ∙ (ap parent_in k.here ∙ (pa ∙ (sym (ap parent_in at) ∙ (sym (ap (parent_at old) same) ∙ is)))))
      | inr other ↦ elim (low_or_high c (length old)) [
        | inl less ↦ ap parent_in (k.there c other less) ∙ is
        | inr j ↦ absurd (
            let high : length old ≤ c = (let e = j.1 in omega (arith, e)) in
            let bad : None ≡ Some p = sym (ap parent_in (get_none old c high)) ∙ is in
            cc)
      ]
    ]

-- ---- a step that ends no task

-- what such a step does to the task and the seat of the one that acts, and to the tasks that it begins
pub record Acts (P : tree.Program) (m n : Machine) (e : Event) (step : IsStep P m e n) (seats new : List Seat) (s y : Seat) (extra : List Seat) : Type 0 where
  pub is : new ≡ slice_set seats e.task y ++ extra
  pub parent : y.parent ≡ s.parent
  pub awaited : y.awaited ≡ s.awaited
  pub waits : y.waits ≡ None
  pub waiter : y.children.waiter ≡ s.children.waiter
  pub runs : (acted step.task step.stop e.action).value ≡ None
  pub same : ended_with n e.task ≡ ended_with m e.task
  pub count : y.children.count ≡ unended n (acted step.task step.stop e.action).block
  pub once : IsOnce (acted step.task step.stop e.action).block
  pub own : (c : ℕ) → Among c (acted step.task step.stop e.action).block → parent_at new c ≡ Some e.task
  pub keeps : (c : ℕ) → Among c step.task.block → ended_with n c ≡ None → Among c (acted step.task step.stop e.action).block
  pub begins : length extra ≡ length (child_of P step.task e.action)
  pub quiet : (k : ℕ) → waits_in (slice_get extra k) ≡ None

module _ (P : tree.Program) (h : List Event) (m n : Machine) (e : Event) (step : IsStep P m e n) (l : Leads P (opening P) h m) (seats new : List Seat)
    (a : AreSeated P m seats) (s y : Seat) (extra : List Seat)
    (at : slice_get seats e.task ≡ Some s) (free : waits_for seats e.task ≡ None) (x : Acts P m n e step seats new s y extra) where
  kit : Changed seats e.task y extra new
  kit = changed seats e.task s y extra new at x.is

  lies : e.task < length seats
  lies = get_below seats e.task s at

  freed_now : Freed seats new e.task
  freed_now = changed_frees seats e.task y extra new kit x.waits x.quiet lies

  pub ended_same : (u : ℕ) → ended_with n u ≡ ended_with m u
  ended_same u =
      elim (same_or_not u e.task) [ inl same ↦ ap (ended_with n) same ∙ (x.same ∙ sym (ap (ended_with m) same)) | inr other ↦ ended_else P m e n step u other ]

  pub shift : Shift m n seats new
  shift =
      record {
        parents = changed_parents seats e.task s y extra new kit at x.parent;
        blocks = λ p c q present among live. elim (same_or_not p e.task) [
          | inl same ↦ (
              let own : q ≡ step.task = some_same q step.task (sym present ∙ (ap (slice_get m.tasks) same ∙ step.present)) in (
                acted step.task step.stop e.action,
                ap (slice_get n.tasks) same ∙ acting_task P m e n step,
                x.keeps c (subst (λ (z : Running). Among c z.block) own among) live,
              ))
          | inr other ↦ (q, others_stay P m e n p q step other present, among)
        ];
      }

  went : (u : ℕ) → value_at seats u ≡ None → SameWent seats new u
  went u none = same_went seats new e.task s at free freed_now u none

  -- nobody has gone to wait for a task that is new
  pub none_for_new : (k w : ℕ) → went_for new w ≡ Some (Some (length m.tasks + k)) → ⊥
  none_for_new k w is =
      elim (same_or_not w e.task) [
        | inl same ↦ (let bad : None ≡ Some (Some (length m.tasks + k)) = sym freed_now.gone ∙ (sym (ap (went_for new) same) ∙ is) in cc)
        | inr other ↦ (
            let old : went_for seats w ≡ Some (Some (length m.tasks + k)) = sym (freed_now.went w other) ∙ is in
            by w (slice_get seats w) refl old)
      ]
    where
      by : (w : ℕ) (o : Option Seat) → slice_get seats w ≡ o → went_for seats w ≡ Some (Some (length m.tasks + k)) → ⊥
      by w None at old = (let bad : None ≡ Some (Some (length m.tasks + k)) = sym (ap waits_in at) ∙ old in cc)
      by w (Some z) at old =
          let r = task_of P m seats a w z at in
          let f = future_is P m w r.0 r.1 h l (length m.tasks + k) (r.2.wants (Some (length m.tasks + k)) (sym (ap waits_in at) ∙ old)) in
          let lt = get_below m.tasks (length m.tasks + k) f.0 f.1 in
          absurd (omega (arith, lt))

  -- the seats after such a step, where those of the tasks that begin are right
  pub acts_on :
      ((k : ℕ) (q : Running) (z : Seat) → slice_get (child_of P step.task e.action) k ≡ Some q → slice_get extra k ≡ Some z
      → IsSeat P n new (length m.tasks + k) q z) → length n.tasks ≡ length m.tasks + length (child_of P step.task e.action) → AreSeated P n new
  acts_on fresh more =
      record {
        size = (let one = kit.size in let two = a.size in let three = x.begins in omega (arith, one, two, three, more));
        each = λ u q z there seat. elim (places P m e n step u q there) [
          | inl own ↦ (
              let same : y ≡ z = some_same y z (sym kit.here ∙ (sym (ap (slice_get new) own.0) ∙ seat)) in
              let old = a.each e.task step.task s step.present at in
              subst (λ v. IsSeat P n new v q z) (sym own.0)
              (subst (λ v. IsSeat P n new e.task q v) same
              (subst (λ v. IsSeat P n new e.task v y) own.1
              (acts P m n seats new shift e.task step.task (acted step.task step.stop e.action) s y old x.parent x.awaited x.waits
              (x.waiter ∙ (old.waiter ∙ free_sits seats e.task s.children.count s.waits (free_by seats e.task s at free)))
              step.running x.runs refl x.count x.once x.own (x.same ∙ ran P m e n step) (went e.task (values_are P m seats a e.task ∙ ran P m e n step))))))
          | inr more ↦ elim more [
            | inl old ↦ (
                let size = a.size in
                let lt = get_below m.tasks u q old.1 in
                let before : slice_get seats u ≡ Some z = sym (kit.there u old.0 (omega (arith, size, lt))) ∙ seat in
                let k = a.each u q z old.1 before in
                let count = unended_same m n q.block (λ c _. ended_same c) in
                stays P m n seats new shift u q z z k refl refl refl (k.count ∙ sym count) k.waiter
                (λ run. ended_same u ∙ (ap (λ o. option_and_then (λ (r : Running). r.value) o) old.1 ∙ run))
                (λ run. went u (values_are P m seats a u ∙ (ap (λ o. option_and_then (λ (r : Running). r.value) o) old.1 ∙ run))))
            | inr new_one ↦ (
                let size = a.size in
                let here : slice_get extra new_one.0 ≡ Some z =
                sym (kit.behind new_one.0) ∙ (ap (λ j. slice_get new (j + new_one.0)) size ∙ (sym (ap (slice_get new) new_one.1) ∙ seat)) in
                subst (λ v. IsSeat P n new v q z) (sym new_one.1) (fresh new_one.0 q z new_one.2 here))
          ]
        ];
      }

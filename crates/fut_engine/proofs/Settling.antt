-- The seats after each action that ends no task.
use Rattle.std.proofs.Common.{◌≡◌, ℕ, zero, suc, ◌+◌, ◌<◌, List, [], ◌∷◌, ◌++◌, length, inl, inr, refl, sym, ap, ◌∙◌, subst, arith, length-append}
use Rattle.std.specs.Prelude.{Option, Some, None, IsSome, is_some, option_and_then, slice_get, slice_set}
use Rattle.std.proofs.lemmas.Bool.{false≢true}
use Rattle.std.proofs.lemmas.List.{append-nil}
use Rattle.fut_base.specs.declared.record.Value.{Value}
use Rattle.fut_base.specs.declared.event.Event.{Event}
use Rattle.fut_base.specs.declared.event.Action.TheVariants.{Spawns, Creates, Syncs}
use Rattle.fut_base.specs.Dag.{Among, block_after}
use Rattle.fut_base.specs.Sound.{value_by}
use Rattle.fut_syntax.specs.Trees as tree
use Rattle.task_machine.specs.Machine.{Machine, Running, opening, begins, acted, child_of, ended_with, AllHaveEnded, Permits, IsStep, Leads}
use Rattle.task_machine.proofs.Making.{acting_task}
use Rattle.task_machine.proofs.Places.{get_below}
use Rattle.strand_laws.proofs.Places.{same_or_not, among_or, among_left, among_right}
use Rattle.run_replay.proofs.Lining.{set_length}
use Rattle.fut_engine.specs.declared.seat.Seat.{Seat}
use Rattle.fut_engine.specs.Seats.{parent_at, went_for, waits_for, new_seat, freed, begun}
use Rattle.fut_engine.specs.Wholes.{IsOnce, still, unended, IsSeat, AreSeated}
use Rattle.fut_engine.proofs.Lists.{some_same, get_none, once_snoc}
use Rattle.fut_engine.proofs.Steps.{ended_else, ended_own, ran, unended_same, unended_more, none_unended}
use Rattle.fut_engine.proofs.Seating.{waits_in, parent_in, Shift, newborn}
use Rattle.fut_engine.proofs.Changing.{changed, changed_parents, Acts, shift, none_for_new, acts_on}

all_among : (m : Machine) (cs : List ℕ) (c : ℕ) → AllHaveEnded m cs → Among c cs → IsSome (ended_with m c)
all_among m [] c all i = absurd i
all_among m (d ∷ cs) c all (inl same) = subst (λ z. IsSome (ended_with m z)) same all.0
all_among m (d ∷ cs) c all (inr i) = all_among m cs c all.1 i

module _ (P : tree.Program) (h : List Event) (m n : Machine) (e : Event) (step : IsStep P m e n) (l : Leads P (opening P) h m) (seats new : List Seat)
    (a : AreSeated P m seats) (s : Seat)
    (at : slice_get seats e.task ≡ Some s) (free : waits_for seats e.task ≡ None) where
  old : IsSeat P m seats e.task step.task s
  old = a.each e.task step.task s step.present at

  ended_all : value_by e.action step.task.value ≡ step.task.value → (u : ℕ) → ended_with n u ≡ ended_with m u
  ended_all keeps u =
      elim (same_or_not u e.task) [
        | inl same ↦ ap (ended_with n) same ∙ (ended_own P m e n step ∙ (keeps ∙ (step.running ∙ (sym (ran P m e n step) ∙ sym (ap (ended_with m) same)))))
        | inr other ↦ ended_else P m e n step u other
      ]

  more : (kids : List Running) → child_of P step.task e.action ≡ kids → length n.tasks ≡ length m.tasks + length (child_of P step.task e.action)
  more kids is =
      ap (λ (z : Machine). length z.tasks) step.gives
      ∙
      (length-append (slice_set m.tasks e.task (acted step.task step.stop e.action)) (child_of P step.task e.action)
      ∙ ap (λ j. j + length (child_of P step.task e.action)) (set_length m.tasks e.task (acted step.task step.stop e.action)))

  -- a step that makes this block, and begins these tasks
  moved : (y : Seat) (extra : List Seat) (block : List ℕ) (kids : List Running) → new ≡ slice_set seats e.task y ++ extra → y.parent ≡ s.parent
      → y.awaited ≡ s.awaited → y.waits ≡ None → y.children.waiter ≡ s.children.waiter
      → value_by e.action step.task.value ≡ step.task.value → block_after e.action step.task.block ≡ block → child_of P step.task e.action ≡ kids
      → y.children.count ≡ unended n block → IsOnce block
      → ((c : ℕ) → Among c block → parent_at new c ≡ Some e.task) → ((c : ℕ) → Among c step.task.block → ended_with n c ≡ None → Among c block)
      → length extra ≡ length kids → ((k : ℕ) → waits_in (slice_get extra k) ≡ None)
      →
      (Shift m n seats new → ((k w : ℕ) → went_for new w ≡ Some (Some (length m.tasks + k)) → ⊥) → (k : ℕ) (q : Running) (z : Seat)
      → slice_get kids k ≡ Some q → slice_get extra k ≡ Some z → IsSeat P n new (length m.tasks + k) q z)
      → AreSeated P n new
  moved y extra block kids is pa aw wa wt keeps blk kid cnt once own stay size quiet fresh =
      let x : Acts P m n e step seats new s y extra =
      record {
        is = is;
        parent = pa;
        awaited = aw;
        waits = wa;
        waiter = wt;
        runs = keeps ∙ step.running;
        same = ended_all keeps e.task;
        count = cnt ∙ sym (ap (unended n) blk);
        once = subst IsOnce (sym blk) once;
        own = λ c i. own c (subst (Among c) blk i);
        keeps = λ c i live. subst (Among c) (sym blk) (stay c i live);
        begins = size ∙ sym (ap length kid);
        quiet = quiet;
      } in
      acts_on P h m n e step l seats new a s y extra at free x
      (λ k q z there seat. fresh (shift P h m n e step l seats new a s y extra at free x)
      (none_for_new P h m n e step l seats new a s y extra at free x) k q z (subst (λ (ks : List Running). slice_get ks k ≡ Some q) kid there) seat)
      (more kids kid)

  parents : (y : Seat) (extra : List Seat) → new ≡ slice_set seats e.task y ++ extra → y.parent ≡ s.parent → (c p : ℕ) → parent_at seats c ≡ Some p
      → parent_at new c ≡ Some p
  parents y extra is pa = changed_parents seats e.task s y extra new (changed seats e.task s y extra new at is) at pa

  count_same : value_by e.action step.task.value ≡ step.task.value → s.children.count ≡ unended n step.task.block
  count_same keeps = old.count ∙ sym (unended_same m n step.task.block (λ c _. ended_all keeps c))

  -- a step that changes no block and begins no task
  pub plain : new ≡ slice_set seats e.task (freed s) → value_by e.action step.task.value ≡ step.task.value
      → block_after e.action step.task.block ≡ step.task.block → child_of P step.task e.action ≡ [] → AreSeated P n new
  plain is keeps blk kid =
      let same : new ≡ slice_set seats e.task (freed s) ++ [] = is ∙ sym (append-nil _) in
      moved (freed s) [] step.task.block [] same refl refl refl refl keeps blk kid (count_same keeps) old.once
      (λ c i. parents (freed s) [] same refl c e.task (old.own c i)) (λ c i _. i) refl (λ k. refl)
      (λ k none j q z there seat. absurd (let bad : None ≡ Some q = there in cc))

  -- a sync empties the block
  pub synced : new ≡ slice_set seats e.task (freed s) → (strand : ℕ) → e.action ≡ Syncs strand → AreSeated P n new
  synced is strand does =
      let same : new ≡ slice_set seats e.task (freed s) ++ [] = is ∙ sym (append-nil _) in
      let keeps = ap (λ b. value_by b step.task.value) does in
      let may = subst (λ b. Permits m step.task b) does step.permits in
      moved (freed s) [] [] [] same refl refl refl refl keeps (ap (λ b. block_after b step.task.block) does) (ap (child_of P step.task) does)
      (old.count ∙ none_unended m step.task.block may.1) tt
      (λ c i. absurd i)
      (λ c i live. absurd (false≢true (ap (λ (o : Option Value). is_some o) (sym live ∙ ended_all keeps c) ∙ all_among m step.task.block c may.1 i)))
      refl (λ k. refl)
      (λ k none j q z there seat. absurd (let bad : None ≡ Some q = there in cc))

  low : e.task < length m.tasks
  low = get_below m.tasks e.task step.task step.present

  quiet_one : (p : Option ℕ) (k : ℕ) → waits_in (slice_get (new_seat p ∷ []) k) ≡ None
  quiet_one p zero = refl
  quiet_one p (suc k) = refl

  -- a create begins a future
  pub created : new ≡ slice_set seats e.task (freed s) ++ new_seat None ∷ [] → (code child kid cont : ℕ) (args : List Value)
      → e.action ≡ Creates code child kid cont args → AreSeated P n new
  created is code child kid cont args does =
      let keeps = ap (λ b. value_by b step.task.value) does in
      let may = subst (λ b. Permits m step.task b) does step.permits in
      moved (freed s) (new_seat None ∷ []) step.task.block (begins P code args kid child ∷ []) is refl refl refl refl keeps
      (ap (λ b. block_after b step.task.block) does) (ap (child_of P step.task) does) (count_same keeps) old.once
      (λ c i. parents (freed s) (new_seat None ∷ []) is refl c e.task (old.own c i)) (λ c i _. i) refl (quiet_one None) (fresh may.0)
    where
      fresh : child ≡ length m.tasks → Shift m n seats new → ((k w : ℕ) → went_for new w ≡ Some (Some (length m.tasks + k)) → ⊥)
          → (k : ℕ) (q : Running) (z : Seat) → slice_get (begins P code args kid child ∷ []) k ≡ Some q → slice_get (new_seat None ∷ []) k ≡ Some z
          → IsSeat P n new (length m.tasks + k) q z
      fresh number k none zero q z there seat =
          subst (λ y. IsSeat P n new (length m.tasks + zero) q y) (some_same (new_seat None) z seat)
          (subst (λ y. IsSeat P n new (length m.tasks + zero) y (new_seat None)) (some_same (begins P code args kid child) q there)
          (newborn P m n seats new k (length m.tasks + zero) (begins P code args kid child) None refl refl (omega (arith, number))
          (λ p bad. absurd (let no : None ≡ Some p = bad in cc)) (none zero)))
      fresh number k none (suc j) q z there seat = absurd (let bad : None ≡ Some q = there in cc)

  -- a spawn begins a child, which stands in the block of its parent
  pub spawned : new ≡ slice_set seats e.task (begun s) ++ new_seat (Some e.task) ∷ [] → (code child kid cont : ℕ) (args : List Value)
      → e.action ≡ Spawns code child kid cont args → AreSeated P n new
  spawned is code child kid cont args does =
      let keeps = ap (λ b. value_by b step.task.value) does in
      let may = subst (λ b. Permits m step.task b) does step.permits in
      let number : child ≡ length m.tasks = may.0 in
      let size = a.size in
      let none_at : slice_get m.tasks child ≡ None = get_none m.tasks child (omega (arith, number)) in
      let no_seat : slice_get seats child ≡ None = get_none seats child (omega (arith, number, size)) in
      let runs : ended_with n child ≡ None = ended_all keeps child ∙ ap (λ o. option_and_then (λ (r : Running). r.value) o) none_at in
      let one : still (ended_with n child) ≡ 1 = ap still runs in
      let count = count_same keeps in
      let sum = unended_more n step.task.block child in
      let place : parent_at new child ≡ Some e.task =
      ap (parent_at new) (let z : child ≡ length seats + 0 = omega (arith, number, size) in z)
      ∙ ap parent_in ((changed seats e.task s (begun s) (new_seat (Some e.task) ∷ []) new at is).behind 0) in
      moved (begun s) (new_seat (Some e.task) ∷ []) (step.task.block ++ child ∷ [])
      (begins P code args kid step.task.future ∷ []) is refl refl refl refl keeps (ap (λ b. block_after b step.task.block) does)
      (ap (child_of P step.task) does)
      (omega (arith, count, sum, one))
      (once_snoc step.task.block child old.once (λ i. let bad : None ≡ Some e.task = sym (ap parent_in no_seat) ∙ old.own child i in cc))
      (λ c i. elim (among_or c step.task.block (child ∷ []) i) [
        | inl b ↦ parents (begun s) (new_seat (Some e.task) ∷ []) is refl c e.task (old.own c b)
        | inr b ↦ elim b [ inl same ↦ sym (ap (parent_at new) same) ∙ place | inr nothing ↦ absurd nothing ]
      ])
      (λ c i _. among_left c step.task.block (child ∷ []) i) refl (quiet_one (Some e.task)) (fresh number does)
    where
      facts : child ≡ length m.tasks → e.action ≡ Spawns code child kid cont args → (p : ℕ) → Some e.task ≡ Some p
          → (p < length m.tasks + zero) × (step.task.future < length m.tasks + zero)
          × ((z : Running) × (slice_get n.tasks p ≡ Some z) × Among (length m.tasks + zero) z.block)
      facts number does p same =
          let is_p : e.task ≡ p = some_same e.task p same in
          let lt = low in
          let fut = old.future in
          let block : (acted step.task step.stop e.action).block ≡ step.task.block ++ child ∷ [] = ap (λ b. block_after b step.task.block) does in
          let where_it_is : child ≡ length m.tasks + zero = omega (arith, number) in (
            omega (arith, lt, is_p),
            omega (arith, lt, fut),
            (
              acted step.task step.stop e.action,
              ap (slice_get n.tasks) (sym is_p) ∙ acting_task P m e n step,
              subst (Among (length m.tasks + zero)) (sym block) (among_right (length m.tasks + zero) step.task.block (child ∷ []) (inl where_it_is)),
            ),
          )

      fresh : child ≡ length m.tasks → e.action ≡ Spawns code child kid cont args → Shift m n seats new
          → ((k w : ℕ) → went_for new w ≡ Some (Some (length m.tasks + k)) → ⊥) → (k : ℕ) (q : Running) (z : Seat)
          → slice_get (begins P code args kid step.task.future ∷ []) k ≡ Some q → slice_get (new_seat (Some e.task) ∷ []) k ≡ Some z
          → IsSeat P n new (length m.tasks + k) q z
      fresh number does k none zero q z there seat =
          let lt = low in
          let fut = old.future in
          subst (λ y. IsSeat P n new (length m.tasks + zero) q y) (some_same (new_seat (Some e.task)) z seat)
          (subst (λ y. IsSeat P n new (length m.tasks + zero) y (new_seat (Some e.task))) (some_same (begins P code args kid step.task.future) q there)
          (newborn P m n seats new k (length m.tasks + zero) (begins P code args kid step.task.future) (Some e.task) refl refl (omega (arith, lt, fut))
          (facts number does) (none zero)))
      fresh number does k none (suc j) q z there seat = absurd (let bad : None ≡ Some q = there in cc)

-- The seats after a task has ended, and who goes on.
use Rattle.std.proofs.Common.{◌≡◌, ℕ, zero, suc, ◌+◌, ◌-◌, ◌<◌, List, [], ◌∷◌, ◌++◌, length, ◌⊎◌, inl, inr, refl, sym, ap, ◌∙◌, subst, arith, length-append}
use Rattle.std.specs.Prelude.{Option, Some, None, option_and_then, option_to_list, slice_get, slice_set}
use Rattle.std.proofs.lemmas.List.{append-nil}
use Rattle.fut_base.specs.declared.record.Value.{Value}
use Rattle.fut_base.specs.declared.event.Event.{Event}
use Rattle.fut_base.specs.declared.event.Action.TheVariants.{Ends}
use Rattle.fut_base.specs.Dag.{Among, block_after}
use Rattle.fut_base.specs.Sound.{value_by}
use Rattle.fut_syntax.specs.Trees as tree
use Rattle.task_machine.specs.Machine.{Machine, Running, opening, acted, child_of, ended_with, IsStep, IsAllowed, Leads}
use Rattle.task_machine.proofs.Making.{acting_task, others_stay}
use Rattle.task_machine.proofs.Places.{get_below}
use Rattle.strand_laws.proofs.Places.{same_or_not, among_or, among_left, among_right}
use Rattle.run_replay.proofs.Lining.{set_length, get_set_here}
use Rattle.fut_engine.specs.declared.seat.Seat.{Seat}
use Rattle.fut_engine.specs.Seats.{value_at, parent_at, went_for, waits_by, waits_for, while_any, while_none}
use Rattle.fut_engine.specs.Seats.{waiters_of, put_in, told, joined, left_to_join, Tells, TellsParent, SettlesEnd}
use Rattle.fut_engine.specs.Turns.{Waits, IsWoken}
use Rattle.fut_engine.specs.Wholes.{unended, sitter, IsSeat, AreSeated}
use Rattle.fut_engine.proofs.Lists.{some_same, set_else}
use Rattle.fut_engine.proofs.Steps.{places, ended_else, ended_own, ran, unended_same, unended_less}
use Rattle.fut_engine.proofs.Steps.{all_ended, none_unended, sync_needs, sync_may, get_needs, get_may}
use Rattle.fut_engine.proofs.Seating.{waits_in, parent_in, waiting_in, free_by, free_sits, free_went}
use Rattle.fut_engine.proofs.Seating.{seat_of, task_of, values_are, Shift, Freed, same_went, stays, ends}
use Rattle.fut_engine.proofs.Changing.{Changed, changed, changed_parents, changed_frees}

-- who waits for children, as their count falls by one
left_is : (t count : ℕ) (w : Option (Option ℕ)) → left_to_join count (sitter t count w) ≡ sitter t (count - 1) w
left_is t zero None = refl
left_is t zero (Some None) = refl
left_is t zero (Some (Some f)) = refl
left_is t (suc zero) None = refl
left_is t (suc zero) (Some None) = refl
left_is t (suc zero) (Some (Some f)) = refl
left_is t (suc (suc k)) None = refl
left_is t (suc (suc k)) (Some None) = let e : suc (suc k) - 1 ≡ suc k = omega arith in sym (ap (λ c. sitter t c (Some None)) e)
left_is t (suc (suc k)) (Some (Some f)) = refl

-- who goes on: the task itself, if it waits for its children and the last has ended
joined_is : (t count u : ℕ) (w : Option (Option ℕ)) → Among u (option_to_list (joined count (sitter t count w))) → (t ≡ u) × (count ≡ 1) × (w ≡ Some None)
joined_is t zero u None i = absurd i
joined_is t zero u (Some None) i = absurd i
joined_is t zero u (Some (Some f)) i = absurd i
joined_is t (suc zero) u None i = absurd i
joined_is t (suc zero) u (Some None) (inl e) = (e, refl, refl)
joined_is t (suc zero) u (Some None) (inr i) = absurd i
joined_is t (suc zero) u (Some (Some f)) i = absurd i
joined_is t (suc (suc k)) u None i = absurd i
joined_is t (suc (suc k)) u (Some None) i = absurd i
joined_is t (suc (suc k)) u (Some (Some f)) i = absurd i

joins : (t count : ℕ) (w : Option (Option ℕ)) → count ≡ 1 → w ≡ Some None → option_to_list (joined count (sitter t count w)) ≡ t ∷ []
joins t count w one is = ap (λ c. option_to_list (joined c (sitter t c w))) one ∙ ap (λ o. option_to_list (joined 1 (sitter t 1 o))) is

first_of : (t count : ℕ) (w : Option (Option ℕ)) → (option_to_list (joined count (sitter t count w)) ≡ [])
    ⊎ (option_to_list (joined count (sitter t count w)) ≡ t ∷ [])
first_of t zero None = inl refl
first_of t zero (Some None) = inl refl
first_of t zero (Some (Some f)) = inl refl
first_of t (suc zero) None = inl refl
first_of t (suc zero) (Some None) = inr refl
first_of t (suc zero) (Some (Some f)) = inl refl
first_of t (suc (suc k)) None = inl refl
first_of t (suc (suc k)) (Some None) = inl refl
first_of t (suc (suc k)) (Some (Some f)) = inl refl

while_is : (count : ℕ) (o : Option ℕ) → while_any count ≡ Some o → (o ≡ None) × (0 < count)
while_is zero o e = cc
while_is (suc k) o e = (some_same o None (sym e), omega arith)

none_is : (f : ℕ) (v : Option Value) (o : Option ℕ) → while_none f v ≡ Some o → (o ≡ Some f) × (v ≡ None)
none_is f None o e = (some_same o (Some f) (sym e), refl)
none_is f (Some v) o e = cc

-- a task that waits went to wait for this
waits_so : (seats : List Seat) (count : ℕ) (w : Option (Option ℕ)) (o : Option ℕ) → waits_by seats count w ≡ Some o → w ≡ Some o
waits_so seats count None o e = cc
waits_so seats count (Some None) o e = ap (λ z. Some z) (sym (while_is count o e).0)
waits_so seats count (Some (Some f)) o e = ap (λ z. Some z) (sym (none_is f (value_at seats f) o e).0)

more_than : (w : Option (Option ℕ)) (seats : List Seat) (count : ℕ) → w ≡ Some None → waits_by seats count w ≡ Some None → 0 < count
more_than w seats count is e = (while_is count None (sym (ap (waits_by seats count) is) ∙ e)).1

not_put : (w : Option (Option ℕ)) (seats : List Seat) (count f : ℕ) → w ≡ Some (Some f) → waits_by seats count w ≡ Some (Some f) → value_at seats f ≡ None
not_put w seats count f is e = (none_is f (value_at seats f) (Some f) (sym (ap (waits_by seats count) is) ∙ e)).1

pub no_one : (xs : List ℕ) → ((u : ℕ) → Among u xs → ⊥) → xs ≡ []
no_one [] f = refl
no_one (x ∷ xs) f = absurd (f x (inl refl))

module _ (P : tree.Program) (h : List Event) (m n : Machine) (e : Event) (step : IsStep P m e n) (v : Value) (does : e.action ≡ Ends v)
    (l : Leads P (opening P) h m) (seats : List Seat) (a : AreSeated P m seats) (s : Seat)
    (at : slice_get seats e.task ≡ Some s) (free : waits_for seats e.task ≡ None) where
  pub old : IsSeat P m seats e.task step.task s
  old = a.each e.task step.task s step.present at

  pub has_ended : ended_with n e.task ≡ Some v
  has_ended = ended_own P m e n step ∙ ap (λ b. value_by b step.task.value) does

  block_is : (acted step.task step.stop e.action).block ≡ step.task.block
  block_is = ap (λ b. block_after b step.task.block) does

  value_is : (acted step.task step.stop e.action).value ≡ Some v
  value_is = ap (λ b. value_by b step.task.value) does

  no_waiter : s.children.waiter ≡ None
  no_waiter = old.waiter ∙ free_sits seats e.task s.children.count s.waits (free_by seats e.task s at free)

  low : e.task < length seats
  low = get_below seats e.task s at

  -- a task stands in the block of its parent alone
  in_parent : (u : ℕ) (q : Running) → slice_get m.tasks u ≡ Some q → Among e.task q.block → s.parent ≡ Some u
  in_parent u q there i =
      let z = seat_of P m seats a u q there in
      sym (ap parent_in at) ∙ z.2.own e.task i

  count_else : (u : ℕ) (q : Running) → slice_get m.tasks u ≡ Some q → (s.parent ≡ Some u → ⊥) → unended n q.block ≡ unended m q.block
  count_else u q there other =
      unended_same m n q.block (λ c i. ended_else P m e n step c (λ same. other (in_parent u q there (subst (λ z. Among z q.block) same i))))

  not_own : s.parent ≡ Some e.task → ⊥
  not_own is = let lt = (old.child e.task is).0 in absurd (omega (arith, lt))

  -- the tasks after the end
  none_new : (k : ℕ) (q : Running) → slice_get (child_of P step.task e.action) k ≡ Some q → ⊥
  none_new k q there = let bad : None ≡ Some q = subst (λ b. slice_get (child_of P step.task b) k ≡ Some q) does there in cc

  size : length n.tasks ≡ length m.tasks
  size =
      let sum = length-append (slice_set m.tasks e.task (acted step.task step.stop e.action)) (child_of P step.task e.action) in
      let set = set_length m.tasks e.task (acted step.task step.stop e.action) in
      let none : length (child_of P step.task e.action) ≡ 0 = ap (λ b. length (child_of P step.task b)) does in
      let whole = ap (λ (z : Machine). length z.tasks) step.gives in
      omega (arith, sum, set, none, whole)

  blocks : (p c : ℕ) (q : Running) → slice_get m.tasks p ≡ Some q → Among c q.block → ended_with n c ≡ None
      → (k : Running) × (slice_get n.tasks p ≡ Some k) × Among c k.block
  blocks p c q present among live =
      elim (same_or_not p e.task) [
        | inl same ↦ (
            let own : q ≡ step.task = some_same q step.task (sym present ∙ (ap (slice_get m.tasks) same ∙ step.present)) in (
              acted step.task step.stop e.action,
              ap (slice_get n.tasks) same ∙ acting_task P m e n step,
              subst (Among c) (sym block_is) (subst (λ (z : Running). Among c z.block) own among),
            ))
        | inr other ↦ (q, others_stay P m e n p q step other present, among)
      ]

  runs_on : (u : ℕ) (q : Running) → (u ≡ e.task → ⊥) → slice_get m.tasks u ≡ Some q → q.value ≡ None → (ended_with n u ≡ None) × (value_at seats u ≡ None)
  runs_on u q other there run =
      let live = ap (λ o. option_and_then (λ (r : Running). r.value) o) there ∙ run in
      (ended_else P m e n step u other ∙ live, values_are P m seats a u ∙ live)

  -- who waits for the task that ends, is woken
  waiter_wakes : (u : ℕ) → Among u s.awaited.waiters → Waits seats u × IsAllowed P n u
  waiter_wakes u i =
      let went : went_for seats u ≡ Some (Some e.task) = (old.awaits u step.running).0 i in
      let live : value_at seats e.task ≡ None = values_are P m seats a e.task ∙ ran P m e n step in
      by u (slice_get seats u) refl went live
    where
      by : (u : ℕ) (o : Option Seat) → slice_get seats u ≡ o → went_for seats u ≡ Some (Some e.task) → value_at seats e.task ≡ None
          → Waits seats u × IsAllowed P n u
      by u None there went live = (let bad : None ≡ Some (Some e.task) = sym (ap waits_in there) ∙ went in cc)
      by u (Some z) there went live =
          let r = task_of P m seats a u z there in
          let is : z.waits ≡ Some (Some e.task) = sym (ap waits_in there) ∙ went in
          let other : u ≡ e.task → ⊥ = λ same. free_went seats e.task s at free e.task live (sym (ap (went_for seats) same) ∙ went) in (
            (Some e.task, ap (waiting_in seats) there ∙ (ap (waits_by seats z.children.count) is ∙ ap (while_none e.task) live)),
            get_may P n u r.0 (others_stay P m e n u r.0 step other r.1) e.task v (r.2.wants (Some e.task) is) has_ended,
          )

  -- a task that waits and is woken waits for this one: as its parent, or for its value
  wakes_waiter : (u : ℕ) → Waits seats u → IsAllowed P n u → (z : Seat) × (slice_get seats u ≡ Some z)
      × (((z.waits ≡ Some None) × (z.children.count ≡ 1) × (s.parent ≡ Some u)) ⊎ Among u s.awaited.waiters)
  wakes_waiter u (o, waits) may = by (slice_get seats u) refl
    where
      other : u ≡ e.task → ⊥
      other same = let bad : None ≡ Some o = sym free ∙ (sym (ap (waits_for seats) same) ∙ waits) in cc

      by_kind : (z : Seat) (r : Running) → slice_get seats u ≡ Some z → slice_get m.tasks u ≡ Some r → IsSeat P m seats u r z → (k : Option ℕ)
          → waits_by seats z.children.count z.waits ≡ Some k
          → ((z.waits ≡ Some None) × (z.children.count ≡ 1) × (s.parent ≡ Some u)) ⊎ Among u s.awaited.waiters
      by_kind z r seat task x None waits =
          let is : z.waits ≡ Some None = waits_so seats z.children.count z.waits None waits in
          let some : 0 < z.children.count = more_than z.waits seats z.children.count is waits in
          let all = sync_needs P n u r (others_stay P m e n u r step other task) (x.wants None is) may in
          let none = none_unended n r.block all in
          let count = x.count in
          elim (parent_or_not s.parent refl) [
            | inl p ↦ elim (same_or_not p.0 u) [
              | inl same ↦ (
                  let mine : s.parent ≡ Some u = p.1 ∙ ap (λ k. Some k) same in
                  let held = old.held u mine step.running in
                  let own : held.0 ≡ r = some_same held.0 r (sym held.1 ∙ task) in
                  let less = unended_less m n e.task v r.block (subst (λ (k : Running). Among e.task k.block) own held.2) x.once (ran P m e n step) has_ended
                  (ended_else P m e n step) in
                  inl (is, omega (arith, less, none, count), mine))
              | inr differ ↦ absurd (let same = count_else u r task (λ k. differ (some_same p.0 u (sym p.1 ∙ k))) in omega (arith, same, none, count, some))
            ]
            | inr orphan ↦
                absurd (let same = count_else u r task (λ k. let bad : None ≡ Some u = sym orphan ∙ k in cc) in omega (arith, same, none, count, some))
          ]
        where
          parent_or_not : (o : Option ℕ) → s.parent ≡ o → ((p : ℕ) × (s.parent ≡ Some p)) ⊎ (s.parent ≡ None)
          parent_or_not None k = inr k
          parent_or_not (Some p) k = inl (p, k)
      by_kind z r seat task x (Some f) waits =
          let is : z.waits ≡ Some (Some f) = waits_so seats z.children.count z.waits (Some f) waits in
          let none : value_at seats f ≡ None = not_put z.waits seats z.children.count f is waits in
          let got = get_needs P n u r (others_stay P m e n u r step other task) f (x.wants (Some f) is) may in
          elim (same_or_not f e.task) [
            | inl same ↦ inr ((old.awaits u step.running).1 (ap waits_in seat ∙ (is ∙ ap (λ k. Some (Some k)) same)))
            | inr differ ↦
                absurd (let bad : None ≡ Some got.0 = sym (sym (values_are P m seats a f) ∙ none) ∙ (sym (ended_else P m e n step f differ) ∙ got.1) in cc)
          ]

      by : (k : Option Seat) → slice_get seats u ≡ k → (z : Seat) × (slice_get seats u ≡ Some z)
          × (((z.waits ≡ Some None) × (z.children.count ≡ 1) × (s.parent ≡ Some u)) ⊎ Among u s.awaited.waiters)
      by None there = (let bad : None ≡ Some o = sym (ap (waiting_in seats) there) ∙ waits in cc)
      by (Some z) there =
          let r = task_of P m seats a u z there in
          (z, there, by_kind z r.0 there r.1 r.2 o (sym (ap (waiting_in seats) there) ∙ waits))

  -- ---- the seats afterwards

  module _ (new : List Seat) (ready : List ℕ) where
    -- a task that nobody spawned
    alone_seated : (middle : List Seat) → middle ≡ slice_set seats e.task (put_in v s) → s.parent ≡ None → AreSeated P n middle
    alone_seated middle is none =
        let k : Changed seats e.task (put_in v s) [] middle = changed seats e.task s (put_in v s) [] middle at (is ∙ sym (append-nil _)) in
        let freed : Freed seats middle e.task = changed_frees seats e.task (put_in v s) [] middle k refl (λ j. refl) low in
        let shift : Shift m n seats middle = record { parents = changed_parents seats e.task s (put_in v s) [] middle k at refl; blocks = blocks } in
        record {
          size = (let one = k.size in let two = a.size in let three = size in omega (arith, one, two, three));
          each = λ u q z there seat. elim (places P m e n step u q there) [
            | inl own ↦ (
                let same : put_in v s ≡ z = some_same (put_in v s) z (sym k.here ∙ (sym (ap (slice_get middle) own.0) ∙ seat)) in
                subst (λ w. IsSeat P n middle w q z) (sym own.0)
                (subst (λ w. IsSeat P n middle e.task q w) same
                (subst (λ w. IsSeat P n middle e.task w (put_in v s)) own.1
                (ends P m n seats middle shift e.task step.task (acted step.task step.stop e.action) v s old no_waiter value_is refl block_is
                (ap (unended n) block_is ∙ count_else e.task step.task step.present not_own)))))
            | inr more ↦ elim more [
              | inl kept ↦ (
                  let two = a.size in
                  let lt = get_below m.tasks u q kept.1 in
                  let before : slice_get seats u ≡ Some z = sym (k.there u kept.0 (omega (arith, two, lt))) ∙ seat in
                  let x = a.each u q z kept.1 before in
                  stays P m n seats middle shift u q z z x refl refl refl
                  (x.count ∙ sym (count_else u q kept.1 (λ p. let bad : None ≡ Some u = sym none ∙ p in cc))) x.waiter
                  (λ run. (runs_on u q kept.0 kept.1 run).0) (λ run. same_went seats middle e.task s at free freed u (runs_on u q kept.0 kept.1 run).1))
              | inr born ↦ absurd (none_new born.0 q born.2)
            ]
          ];
        }

    module _ (p : ℕ) (is_p : s.parent ≡ Some p) (first : List ℕ) (x : TellsParent (slice_set seats e.task (put_in v s)) p new first) where
      not_p : e.task ≡ p → ⊥
      not_p same = not_own (is_p ∙ ap (λ k. Some k) (sym same))

      back : p ≡ e.task → ⊥
      back same = not_p (sym same)

      at_else : (w : ℕ) → (w ≡ e.task → ⊥) → (w ≡ p → ⊥) → slice_get new w ≡ slice_get seats w
      at_else w one two = ap (λ z. slice_get z w) x.is
          ∙ (set_else (slice_set seats e.task (put_in v s)) p (told x.before) w two ∙ set_else seats e.task (put_in v s) w one)

      seat_p : slice_get seats p ≡ Some x.before
      seat_p = sym (set_else seats e.task (put_in v s) p back) ∙ x.present

      at_p : slice_get new p ≡ Some (told x.before)
      at_p = ap (λ z. slice_get z p) x.is ∙ get_set_here (slice_set seats e.task (put_in v s)) p (told x.before) (get_below _ p x.before x.present)

      at_t : slice_get new e.task ≡ Some (put_in v s)
      at_t = ap (λ z. slice_get z e.task) x.is
          ∙ (set_else (slice_set seats e.task (put_in v s)) p (told x.before) e.task not_p ∙ get_set_here seats e.task (put_in v s) low)

      freed : Freed seats new e.task
      freed =
          record {
            went = λ w other. elim (same_or_not w p) [
              | inl same ↦ ap (went_for new) same ∙ (ap waits_in at_p ∙ (sym (ap waits_in seat_p) ∙ sym (ap (went_for seats) same)))
              | inr differ ↦ ap waits_in (at_else w other differ)
            ];
            gone = ap waits_in at_t;
          }

      parents : (c k : ℕ) → parent_at seats c ≡ Some k → parent_at new c ≡ Some k
      parents c k is =
          elim (same_or_not c e.task) [
            | inl same ↦ ap (parent_at new) same ∙ (ap parent_in at_t ∙ (sym (ap parent_in at) ∙ (sym (ap (parent_at seats) same) ∙ is)))
            | inr other ↦ elim (same_or_not c p) [
              | inl same ↦ ap (parent_at new) same ∙ (ap parent_in at_p ∙ (sym (ap parent_in seat_p) ∙ (sym (ap (parent_at seats) same) ∙ is)))
              | inr differ ↦ ap parent_in (at_else c other differ) ∙ is
            ]
          ]

      shift : Shift m n seats new
      shift = record { parents = parents; blocks = blocks }

      -- the parent, whose block has one task less that runs
      parent_of : (q : Running) × (slice_get m.tasks p ≡ Some q) × IsSeat P m seats p q x.before
      parent_of = task_of P m seats a p x.before seat_p

      less : unended n parent_of.0.block + 1 ≡ unended m parent_of.0.block
      less =
          let held = old.held p is_p step.running in
          let own : held.0 ≡ parent_of.0 = some_same held.0 parent_of.0 (sym held.1 ∙ parent_of.1) in
          unended_less m n e.task v parent_of.0.block (subst (λ (k : Running). Among e.task k.block) own held.2) parent_of.2.once (ran P m e n step) has_ended
          (ended_else P m e n step)

      told_seat : IsSeat P n new p parent_of.0 (told x.before)
      told_seat =
          let y = parent_of.2 in
          let count = y.count in
          let one = less in
          stays P m n seats new shift p parent_of.0 x.before (told x.before) y refl refl refl (omega (arith, count, one))
          (ap (left_to_join x.before.children.count) y.waiter ∙ left_is p x.before.children.count x.before.waits)
          (λ run. (runs_on p parent_of.0 back parent_of.1 run).0)
          (λ run. same_went seats new e.task s at free freed p (runs_on p parent_of.0 back parent_of.1 run).1)

      length_new : length new ≡ length seats
      length_new = ap length x.is ∙ (set_length (slice_set seats e.task (put_in v s)) p (told x.before) ∙ set_length seats e.task (put_in v s))

      parent_seated : AreSeated P n new
      parent_seated =
          record {
            size = (let one = length_new in let two = a.size in let three = size in omega (arith, one, two, three));
            each = λ u q z there seat. elim (places P m e n step u q there) [
              | inl own ↦ (
                  let same : put_in v s ≡ z = some_same (put_in v s) z (sym at_t ∙ (sym (ap (slice_get new) own.0) ∙ seat)) in
                  subst (λ w. IsSeat P n new w q z) (sym own.0)
                  (subst (λ w. IsSeat P n new e.task q w) same
                  (subst (λ w. IsSeat P n new e.task w (put_in v s)) own.1
                  (ends P m n seats new shift e.task step.task (acted step.task step.stop e.action) v s old no_waiter value_is refl block_is
                  (ap (unended n) block_is ∙ count_else e.task step.task step.present not_own)))))
              | inr more ↦ elim more [
                | inl kept ↦ elim (same_or_not u p) [
                  | inl same ↦ (
                      let this : parent_of.0 ≡ q = some_same parent_of.0 q (sym parent_of.1 ∙ (ap (slice_get m.tasks) (sym same) ∙ kept.1)) in
                      let that : told x.before ≡ z = some_same (told x.before) z (sym at_p ∙ (ap (slice_get new) (sym same) ∙ seat)) in
                      subst (λ w. IsSeat P n new w q z) (sym same)
                      (subst (λ w. IsSeat P n new p w z) this (subst (λ w. IsSeat P n new p parent_of.0 w) that told_seat)))
                  | inr differ ↦ (
                      let before : slice_get seats u ≡ Some z = sym (at_else u kept.0 differ) ∙ seat in
                      let y = a.each u q z kept.1 before in
                      stays P m n seats new shift u q z z y refl refl refl
                      (y.count ∙ sym (count_else u q kept.1 (λ k. differ (some_same u p (sym k ∙ is_p))))) y.waiter
                      (λ run. (runs_on u q kept.0 kept.1 run).0) (λ run. same_went seats new e.task s at free freed u (runs_on u q kept.0 kept.1 run).1))
                ]
                | inr born ↦ absurd (none_new born.0 q born.2)
              ]
            ];
          }

      first_is : first ≡ option_to_list (joined x.before.children.count (sitter p x.before.children.count x.before.waits))
      first_is = x.goes ∙ ap (λ w. option_to_list (joined x.before.children.count w)) parent_of.2.waiter

      -- the parent goes on where it waits and all its children have ended
      parent_wakes : (u : ℕ) → Among u first → Waits seats u × IsAllowed P n u
      parent_wakes u i =
          let (same, one, is) = joined_is p x.before.children.count u x.before.waits (subst (Among u) first_is i) in
          let y = parent_of.2 in
          let count = y.count in
          let fewer = less in
          let all = all_ended n parent_of.0.block (omega (arith, one, count, fewer)) in
          subst (λ w. Waits seats w × IsAllowed P n w) same (
            (None, ap (waiting_in seats) seat_p ∙ (ap (waits_by seats x.before.children.count) is ∙ ap while_any one)),
            sync_may P n p parent_of.0 (others_stay P m e n p parent_of.0 step back parent_of.1) (y.wants None is) all,
          )

      parent_among : (u : ℕ) (z : Seat) → slice_get seats u ≡ Some z → z.waits ≡ Some None → z.children.count ≡ 1 → s.parent ≡ Some u → Among u first
      parent_among u z seat is one mine =
          let same : u ≡ p = some_same u p (sym mine ∙ is_p) in
          let this : z ≡ x.before = some_same z x.before (sym seat ∙ (ap (slice_get seats) same ∙ seat_p)) in
          let all : first ≡ p ∷ [] =
          first_is ∙ joins p x.before.children.count x.before.waits (ap (λ (k : Seat). k.children.count) (sym this) ∙ one)
          (ap (λ (k : Seat). k.waits) (sym this) ∙ is) in
          subst (Among u) (sym all) (inl (sym same))

    -- what an end does
    pub ended : SettlesEnd seats e.task v new ready → AreSeated P n new × IsWoken P n seats e.task ready
    ended x = by (s.parent) refl (subst (λ (z : Seat). Tells (slice_set seats e.task (put_in v z)) z.parent new x.first) same x.tells)
      where
        same : x.before ≡ s
        same = some_same x.before s (sym x.present ∙ at)

        all : ready ≡ x.first ++ waiters_of (slice_get seats e.task)
        all = x.goes ∙ (ap (λ (z : Seat). x.first ++ z.awaited.waiters) same ∙ ap (λ o. x.first ++ waiters_of o) (sym at))

        whole : ready ≡ x.first ++ s.awaited.waiters
        whole = x.goes ∙ ap (λ (z : Seat). x.first ++ z.awaited.waiters) same

        by : (o : Option ℕ) → s.parent ≡ o → Tells (slice_set seats e.task (put_in v s)) o new x.first → AreSeated P n new × IsWoken P n seats e.task ready
        by None is (kept, none) = (
          alone_seated new kept is,
          record {
            first = x.first;
            parent = inl none;
            is = all;
            exact = λ u. (
              (λ i. elim (among_or u x.first s.awaited.waiters (subst (Among u) whole i)) [
                | inl b ↦ absurd (subst (Among u) none b)
                | inr b ↦ waiter_wakes u b
              ]),
              (λ w. (
                  let k = wakes_waiter u w.0 w.1 in
                  elim k.2 [
                    | inl b ↦ absurd (let bad : None ≡ Some u = sym is ∙ b.2 in cc)
                    | inr b ↦ subst (Among u) (sym whole) (among_right u x.first s.awaited.waiters b)
                  ])),
            );
          },
        )
        by (Some p) is tells = (
          parent_seated p is x.first tells,
          record {
            first = x.first;
            parent = elim (first_of p tells.before.children.count tells.before.waits) [
              | inl b ↦ inl (first_is p is x.first tells ∙ b)
              | inr b ↦ inr (p, ap parent_in at ∙ is, first_is p is x.first tells ∙ b)
            ];
            is = all;
            exact = λ u. (
              (λ i. elim (among_or u x.first s.awaited.waiters (subst (Among u) whole i)) [
                | inl b ↦ parent_wakes p is x.first tells u b
                | inr b ↦ waiter_wakes u b
              ]),
              (λ w. (
                  let k = wakes_waiter u w.0 w.1 in
                  elim k.2 [
                    | inl b ↦ subst (Among u) (sym whole) (among_left u x.first s.awaited.waiters (parent_among p is x.first tells u k.0 k.1 b.0 b.1 b.2))
                    | inr b ↦ subst (Among u) (sym whole) (among_right u x.first s.awaited.waiters b)
                  ])),
            );
          },
        )

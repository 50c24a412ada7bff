-- The seats after a task has gone to wait.
use Rattle.std.proofs.Common.{◌≡◌, ◌↔◌, ℕ, zero, suc, ◌<◌, List, [], ◌∷◌, ◌++◌, length, ◌⊎◌, inl, inr, refl, sym, ap, ◌∙◌, subst, arith}
use Rattle.std.specs.Prelude.{Option, Some, None, slice_get, slice_set}
use Rattle.fut_base.specs.declared.record.Value.{Value}
use Rattle.fut_base.specs.declared.event.Event.{Event}
use Rattle.fut_base.specs.Dag.{Among}
use Rattle.fut_syntax.specs.Trees as tree
use Rattle.task_machine.specs.Machine.{Machine, Running, opening, ended_with, Leads}
use Rattle.task_machine.proofs.Places.{get_below}
use Rattle.strand_laws.proofs.Places.{same_or_not, among_or, among_left, among_right}
use Rattle.run_replay.proofs.Lining.{set_length, get_set_here}
use Rattle.run_replay.specs.Next.{IsWaiting}
use Rattle.fut_engine.specs.declared.seat.Seat.{Seat}
use Rattle.fut_engine.specs.Seats.{value_at, parent_at, went_for, waits_by, waits_for, while_any, while_none, sits, awaited_by, gone_for, Sets, Parks, MayPark}
use Rattle.fut_engine.specs.Wholes.{IsOnce, Wants, sitter, while_any_sits, IsSeat, AreSeated}
use Rattle.fut_engine.proofs.Lists.{some_same, set_else, once_snoc}
use Rattle.fut_engine.proofs.Steps.{all_ended, sync_may, get_may, future_is, wants_of}
use Rattle.fut_engine.proofs.Seating.{waits_in, parent_in, value_in, waiting_in, free_by, free_sits, free_went, seat_of, values_are, SameWent}

zero_or_more : (n : ℕ) → (n ≡ 0) ⊎ (0 < n)
zero_or_more zero = inl refl
zero_or_more (suc n) = inr (omega arith)

some_sits : (t count : ℕ) → 0 < count → Some t ≡ while_any_sits t count
some_sits t zero lt = absurd (omega (arith, lt))
some_sits t (suc n) lt = refl

some_any : (count : ℕ) → 0 < count → while_any count ≡ Some None
some_any zero lt = absurd (omega (arith, lt))
some_any (suc n) lt = refl

-- what a task waits for stays, where the values do
waits_by_same : (seats new : List Seat) → ((f : ℕ) → value_at new f ≡ value_at seats f) → (count : ℕ) (w : Option (Option ℕ))
    → waits_by new count w ≡ waits_by seats count w
waits_by_same seats new same count None = refl
waits_by_same seats new same count (Some None) = refl
waits_by_same seats new same count (Some (Some f)) = ap (while_none f) (same f)

waiting_same : (seats new : List Seat) → ((f : ℕ) → value_at new f ≡ value_at seats f) → (o : Option Seat) → waiting_in new o ≡ waiting_in seats o
waiting_same seats new same None = refl
waiting_same seats new same (Some s) = waits_by_same seats new same s.children.count s.waits

-- what parking does
pub record Parked (P : tree.Program) (m : Machine) (seats new : List Seat) (t : ℕ) (o : Option ℕ) : Type 0 where
  pub seated : AreSeated P m new
  pub waits : waits_for new t ≡ Some o
  pub others : (u : ℕ) → (u ≡ t → ⊥) → waits_for new u ≡ waits_for seats u

module _ (P : tree.Program) (h : List Event) (m : Machine) (l : Leads P (opening P) h m) (seats : List Seat) (a : AreSeated P m seats) (t : ℕ) (r : Running)
    (present : slice_get m.tasks t ≡ Some r) (s : Seat)
    (at : slice_get seats t ≡ Some s) (free : waits_for seats t ≡ None) where
  old : IsSeat P m seats t r s
  old = a.each t r s present at

  low : t < length seats
  low = get_below seats t s at

  may_sit : IsWaiting P m t None → 0 < s.children.count
  may_sit w =
      elim (zero_or_more s.children.count) [
        | inl none ↦ absurd (w.barred (sync_may P m t r present (wants_of P m t r present None w) (all_ended m r.block (sym old.count ∙ none))))
        | inr some ↦ some
      ]

  no_waiter : s.children.waiter ≡ None
  no_waiter = old.waiter ∙ free_sits seats t s.children.count s.waits (free_by seats t s at free)

  live_future : (f : ℕ) → IsWaiting P m t (Some f) → (v : Option Value) → ended_with m f ≡ v → value_at seats f ≡ None
  live_future f w None is = values_are P m seats a f ∙ is
  live_future f w (Some v) is = absurd (w.barred (get_may P m t r present f v (wants_of P m t r present (Some f) w) is))

  -- a task that is to wait may park
  pub may_park : (o : Option ℕ) → IsWaiting P m t o → MayPark seats t o
  may_park None w = (s, at, no_waiter, may_sit w)
  may_park (Some f) w =
      let there = future_is P m t r present h l f (wants_of P m t r present (Some f) w) in
      let q = seat_of P m seats a f there.0 there.1 in
      (s, q.0, at, q.1, sym (ap value_in q.1) ∙ live_future f w (ended_with m f) refl)

  module _ (new : List Seat) where
    parked_seat : ((c p : ℕ) → parent_at seats c ≡ Some p → parent_at new c ≡ Some p) → (u : ℕ) (q : Running) (z y : Seat) → IsSeat P m seats u q z
        → y.parent ≡ z.parent → y.children.count ≡ z.children.count → y.awaited.value ≡ z.awaited.value
        → ((o : Option ℕ) → y.waits ≡ Some o → Wants P q o) → y.children.waiter ≡ sitter u y.children.count y.waits
        → ((w : ℕ) → q.value ≡ None → Among w y.awaited.waiters ↔ (went_for new w ≡ Some (Some u))) → IsOnce y.awaited.waiters → IsSeat P m new u q y
    parked_seat parents u q z y x pa cn va wants wt awaits once =
        record {
          value = va ∙ x.value;
          count = cn ∙ x.count;
          once = x.once;
          own = λ c i. parents c u (x.own c i);
          held = λ p is run. x.held p (sym pa ∙ is) run;
          future = x.future;
          child = λ p is. x.child p (sym pa ∙ is);
          wants = wants;
          waiter = wt;
          awaits = awaits;
          each_once = once;
        }

    -- ---- it waits for its children

    module _ (w : IsWaiting P m t None) (is : new ≡ slice_set seats t (sits t s)) where
      sat : slice_get new t ≡ Some (sits t s)
      sat = ap (λ z. slice_get z t) is ∙ get_set_here seats t (sits t s) low

      sat_else : (u : ℕ) → (u ≡ t → ⊥) → slice_get new u ≡ slice_get seats u
      sat_else u other = ap (λ z. slice_get z u) is ∙ set_else seats t (sits t s) u other

      sat_values : (f : ℕ) → value_at new f ≡ value_at seats f
      sat_values f =
          elim (same_or_not f t) [
            | inl same ↦ ap (value_at new) same ∙ (ap value_in sat ∙ (sym (ap value_in at) ∙ sym (ap (value_at seats) same)))
            | inr other ↦ ap value_in (sat_else f other)
          ]

      sat_parents : (c p : ℕ) → parent_at seats c ≡ Some p → parent_at new c ≡ Some p
      sat_parents c p k =
          elim (same_or_not c t) [
            | inl same ↦ ap (parent_at new) same ∙ (ap parent_in sat ∙ (sym (ap parent_in at) ∙ (sym (ap (parent_at seats) same) ∙ k)))
            | inr other ↦ ap parent_in (sat_else c other) ∙ k
          ]

      sat_went : (u : ℕ) → value_at seats u ≡ None → SameWent seats new u
      sat_went u none v =
          elim (same_or_not v t) [
            | inl same ↦ (
              (λ e. absurd (let bad : Some None ≡ Some (Some u) = sym (ap waits_in sat) ∙ (sym (ap (went_for new) same) ∙ e) in cc)),
              (λ e. absurd (free_went seats t s at free u none (sym (ap (went_for seats) same) ∙ e))),
            )
            | inr other ↦ ((λ e. sym (ap waits_in (sat_else v other)) ∙ e), (λ e. ap waits_in (sat_else v other) ∙ e))
          ]

      sat_awaits : (u : ℕ) (q : Running) (z : Seat) → slice_get seats u ≡ Some z → IsSeat P m seats u q z → (v : ℕ) → q.value ≡ None
          → Among v z.awaited.waiters ↔ (went_for new v ≡ Some (Some u))
      sat_awaits u q z there x v run =
          let k = sat_went u (ap value_in there ∙ (x.value ∙ run)) v in
          ((λ i. k.1 ((x.awaits v run).0 i)), (λ e. (x.awaits v run).1 (k.0 e)))

      pub sat_down : Parked P m seats new t None
      sat_down =
          let some = may_sit w in
          record {
            seated = record {
              size = ap length is ∙ (set_length seats t (sits t s) ∙ a.size);
              each = λ u q z there seat. elim (same_or_not u t) [
                | inl same ↦ (
                    let this : r ≡ q = some_same r q (sym present ∙ (ap (slice_get m.tasks) (sym same) ∙ there)) in
                    let that : sits t s ≡ z = some_same (sits t s) z (sym sat ∙ (ap (slice_get new) (sym same) ∙ seat)) in
                    subst (λ k. IsSeat P m new k q z) (sym same)
                    (subst (λ k. IsSeat P m new t k z) this
                    (subst (λ k. IsSeat P m new t r k) that
                    (parked_seat sat_parents t r s (sits t s) old refl refl refl
                    (λ o k. subst (Wants P r) (some_same None o k) (wants_of P m t r present None w))
                    (some_sits t s.children.count some) (sat_awaits t r s at old) old.each_once))))
                | inr other ↦ (
                    let before : slice_get seats u ≡ Some z = sym (sat_else u other) ∙ seat in
                    let x = a.each u q z there before in
                    parked_seat sat_parents u q z z x refl refl refl x.wants x.waiter (sat_awaits u q z before x) x.each_once)
              ];
            };
            waits = ap (waiting_in new) sat ∙ some_any s.children.count some;
            others = λ u other. ap (waiting_in new) (sat_else u other) ∙ waiting_same seats new sat_values (slice_get seats u);
          }

    -- ---- it waits for a future

    module _ (f : ℕ) (w : IsWaiting P m t (Some f)) (middle : List Seat) (x : Sets seats f (awaited_by t) middle) (y : Sets middle t (gone_for f) new) where
      none : value_at seats f ≡ None
      none = live_future f w (ended_with m f) refl

      empty : x.before.awaited.value ≡ None
      empty = sym (ap value_in x.present) ∙ none

      gone : slice_get new t ≡ Some (gone_for f y.before)
      gone = ap (λ z. slice_get z t) y.is ∙ get_set_here middle t (gone_for f y.before) (get_below middle t y.before y.present)

      gone_else : (u : ℕ) → (u ≡ t → ⊥) → slice_get new u ≡ slice_get middle u
      gone_else u other = ap (λ z. slice_get z u) y.is ∙ set_else middle t (gone_for f y.before) u other

      given : slice_get middle f ≡ Some (awaited_by t x.before)
      given = ap (λ z. slice_get z f) x.is ∙ get_set_here seats f (awaited_by t x.before) (get_below seats f x.before x.present)

      given_else : (u : ℕ) → (u ≡ f → ⊥) → slice_get middle u ≡ slice_get seats u
      given_else u other = ap (λ z. slice_get z u) x.is ∙ set_else seats f (awaited_by t x.before) u other

      -- what changed of a seat: who waits there, and what its task went to wait for
      record Turned (u : ℕ) (z k : Seat) : Type 0 where
        parent : k.parent ≡ z.parent
        count : k.children.count ≡ z.children.count
        sitting : k.children.waiter ≡ z.children.waiter
        value : k.awaited.value ≡ z.awaited.value
        waits : (u ≡ t → ⊥) → k.waits ≡ z.waits
        goes : u ≡ t → k.waits ≡ Some (Some f)
        same : (u ≡ f → ⊥) → k.awaited.waiters ≡ z.awaited.waiters
        more : u ≡ f → k.awaited.waiters ≡ z.awaited.waiters ++ t ∷ []

      turned_middle : (u : ℕ) (z : Seat) → slice_get seats u ≡ Some z → (k : Seat) × (slice_get middle u ≡ Some k) × (k.parent ≡ z.parent)
          × (k.children.count ≡ z.children.count) × (k.children.waiter ≡ z.children.waiter) × (k.awaited.value ≡ z.awaited.value) × (k.waits ≡ z.waits)
          × ((u ≡ f → ⊥) → k.awaited.waiters ≡ z.awaited.waiters) × (u ≡ f → k.awaited.waiters ≡ z.awaited.waiters ++ t ∷ [])
      turned_middle u z there =
          elim (same_or_not u f) [
            | inl same ↦ (
                let this : x.before ≡ z = some_same x.before z (sym x.present ∙ (ap (slice_get seats) (sym same) ∙ there)) in (
                  awaited_by t x.before,
                  ap (slice_get middle) same ∙ given,
                  ap (λ (k : Seat). k.parent) this,
                  ap (λ (k : Seat). k.children.count) this,
                  ap (λ (k : Seat). k.children.waiter) this,
                  sym empty ∙ ap (λ (k : Seat). k.awaited.value) this,
                  ap (λ (k : Seat). k.waits) this,
                  λ other. absurd (other same),
                  λ _. ap (λ (k : Seat). k.awaited.waiters ++ t ∷ []) this,
                ))
            | inr other ↦ (z, given_else u other ∙ there, refl, refl, refl, refl, refl, (λ _. refl), (λ same. absurd (other same)))
          ]

      turned : (u : ℕ) (z : Seat) → slice_get seats u ≡ Some z → (k : Seat) × (slice_get new u ≡ Some k) × Turned u z k
      turned u z there =
          let (k, mid, pa, cn, wt, va, ws, same, more) = turned_middle u z there in
          elim (same_or_not u t) [
            | inl own ↦ (
                let this : y.before ≡ k = some_same y.before k (sym y.present ∙ (ap (slice_get middle) (sym own) ∙ mid)) in (
                  gone_for f y.before,
                  ap (slice_get new) own ∙ gone,
                  record {
                    parent = ap (λ (j : Seat). j.parent) this ∙ pa;
                    count = ap (λ (j : Seat). j.children.count) this ∙ cn;
                    sitting = ap (λ (j : Seat). j.children.waiter) this ∙ wt;
                    value = ap (λ (j : Seat). j.awaited.value) this ∙ va;
                    waits = λ other. absurd (other own);
                    goes = λ _. refl;
                    same = λ other. ap (λ (j : Seat). j.awaited.waiters) this ∙ same other;
                    more = λ e. ap (λ (j : Seat). j.awaited.waiters) this ∙ more e;
                  },
                ))
            | inr other ↦ (
              k,
              gone_else u other ∙ mid,
              record { parent = pa; count = cn; sitting = wt; value = va; waits = λ _. ws; goes = λ own. absurd (other own); same = same; more = more },
            )
          ]

      none_there : (u : ℕ) → slice_get seats u ≡ None → slice_get new u ≡ None
      none_there u is =
          gone_else u (λ own. let bad : None ≡ Some s = sym is ∙ (ap (slice_get seats) own ∙ at) in cc)
          ∙ (given_else u (λ own. let bad : None ≡ Some x.before = sym is ∙ (ap (slice_get seats) own ∙ x.present) in cc) ∙ is)

      gone_values : (u : ℕ) (o : Option Seat) → slice_get seats u ≡ o → value_at new u ≡ value_at seats u
      gone_values u None is = ap value_in (none_there u is) ∙ sym (ap value_in is)
      gone_values u (Some z) is = let k = turned u z is in ap value_in k.1 ∙ (k.2.value ∙ sym (ap value_in is))

      gone_parents : (c p : ℕ) → parent_at seats c ≡ Some p → parent_at new c ≡ Some p
      gone_parents c p is = by (slice_get seats c) refl
        where
          by : (o : Option Seat) → slice_get seats c ≡ o → parent_at new c ≡ Some p
          by None there = (let bad : None ≡ Some p = sym (ap parent_in there) ∙ is in cc)
          by (Some z) there = (let k = turned c z there in ap parent_in k.1 ∙ (k.2.parent ∙ (sym (ap parent_in there) ∙ is)))

      went_else : (u : ℕ) → (u ≡ t → ⊥) → (o : Option Seat) → slice_get seats u ≡ o → went_for new u ≡ went_for seats u
      went_else u other None is = ap waits_in (none_there u is) ∙ sym (ap waits_in is)
      went_else u other (Some z) is = let k = turned u z is in ap waits_in k.1 ∙ (k.2.waits other ∙ sym (ap waits_in is))

      went_own : went_for new t ≡ Some (Some f)
      went_own = ap waits_in gone

      gone_went : (u : ℕ) → (u ≡ f → ⊥) → value_at seats u ≡ None → SameWent seats new u
      gone_went u differ live v =
          elim (same_or_not v t) [
            | inl same ↦ (
              (λ e. absurd
                  (let both : Some (Some f) ≡ Some (Some u) = sym went_own ∙ (sym (ap (went_for new) same) ∙ e) in let bad : f ≡ u = cc in differ (sym bad))),
              (λ e. absurd (free_went seats t s at free u live (sym (ap (went_for seats) same) ∙ e))),
            )
            | inr other ↦ ((λ e. sym (went_else v other (slice_get seats v) refl) ∙ e), (λ e. went_else v other (slice_get seats v) refl ∙ e))
          ]

      gone_awaits : (u : ℕ) (q : Running) (z k : Seat) → slice_get seats u ≡ Some z → IsSeat P m seats u q z → Turned u z k → (v : ℕ) → q.value ≡ None
          → Among v k.awaited.waiters ↔ (went_for new v ≡ Some (Some u))
      gone_awaits u q z k there j c v run =
          elim (same_or_not u f) [
            | inl same ↦ (
              (λ i. elim (among_or v z.awaited.waiters (t ∷ []) (subst (Among v) (c.more same) i)) [
                | inl b ↦ elim (same_or_not v t) [
                  | inl own ↦ ap (went_for new) own ∙ (went_own ∙ ap (λ n. Some (Some n)) (sym same))
                  | inr other ↦ went_else v other (slice_get seats v) refl ∙ (j.awaits v run).0 b
                ]
                | inr b ↦ elim b [
                  | inl own ↦ sym (ap (went_for new) own) ∙ (went_own ∙ ap (λ n. Some (Some n)) (sym same))
                  | inr nothing ↦ absurd nothing
                ]
              ]),
              (λ e. subst (Among v) (sym (c.more same)) (elim (same_or_not v t) [
                | inl own ↦ among_right v z.awaited.waiters (t ∷ []) (inl (sym own))
                | inr other ↦ among_left v z.awaited.waiters (t ∷ []) ((j.awaits v run).1 (sym (went_else v other (slice_get seats v) refl) ∙ e))
              ])),
            )
            | inr differ ↦ (
                let d = gone_went u differ (ap value_in there ∙ (j.value ∙ run)) v in (
                  (λ i. d.1 ((j.awaits v run).0 (subst (Among v) (c.same differ) i))),
                  (λ e. subst (Among v) (sym (c.same differ)) ((j.awaits v run).1 (d.0 e))),
                ))
          ]

      gone_once : (u : ℕ) (q : Running) (z k : Seat) → slice_get seats u ≡ Some z → IsSeat P m seats u q z → Turned u z k → IsOnce k.awaited.waiters
      gone_once u q z k there j c =
          elim (same_or_not u f) [
            | inl same ↦ (
                let run : q.value ≡ None = sym (j.value) ∙ (sym (ap value_in there) ∙ (ap (value_at seats) same ∙ none)) in
                subst IsOnce (sym (c.more same))
                (once_snoc z.awaited.waiters t j.each_once (λ i. free_went seats t s at free f none ((j.awaits t run).0 i ∙ ap (λ n. Some (Some n)) same))))
            | inr differ ↦ subst IsOnce (sym (c.same differ)) j.each_once
          ]

      gone_wants : (u : ℕ) (q : Running) (z k : Seat) → slice_get m.tasks u ≡ Some q → IsSeat P m seats u q z → Turned u z k → (o : Option ℕ)
          → k.waits ≡ Some o → Wants P q o
      gone_wants u q z k there j c o is =
          elim (same_or_not u t) [
            | inl own ↦ (
                let this : r ≡ q = some_same r q (sym present ∙ (ap (slice_get m.tasks) (sym own) ∙ there)) in
                let that : Some f ≡ o = some_same (Some f) o (sym (c.goes own) ∙ is) in
                subst (Wants P q) that (subst (λ (p : Running). Wants P p (Some f)) this (wants_of P m t r present (Some f) w)))
            | inr other ↦ j.wants o (sym (c.waits other) ∙ is)
          ]

      gone_sits : (u : ℕ) (q : Running) (z k : Seat) → slice_get seats u ≡ Some z → IsSeat P m seats u q z → Turned u z k
          → k.children.waiter ≡ sitter u k.children.count k.waits
      gone_sits u q z k there j c =
          elim (same_or_not u t) [
            | inl own ↦ (
                let this : s ≡ z = some_same s z (sym at ∙ (ap (slice_get seats) (sym own) ∙ there)) in
                c.sitting ∙ (sym (ap (λ (p : Seat). p.children.waiter) this) ∙ (no_waiter ∙ sym (ap (sitter u k.children.count) (c.goes own)))))
            | inr other ↦ c.sitting ∙ (j.waiter ∙ (ap (λ n. sitter u n z.waits) (sym c.count) ∙ ap (sitter u k.children.count) (sym (c.waits other))))
          ]

      pub gone_away : Parked P m seats new t (Some f)
      gone_away =
          record {
            seated = record {
              size = ap length y.is ∙ (set_length middle t (gone_for f y.before) ∙ (ap length x.is ∙ (set_length seats f (awaited_by t x.before) ∙ a.size)));
              each = λ u q k there seat. (
                  let z = seat_of P m seats a u q there in
                  let c = turned u z.0 z.1 in
                  let same : c.0 ≡ k = some_same c.0 k (sym c.1 ∙ seat) in
                  subst (λ j. IsSeat P m new u q j) same
                  (parked_seat gone_parents u q z.0 c.0 z.2 c.2.parent c.2.count c.2.value (gone_wants u q z.0 c.0 there z.2 c.2)
                  (gone_sits u q z.0 c.0 z.1 z.2 c.2) (gone_awaits u q z.0 c.0 z.1 z.2 c.2) (gone_once u q z.0 c.0 z.1 z.2 c.2)));
            };
            waits = ap (waiting_in new) gone ∙ ap (while_none f) (gone_values f (slice_get seats f) refl ∙ none);
            others = λ u other. by u other (slice_get seats u) refl;
          }
        where
          all_values : (u : ℕ) → value_at new u ≡ value_at seats u
          all_values u = gone_values u (slice_get seats u) refl

          by : (u : ℕ) → (u ≡ t → ⊥) → (o : Option Seat) → slice_get seats u ≡ o → waits_for new u ≡ waits_for seats u
          by u other None is = ap (waiting_in new) (none_there u is) ∙ sym (ap (waiting_in seats) is)
          by u other (Some z) is =
              let k = turned u z is in
              ap (waiting_in new) k.1
              ∙
              (ap (λ n. waits_by new n k.0.waits) k.2.count
              ∙
              (ap (waits_by new z.children.count) (k.2.waits other) ∙
              (waits_by_same seats new all_values z.children.count z.waits ∙ sym (ap (waiting_in seats) is))))

    -- what parking did
    pub parked : (o : Option ℕ) → IsWaiting P m t o → Parks seats t o new → Parked P m seats new t o
    parked None w x = sat_down w (x.is ∙ ap (λ (z : Seat). slice_set seats t (sits t z)) (some_same x.before s (sym x.present ∙ at)))
    parked (Some f) w (middle, x, y) = gone_away f w middle x y

-- A whole history without a race, and any other legal one.
use Rattle.std.proofs.Common.{◌≡◌, ◌≢◌, ℕ, zero, suc, ◌+◌, ◌<◌, ◌≤◌, List, [], ◌∷◌, length, reverse}
use Rattle.std.proofs.Common.{slice_get, slice_set, ◌⊎◌, inl, inr, refl, sym, ap, ◌∙◌, subst, arith}
use Rattle.std.specs.Prelude.{Option, Some, None, IsSome, ℤ}
use Rattle.std.proofs.lemmas.Bool.{cases_eq, cases_lt}
use Rattle.std.proofs.lemmas.Option.{same_Some}
use Rattle.std.proofs.lemmas.List.{length-reverse}
use Rattle.run_laws.proofs.Stuck.{cells_stay}
use Rattle.fut_base.specs.declared.record.Value.{Value}
use Rattle.fut_base.specs.declared.event.Event.{Event}
use Rattle.fut_base.specs.declared.event.Action.{Action}
use Rattle.fut_base.specs.declared.event.Action.TheVariants.{Reads, Writes, Spawns, Creates, Syncs, Gets, Ends}
use Rattle.fut_base.specs.Dag.{Among, block_of}
use Rattle.fut_base.specs.Sound.{tasks_by}
use Rattle.fut_base.specs.Racing.{IsAccess, IsWrite}
use Rattle.fut_syntax.specs.Trees as tree
use Rattle.task_machine.specs.Texts.{main_of}
use Rattle.task_machine.specs.State.{wish_of}
use Rattle.task_machine.specs.Machine.{Machine, Running, opening, begins, IsStep, Leads, EachEnded, Permits, AllHaveEnded, ended_with, child_of}
use Rattle.task_machine.proofs.Making.{child_comes}
use Rattle.task_machine.proofs.Places.{get_below}
use Rattle.task_machine.proofs.Stepping.{stands_at_one}
use Rattle.strand_laws.proofs.Links.{ev}
use Rattle.access_shards.proofs.Histories.{Stood, stood_lt}
use Rattle.run_laws.proofs.Pasts.{Came, came}
use Rattle.run_laws.proofs.Mirrored.{only, came_mirrors}
use Rattle.run_laws.proofs.Once.{ended_at, not_both}
use Rattle.run_laws.proofs.Sound.{ended_is}
use Rattle.clean_laws.specs.Same.{Names, Matched, Wider, SameValue, SameValues, SameOption, IsSameState, SameAction}
use Rattle.clean_laws.specs.Closed.{Makes, HasAll, HasAllOf, waited_by, IsDue, IsClosed}
use Rattle.clean_laws.specs.Traces.{events_by, SameTrace, IsSameRun}
use Rattle.clean_laws.proofs.Same.{wider_values, start_is_same, stands_at_same, wish_is_same, same_is_wider}
use Rattle.clean_laws.proofs.Closed.{same_block}
use Rattle.clean_laws.proofs.Tails.{IsTail, tail_same, tail_on, stood_tail, stood_head}
use Rattle.clean_laws.proofs.Walking.{has_at, has_down, closed_more, count_step, Next, walk, ended_stays, ended_all, ended_trace}
use Rattle.clean_laws.proofs.Paired.{Paired, SameTouch, Conflict, IsClean, conflict_in, same_cell}
use Rattle.clean_laws.proofs.Agreeing.{Agrees, agrees}
use Rattle.clean_laws.proofs.Matching.{SameBlock, IsSameTask, Cut, IsMatch, wider_task, same_acted, Born, step_match}

none_other : (names : Names) (o p : Option Value) → SameOption (Matched names) o p → o ≡ None → p ≡ None
none_other names None None h e = refl
none_other names None (Some w) h e = absurd h
none_other names (Some v) p h e = cc

some_other : (names : Names) (o p : Option Value) (v : Value) → SameOption (Matched names) o p → o ≡ Some v
    → (w : Value) × (p ≡ Some w) × SameValue (Matched names) v w
some_other names (Some x) (Some y) v h e = (y, refl, subst (λ z. SameValue (Matched names) z y) (same_Some _ _ e) h)
some_other names (Some x) None v h e = absurd h
some_other names None p v h e = cc

some_of : (o : Option Value) → IsSome o → (v : Value) × (o ≡ Some v)
some_of (Some v) h = (v, refl)
some_of None h = cc

no_get : {X : Type 0} (k : ℕ) (q : X) → slice_get [] k ≡ Some q → ⊥
no_get k q h = cc

-- ---- distinct places

abbrev pub Distinct : List ℕ → Type 0
Distinct [] = Unit {0}
Distinct (x ∷ xs) = (Among x xs → ⊥) × Distinct xs

pub record Without (n : ℕ) (xs : List ℕ) : Type 0 where
  pub rest : List ℕ
  pub distinct : Distinct rest
  pub short : length xs ≤ suc (length rest)
  pub from : (i : ℕ) → Among i rest → Among i xs × (i ≢ n)

without : (n : ℕ) (xs : List ℕ) → Distinct xs → Without n xs
without n [] d = record { rest = []; distinct = tt; short = omega arith; from = λ i a. absurd a }
without n (x ∷ xs) d = elim (cases_eq x n) [
  | inl e ↦ record { rest = xs; distinct = d.1; short = omega arith; from = λ i a. (inr a, λ q. d.0 (subst (λ z. Among z xs) (q ∙ sym e) a)) }
  | inr ne ↦ (
      let k = without n xs d.1 in
      record {
        rest = x ∷ k.rest;
        distinct = ((λ a. d.0 (k.from x a).0), k.distinct);
        short = (let s = k.short in omega (arith, s));
        from = λ i a. (elim a [ inl e ↦ (inl e, λ q. ne (e ∙ q)) | inr a ↦ (inr (k.from i a).0, (k.from i a).1) ]);
      })
]

few : (n : ℕ) (xs : List ℕ) → Distinct xs → ((i : ℕ) → Among i xs → i < n) → length xs ≤ n
few zero [] d f = omega arith
few zero (x ∷ xs) d f = absurd (let k = f x (inl refl) in omega (arith, k))
few (suc n) xs d f =
    let k = without n xs d in
    let s = k.short in
    let r = few n k.rest k.distinct (λ i a. (let o = k.from i a in let lt = f i o.0 in let ne = o.1 in omega (arith, lt, ne))) in
    omega (arith, s, r)

paired_length : (hp gp : List Event) (places : List ℕ) → Paired hp gp places
    → (length gp ≡ length places) × Distinct places × ((i : ℕ) → Among i places → i < length hp)
paired_length hp [] [] x = (refl, tt, λ i a. absurd a)
paired_length hp [] (j ∷ places) x = absurd x
paired_length hp (e ∷ gp) [] x = absurd x
paired_length hp (e ∷ gp) (j ∷ places) x =
    let k = paired_length hp gp places x.0 in
    (ap suc k.0, (x.2, k.1), λ i a. (elim a [ inl p ↦ (let lt = stood_lt hp j x.1.0 x.1.1 in omega (arith, lt, p)) | inr a ↦ k.2 i a ]))

-- numbers that are all there
record Taken (n : ℕ) (xs : List ℕ) : Type 0 where
  rest : List ℕ
  one : length xs ≡ suc (length rest)
  others : (i : ℕ) → i ≢ n → Among i xs → Among i rest

take_out : (n : ℕ) (xs : List ℕ) → Among n xs → Taken n xs
take_out n [] a = absurd a
take_out n (x ∷ xs) (inl e) = record { rest = xs; one = refl; others = λ i ne a. (elim a [ inl p ↦ absurd (ne (sym p ∙ e)) | inr a ↦ a ]) }
take_out n (x ∷ xs) (inr a) =
    let k = take_out n xs a in record { rest = x ∷ k.rest; one = ap suc k.one; others = λ i ne b. (elim b [ inl p ↦ inl p | inr b ↦ inr (k.others i ne b) ]) }

many : (n : ℕ) (xs : List ℕ) → ((i : ℕ) → i < n → Among i xs) → n ≤ length xs
many zero xs f = omega arith
many (suc n) xs f =
    let k = take_out n xs (f n (omega arith)) in
    let r = many n k.rest (λ i lt. k.others i (λ e. omega (arith, lt, e)) (f i (omega (arith, lt)))) in
    let o = k.one in
    omega (arith, r, o)

stood_some : (past : List Event) (i : ℕ) → i < length past → (d : Event) × Stood past i d
stood_some [] i lt = absurd (omega (arith, lt))
stood_some (e ∷ past) i lt = elim (cases_eq (length past) i) [
  | inl p ↦ (e, inl (p, refl))
  | inr ne ↦ (let k = stood_some past i (omega (arith, lt, ne)) in (k.0, inr k.1))
]

module _ (P : tree.Program) (h : List Event) (m : Machine) (leads : Leads P (opening P) h m) (ended : EachEnded m.tasks) (clean : IsClean h) where
  cm : Came P (reverse h) m
  cm = came P h m leads

  module _ (gp : List Event) (n : Machine) (came_g : Came P gp n) (places : List ℕ) (names : Names) (x : IsMatch P (reverse h) gp n places names) where
    -- all events of the mate of a task that has ended
    all_of : (c d : ℕ) (q : Running) (v : Value) → Matched names c d → slice_get n.tasks c ≡ Some q → q.value ≡ Some v → HasAll places (reverse h) d
    all_of c d q v mt is done =
        let cut = x.tasks c q is in
        let w = some_other names q.value (cut.task).value v cut.same.value done in
        subst (HasAll places (reverse h)) (x.mates c cut.mate d cut.matched mt)
        (ended_all P (reverse h) cut.older places cut.mate cut.task w.0 cut.machine m cut.came cut.present w.1 cut.all cm cut.tail)

    -- and the value with which it ended
    value_of_mate : (c d : ℕ) (q : Running) (v : Value) → Matched names c d → slice_get n.tasks c ≡ Some q → q.value ≡ Some v
        → (r : Running) × (w : Value) × (slice_get m.tasks d ≡ Some r) × (r.value ≡ Some w) × SameValue (Matched names) v w
    value_of_mate c d q v mt is done =
        let cut = x.tasks c q is in
        let w = some_other names q.value (cut.task).value v cut.same.value done in
        let stays = ended_stays P (reverse h) cut.older cut.mate cut.task w.0 cut.machine m cut.came cut.present w.1 cm cut.tail in
        (cut.task, w.0, subst (λ z. slice_get m.tasks z ≡ Some cut.task) (x.mates c cut.mate d cut.matched mt) stays, w.1, w.2)

    module _ (next : Machine) (older : List Event) (q after : Machine) (came_q : Came P older q) where
      abbrev pub Result : Event → Type 0
      Result e = (ps : List ℕ) × (ns : Names) × IsMatch P (reverse h) (e ∷ gp) next ps ns

      one_due : (d : Event) → IsTail (reverse h) (d ∷ older) → (c u : ℕ) (v : Value) → Matched names c u → ended_with n c ≡ Some v → HasAll places older u
      one_due d tail c u v mt is = let k =
          ended_is n c v is in has_down places (reverse h) older u (tail_on (reverse h) d older tail) (all_of c u k.0 v mt k.1 k.2)

      block_due : (d : Event) → IsTail (reverse h) (d ∷ older) → (cs us : List ℕ) → SameBlock names cs us → AllHaveEnded n cs → HasAllOf places older us
      block_due d tail [] [] s a = tt
      block_due d tail (c ∷ cs) (u ∷ us) s a = let k = some_of (ended_with n c) a.0 in (one_due d tail c u k.0 s.0 k.1, block_due d tail cs us s.1 a.1)
      block_due d tail [] (u ∷ us) s a = absurd s
      block_due d tail (c ∷ cs) [] s a = absurd s

      one_value : (d : Event) → IsTail (reverse h) (d ∷ older) → (c u : ℕ) (v w : Value) → Matched names c u → ended_with n c ≡ Some v
          → ended_with q u ≡ Some w → SameValue (Matched names) v w
      one_value d tail c u v w mt is at =
          let k = ended_is n c v is in
          let j = ended_is q u w at in
          let a = value_of_mate c u k.0 v mt k.1 k.2 in
          let b = ended_stays P (reverse h) older u j.0 w q m came_q j.1 j.2 cm (tail_on (reverse h) d older tail) in
          let same : a.0 ≡ j.0 = same_Some _ _ (sym a.2 ∙ b) in
          subst (SameValue (Matched names) v) (same_Some _ _ (sym a.3 ∙ ap (λ (z : Running). z.value) same ∙ j.2)) a.4

      due_of : (d : Event) → IsTail (reverse h) (d ∷ older) → (a b : Action) (r p : Running) → Agrees names a b → Permits n r a
          → SameBlock names r.block p.block → (bs : List ℕ) → bs ≡ p.block → HasAllOf places older (waited_by bs b)
      due_of d tail (Syncs _) (Syncs _) r p g may s bs is = subst (HasAllOf places older) (sym is) (block_due d tail r.block p.block s may.1)
      due_of d tail (Gets f v _) (Gets u _ _) r p g may s bs is = (one_due d tail f u v g may.1, tt)
      due_of d tail (Reads _ _) (Reads _ _) r p g may s bs is = tt
      due_of d tail (Writes _ _) (Writes _ _) r p g may s bs is = tt
      due_of d tail (Spawns _ _ _ _ _) (Spawns _ _ _ _ _) r p g may s bs is = tt
      due_of d tail (Creates _ _ _ _ _) (Creates _ _ _ _ _) r p g may s bs is = tt
      due_of d tail (Ends _) (Ends _) r p g may s bs is = tt
      due_of d tail _ _ r p g may s bs is = absurd g

      -- what is known of the event and its mate
      record Mates (e d : Event) : Type 0 where
        step : IsStep P n e next
        own : IsStep P q d after
        tail : IsTail (reverse h) (d ∷ older)
        stop : IsSameState (Matched names) step.stop own.stop
        task : IsSameTask names step.task own.task
        matched : Matched names e.task d.task
        all : HasAll places older d.task
        fresh : Among (length older) places → ⊥
        none : (i : ℕ) (b : Event) → length older ≤ i → Stood (reverse h) i b → b.task ≡ d.task → Among i places → ⊥
        due : IsDue places older d
        trace : SameTrace names (events_by e.task gp) (events_by d.task older)

      -- an action that makes no task
      plain : (e d : Event) (k : Mates e d) → SameAction (Matched names) e.action d.action → SameTouch e.action d.action
          → child_of P k.step.task e.action ≡ [] → ((u : ℕ) → Makes d.action u → ⊥) → Result e
      plain e d k same touch childless barren = (
        length older ∷ places,
        names,
        step_match P (reverse h) gp n next e k.step places names names x older d k.tail q after came_q k.own k.matched k.all k.fresh k.none k.due touch
            (λ f g r. r) k.trace same came_g
            (same_acted names k.step.task k.own.task k.step.stop k.own.stop e.action d.action k.task k.stop same)
            (λ r i is. absurd (no_get i r (subst (λ l. slice_get l i ≡ Some r) childless is)))
            (λ t u a. inl a)
            (λ u mk. absurd (barren u mk)),
      )

      -- an action that makes a task
      making : (e d : Event) (k : Mates e d) (code code' child child' kid kid' fut fut' : ℕ) (args args' : List Value) → child ≡ length n.tasks
          → child' ≡ length q.tasks → Makes d.action child' → ((u : ℕ) → Makes d.action u → child' ≡ u)
          → SameAction (Matched ((child, child') ∷ names)) e.action d.action → SameTouch e.action d.action
          → child_of P k.step.task e.action ≡ begins P code args kid fut ∷ [] → child_of P k.own.task d.action ≡ begins P code' args' kid' fut' ∷ []
          → code ≡ code' → SameValues (Matched names) args args' → tasks_by e.action ≡ 1 → Result e
      making e d k code code' child child' kid kid' fut fut' args args' at at' mk one same touch has has' codes vals adds = (
        length older ∷ places,
        more,
        step_match P
            (reverse h) gp n next e k.step places names more x older d k.tail q after came_q k.own k.matched k.all k.fresh k.none k.due touch wider k.trace
            same came_g
            (same_acted more k.step.task k.own.task k.step.stop k.own.stop e.action d.action (wider_task names more wider k.step.task k.own.task k.task)
            (same_is_wider names more k.step.stop k.own.stop wider k.stop) same)
            (λ r i is. (let o = only (begins P code args kid fut) r i (subst (λ l. slice_get l i ≡ Some r) has is) in (o.0, child_born r o.1)))
            pairs
            (λ u k. (child, inl (ap (λ z. (child, z)) (one u k)))),
      )
        where
          more : Names
          more = (child, child') ∷ names

          wider : Wider (Matched names) (Matched more)
          wider f g r = inr r

          started : IsSameTask more (begins P code args kid fut) (begins P code' args' kid' fut')
          started =
              record {
                which = codes;
                state = subst
                    (λ z. IsSameState (Matched more) (begins P code args kid fut).state (begins P z args' kid' fut').state) codes
                    (start_is_same more P code args args' (wider_values (Matched names) (Matched more) wider args args' vals));
                block = tt;
                value = tt;
              }

          child_born : (r : Running) → begins P code args kid fut ≡ r → Born P more n after d r
          child_born r is =
              record {
                mate = child';
                matched = subst (λ z. Matched more z child') at (inl refl);
                makes = mk;
                task = begins P code' args' kid' fut';
                present = subst (λ z. slice_get after.tasks z ≡ Some (begins P code' args' kid' fut')) (sym at')
                    (child_comes P q d after (begins P code' args' kid' fut') k.own has');
                same = subst (λ z. IsSameTask more z (begins P code' args' kid' fut')) is started;
              }

          pairs : (t u : ℕ) → Matched more t u → Matched names t u ⊎ ((t ≡ length n.tasks) × Makes d.action u × (t < length next.tasks))
          pairs t u (inr a) = inl a
          pairs t u (inl z) =
              let a : child ≡ t = ap (λ (p : ℕ × ℕ). p.0) z in
              let b : child' ≡ u = ap (λ (p : ℕ × ℕ). p.1) z in
              let c = count_step P n e next k.step in
              inr (sym a ∙ at, subst (λ z. Makes d.action z) b mk, omega (arith, a, at, c, adds))

      -- what is read is the same
      read_same : (t s : ℕ) (c : ℕ) (v : ℤ) (u z c' : ℕ) (w : ℤ) → Mates (ev t s (Reads c v)) (ev u z (Reads c' w)) → c ≡ c' → v ≡ w
      read_same t s c v u z c' w k e =
          same_cell P h gp m n places leads clean x.paired older q c v w
          (tail_on (reverse h) (ev u z (Reads c' w)) older k.tail) came_q came_g below above k.step.permits
          (subst (λ y. slice_get q.cells y ≡ Some w) (sym e) k.own.permits)
        where
          here : Stood (reverse h) (length older) (ev u z (Reads c' w))
          here = stood_head (reverse h) older (ev u z (Reads c' w)) k.tail

          access : IsAccess c (Reads c' w)
          access = sym e

          below : (i : ℕ) (b : Event) (y : ℤ) → Stood older i b → b.action ≡ Writes c y → Among i places
          below i b y st is =
              let lt = stood_lt older i b st in
              let conflict : Conflict c b (ev u z (Reads c' w)) =
              record { one = subst (IsAccess c) (sym is) refl; other = access; write = inl (subst IsWrite (sym is) tt) } in
              let got = conflict_in P h m leads clean (length older ∷ places)
              (closed_more places (reverse h) older (ev u z (Reads c' w)) k.tail x.closed k.due) c i (length older) b (ev u z (Reads c' w))
              (stood_tail (reverse h) older i b (tail_on (reverse h) (ev u z (Reads c' w)) older k.tail) st) here lt conflict (inl refl) in
              elim got [ inl p ↦ absurd (omega (arith, p, lt)) | inr a ↦ a ]

          above : (i : ℕ) (b : Event) (y : ℤ) → Stood (reverse h) i b → b.action ≡ Writes c y → Among i places → i < length older
          above i b y st is a = elim (cases_lt i (length older)) [
            | inl lt ↦ lt
            | inr le ↦ elim (cases_eq (length older) i) [
              | inl p ↦ absurd (k.fresh (subst (λ z. Among z places) (sym p) a))
              | inr ne ↦
                  absurd
                  (k.fresh
                  (conflict_in P h m leads clean places x.closed c (length older) i (ev u z (Reads c' w)) b here st (omega (arith, le, ne))
                  (record { one = access; other = subst (IsAccess c) (sym is) refl; write = inr (subst IsWrite (sym is) tt) }) a))
            ]
          ]

      conclude : (t s : ℕ) (a : Action) (u z : ℕ) (b : Action) → Mates (ev t s a) (ev u z b) → Agrees names a b → Result (ev t s a)
      conclude t s (Reads c v) u z (Reads c' w) k g =
          plain (ev t s (Reads c v)) (ev u z (Reads c' w)) k (g, read_same t s c v u z c' w k g) (w, ap (λ y. Reads y w) (sym g)) refl (λ y mk. mk)
      conclude t s (Writes c v) u z (Writes c' w) k g =
          plain (ev t s (Writes c v)) (ev u z (Writes c' w)) k g (ap (λ y. Writes y w) (sym g.0) ∙ ap (λ y. Writes c y) (sym g.1)) refl (λ y mk. mk)
      conclude t s (Syncs i) u z (Syncs j) k g = plain (ev t s (Syncs i)) (ev u z (Syncs j)) k tt tt refl (λ y mk. mk)
      conclude t s (Gets f v i) u z (Gets f' w j) k g =
          plain (ev t s (Gets f v i)) (ev u z (Gets f' w j)) k
          (g, one_value (ev u z (Gets f' w j)) k.tail f f' v w g k.step.permits.1 k.own.permits.1) tt refl (λ y mk. mk)
      conclude t s (Ends v) u z (Ends w) k g = plain (ev t s (Ends v)) (ev u z (Ends w)) k g tt refl (λ y mk. mk)
      conclude t s (Spawns code c kid cont args) u z (Spawns code' c' kid' cont' args') k g =
          making (ev t s (Spawns code c kid cont args))
          (ev u z
          (Spawns code' c' kid' cont' args')) k code code' c c' kid kid' k.step.task.future k.own.task.future args args' k.step.permits.0 k.own.permits.0
          refl (λ y mk. mk)
          (g.0, inl refl, wider_values (Matched names) (Matched ((c, c') ∷ names)) (λ f g r. inr r) args args' g.1) tt refl refl g.0 g.1 refl
      conclude t s (Creates code c kid cont args) u z (Creates code' c' kid' cont' args') k g =
          making (ev t s (Creates code c kid cont args))
          (ev u z (Creates code' c' kid' cont' args')) k code code' c c' kid kid' c c' args args' k.step.permits.0 k.own.permits.0 refl (λ y mk. mk)
          (g.0, inl refl, wider_values (Matched names) (Matched ((c, c') ∷ names)) (λ f g r. inr r) args args' g.1) tt refl refl g.0 g.1 refl
      conclude t s _ u z _ k g = absurd g

    further : (e : Event) (next : Machine) → IsStep P n e next → (ps : List ℕ) × (ns : Names) × IsMatch P (reverse h) (e ∷ gp) next ps ns
    further e next step =
        let cut = x.tasks e.task step.task step.present in
        elim (walk P (reverse h) cut.older places cut.mate cut.task cut.machine m cut.came cut.present cut.all cm cut.tail) [
          | inr s ↦
              absurd
              (not_both (cut.task).value (none_other names step.task.value (cut.task).value cut.same.value step.running)
              (ended_at m.tasks cut.mate cut.task ended s.0))
          | inl y ↦ go cut y
        ]
      where
        go : (cut : Cut P (reverse h) gp places names e.task step.task) → Next P (reverse h) cut.older places cut.mate cut.task
            → (ps : List ℕ) × (ns : Names) × IsMatch P (reverse h) (e ∷ gp) next ps ns
        go cut y =
            let d = y.event in
            let own = y.step in
            let task_is : own.task ≡ cut.task = same_Some _ _ (sym own.present ∙ ap (slice_get (y.machine).tasks) y.task_is ∙ y.present) in
            let same : IsSameTask names step.task own.task = subst (IsSameTask names step.task) (sym task_is) cut.same in
            let stands = stands_at_same names step.task.state own.task.state step.stop same.state step.stands in
            let stop : IsSameState (Matched names) step.stop own.stop =
            subst (IsSameState (Matched names) step.stop) (stands_at_one own.task.state stands.0 own.stop stands.1 own.stands) stands.2 in
            let agree = agrees names (wish_of P step.stop) (wish_of P own.stop) e.action d.action
            (wish_is_same names P step.stop own.stop stop) step.answers own.answers in
            let later : length cut.older ≤ length y.older = y.later in
            let all : HasAll places y.older d.task = subst (HasAll places y.older) (sym y.task_is) y.all in
            let block : block_of y.older d.task ≡ own.task.block =
            sym (same_block y.older d.task) ∙ ((came_mirrors P y.older y.machine y.came).each d.task own.task own.present).block in
            conclude next y.older y.machine y.next y.came e.task e.strand e.action d.task d.strand d.action
            (record {
              step = step;
              own = own;
              tail = y.tail;
              stop = stop;
              task = same;
              matched = subst (Matched names e.task) (sym y.task_is) cut.matched;
              all = all;
              fresh = λ a. cut.none (length y.older) d later (stood_head (reverse h) y.older d y.tail) y.task_is a;
              none = λ i b le s tk a. cut.none i b (omega (arith, le, later)) s (tk ∙ y.task_is) a;
              due = (
                all,
                due_of next y.older y.machine y.next y.came d y.tail e.action d.action step.task own.task agree step.permits same.block
                    (block_of y.older d.task) block,
              );
              trace = subst (λ z. SameTrace names (events_by e.task gp) (events_by z y.older)) (sym y.task_is)
                  (subst (λ z. SameTrace names (events_by e.task gp) z) (sym y.trace) cut.trace);
            }) agree

  -- ---- the start

  closed_nil : (hp : List Event) → IsClosed [] hp
  closed_nil [] = tt
  closed_nil (e ∷ hp) = (closed_nil hp, λ a. absurd a)

  tail_nil : (hp : List Event) → IsTail hp []
  tail_nil [] = refl
  tail_nil (e ∷ hp) = inr (tail_nil hp)

  start_match : IsMatch P (reverse h) [] (opening P) [] ((0, 0) ∷ [])
  start_match =
      record {
        paired = tt;
        closed = closed_nil (reverse h);
        tasks = λ t q is. (let o = only (begins P (main_of P) [] 0 0) q t is in cut t q o.0 o.1);
        below = λ t u k. (elim k [ inl e ↦ (let z : 0 ≡ t = ap (λ (p : ℕ × ℕ). p.0) e in omega (arith, z)) | inr a ↦ absurd a ]);
        mates = λ t u v a b. sym (zero_right t u a) ∙ zero_right t v b;
        single = λ t s u a b. sym (zero_left t u a) ∙ zero_left s u b;
        made = λ i d u s a mk. absurd a;
        zero = inl refl;
      }
    where
      zero_left : (t u : ℕ) → Matched ((0, 0) ∷ []) t u → 0 ≡ t
      zero_left t u (inl e) = ap (λ (p : ℕ × ℕ). p.0) e
      zero_left t u (inr a) = absurd a

      zero_right : (t u : ℕ) → Matched ((0, 0) ∷ []) t u → 0 ≡ u
      zero_right t u (inl e) = ap (λ (p : ℕ × ℕ). p.1) e
      zero_right t u (inr a) = absurd a

      cut : (t : ℕ) (q : Running) → t ≡ 0 → begins P (main_of P) [] 0 0 ≡ q → Cut P (reverse h) [] [] ((0, 0) ∷ []) t q
      cut t q at is =
          record {
            mate = 0;
            matched = inl (ap (λ z. (z, 0)) (sym at));
            older = [];
            tail = tail_nil (reverse h);
            machine = opening P;
            came = refl;
            task = begins P (main_of P) [] 0 0;
            present = refl;
            same = subst (λ z. IsSameTask ((0, 0) ∷ []) z (begins P (main_of P) [] 0 0)) is
                (record { which = refl; state = start_is_same ((0, 0) ∷ []) P (main_of P) [] [] tt; block = tt; value = tt });
            all = tt;
            trace = tt;
            none = λ i d le s tk a. a;
          }

  pub matches : (gp : List Event) (n : Machine) → Came P gp n → (ps : List ℕ) × (ns : Names) × IsMatch P (reverse h) gp n ps ns
  matches [] n c = ([], (0, 0) ∷ [], subst (λ z. IsMatch P (reverse h) [] z [] ((0, 0) ∷ [])) c start_match)
  matches (e ∷ gp) n (k, c, step) = let x = matches gp k c in further gp k c x.0 x.1 x.2 e n step

  -- ---- the end

  module _ (gp : List Event) (n : Machine) (came_g : Came P gp n) (done : EachEnded n.tasks) (places : List ℕ) (names : Names)
      (x : IsMatch P (reverse h) gp n places names) where
    get_some : (xs : List Running) (i : ℕ) → i < length xs → (r : Running) × (slice_get xs i ≡ Some r)
    get_some [] i lt = absurd (omega (arith, lt))
    get_some (y ∷ xs) zero lt = (y, refl)
    get_some (y ∷ xs) (suc i) lt = get_some xs i (omega (arith, lt))

    mate_all : (t u : ℕ) → Matched names t u → HasAll places (reverse h) u
    mate_all t u mt =
        let k = get_some n.tasks t (x.below t u mt) in
        let v = some_of (k.0).value (ended_at n.tasks t k.0 done k.1) in
        all_of gp n came_g places names x t u k.0 v.0 mt k.1 v.1

    makes_of : (q : Machine) (r : Running) (a : Action) (u : ℕ) → Permits q r a → length q.tasks ≤ u → u < length q.tasks + tasks_by a → Makes a u
    makes_of q r (Spawns _ c _ _ _) u p le lt = omega (arith, le, lt, p.0)
    makes_of q r (Creates _ c _ _ _) u p le lt = omega (arith, le, lt, p.0)
    makes_of q r (Reads _ _) u p le lt = omega (arith, le, lt)
    makes_of q r (Writes _ _) u p le lt = omega (arith, le, lt)
    makes_of q r (Syncs _) u p le lt = omega (arith, le, lt)
    makes_of q r (Gets _ _ _) u p le lt = omega (arith, le, lt)
    makes_of q r (Ends _) u p le lt = omega (arith, le, lt)

    -- each task of the history is a mate
    mates_all : (past : List Event) (q : Machine) → Came P past q → IsTail (reverse h) past → (u : ℕ) → u < length q.tasks → (t : ℕ) × Matched names t u
    mates_all [] q c l u lt =
        let one : length q.tasks ≡ 1 = ap (λ (z : Machine). length z.tasks) (sym c) in
        let z : 0 ≡ u = omega (arith, lt, one) in (0, subst (λ i. Matched names 0 i) z x.zero)
    mates_all (e ∷ past) q (k, c, step) l u lt = elim (cases_lt u (length k.tasks)) [
      | inl old ↦ mates_all past k c (tail_on (reverse h) e past l) u old
      | inr new ↦ (
          let t = mates_all past k c (tail_on (reverse h) e past l) e.task (get_below k.tasks e.task step.task step.present) in
          let here = stood_head (reverse h) past e l in
          let among : Among (length past) places = has_at places (reverse h) e.task (length past) e (mate_all t.0 e.task t.1) here (inl refl) in
          let g = count_step P k e q step in
          x.made (length past) e u here among (makes_of k step.task e.action u step.permits new (omega (arith, lt, g))))
    ]

    -- all events of the history are matched
    all_there : (past : List Event) (q : Machine) → Came P past q → IsTail (reverse h) past → (i : ℕ) (d : Event) → Stood past i d → Among i places
    all_there [] q c l i d s = absurd s
    all_there (e ∷ past) q (k, c, step) l i d (inl s) =
        let t = mates_all past k c (tail_on (reverse h) e past l) e.task (get_below k.tasks e.task step.task step.present) in
        subst (λ z. Among z places) s.0
        (has_at places (reverse h) e.task (length past) e (mate_all t.0 e.task t.1) (stood_head (reverse h) past e l) (inl refl))
    all_there (e ∷ past) q (k, c, step) l i d (inr s) = all_there past k c (tail_on (reverse h) e past l) i d s

    pub one_cell : (c : ℕ) (v w : ℤ) → slice_get n.cells c ≡ Some v → slice_get m.cells c ≡ Some w → v ≡ w
    one_cell c v w at_g at_h =
        same_cell P h gp m n places leads clean x.paired (reverse h) m c v w (tail_same (reverse h)) cm came_g
        (λ i d y s is. all_there (reverse h) m cm (tail_same (reverse h)) i d s) (λ i d y s is a. stood_lt (reverse h) i d s) at_g at_h

    pub same_run : (g : List Event) → gp ≡ reverse g → IsSameRun names g h n m
    same_run g is =
        record {
          count = counted;
          first = x.zero;
          inside = inside;
          lefts = λ t lt. (let k = get_some n.tasks t lt in let cut = x.tasks t k.0 k.1 in (cut.mate, cut.matched));
          rights = λ u lt. mates_all (reverse h) m cm (tail_same (reverse h)) u lt;
          mates = x.mates;
          single = x.single;
          tasks = λ t u q r mt at on. two t u q r mt at on;
          traces = λ t u mt. subst (λ z. SameTrace names (events_by t z) (events_by u (reverse h))) is (one t u mt);
        }
      where
        counted : length g ≡ length h
        counted =
            let k = paired_length (reverse h) gp places x.paired in
            let f = few (length (reverse h)) places k.1 k.2 in
            let o = many (length (reverse h)) places
            (λ i lt. (let s = stood_some (reverse h) i lt in all_there (reverse h) m cm (tail_same (reverse h)) i s.0 s.1)) in
            let a = length-reverse h in
            let b = ap length is ∙ length-reverse g in
            omega (arith, f, o, k.0, a, b)

        inside : (t u : ℕ) → Matched names t u → (t < length n.tasks) × (u < length m.tasks)
        inside t u mt =
            let k = get_some n.tasks t (x.below t u mt) in
            let v = some_of (k.0).value (ended_at n.tasks t k.0 done k.1) in
            let cut = x.tasks t k.0 k.1 in
            let w = some_other names (k.0).value (cut.task).value v.0 cut.same.value v.1 in
            let stays = ended_stays P (reverse h) cut.older cut.mate cut.task w.0 cut.machine m cut.came cut.present w.1 cm cut.tail in
            (x.below t u mt, get_below m.tasks u cut.task (ap (slice_get m.tasks) (sym (x.mates t cut.mate u cut.matched mt)) ∙ stays))

        two : (t u : ℕ) (q r : Running) → Matched names t u → slice_get n.tasks t ≡ Some q → slice_get m.tasks u ≡ Some r
            → (q.which ≡ r.which) × SameOption (Matched names) q.value r.value
        two t u q r mt at on =
            let v = some_of q.value (ended_at n.tasks t q done at) in
            let cut = x.tasks t q at in
            let w = some_other names q.value (cut.task).value v.0 cut.same.value v.1 in
            let stays = ended_stays P (reverse h) cut.older cut.mate cut.task w.0 cut.machine m cut.came cut.present w.1 cm cut.tail in
            let same : cut.task ≡ r = same_Some _ _ (sym stays ∙ ap (slice_get m.tasks) (x.mates t cut.mate u cut.matched mt) ∙ on) in
            (cut.same.which ∙ ap (λ (z : Running). z.which) same, subst (λ (z : Running). SameOption (Matched names) q.value z.value) same cut.same.value)

        one : (t u : ℕ) → Matched names t u → SameTrace names (events_by t gp) (events_by u (reverse h))
        one t u mt =
            let k = get_some n.tasks t (x.below t u mt) in
            let v = some_of (k.0).value (ended_at n.tasks t k.0 done k.1) in
            let cut = x.tasks t k.0 k.1 in
            let w = some_other names (k.0).value (cut.task).value v.0 cut.same.value v.1 in
            let e = ended_trace P (reverse h) cut.older places cut.mate cut.task w.0 cut.machine m cut.came cut.present w.1 cut.all cm cut.tail in
            subst (λ z. SameTrace names (events_by t gp) (events_by z (reverse h))) (x.mates t cut.mate u cut.matched mt)
            (subst (λ z. SameTrace names (events_by t gp) z) (sym e) cut.trace)

-- ---- lengths

set_length : (xs : List ℤ) (i : ℕ) (v : ℤ) → length (slice_set xs i v) ≡ length xs
set_length [] i v = refl
set_length (y ∷ xs) zero v = refl
set_length (y ∷ xs) (suc i) v = ap suc (set_length xs i v)

came_length : (P : tree.Program) (past : List Event) (m : Machine) → Came P past m → length m.cells ≡ length (opening P).cells
came_length P [] m c = ap (λ (z : Machine). length z.cells) (sym c)
came_length P (e ∷ past) m (q, c, step) = ap (λ (z : Machine). length z.cells) step.gives ∙ cells_stay e.action q.cells ∙ came_length P past q c

same_list : (xs ys : List ℤ) → length xs ≡ length ys → ((c : ℕ) (v w : ℤ) → slice_get xs c ≡ Some v → slice_get ys c ≡ Some w → v ≡ w) → xs ≡ ys
same_list [] [] l f = refl
same_list [] (y ∷ ys) l f = absurd (omega (arith, l))
same_list (x ∷ xs) [] l f = absurd (omega (arith, l))
same_list (x ∷ xs) (y ∷ ys) l f =
    let head : x ≡ y = f 0 x y refl refl in
    let rest : xs ≡ ys = same_list xs ys (omega (arith, l)) (λ c v w a b. f (suc c) v w a b) in
    ap (λ z. z ∷ xs) head ∙ ap (λ z. y ∷ z) rest

pub clean_all : Rattle.clean_laws.specs.Laws.CleanAll
clean_all P h g m n lh ended report lg =
    let clean : IsClean h = λ c i j r. (let a = report.whole c i j r in omega (arith, a.2)) in
    let cg : Came P (reverse g) n = came P g n lg in
    let x = matches P h m lh ended clean (reverse g) n cg in
    let k = paired_length (reverse h) (reverse g) x.0 x.2.paired in
    let f = few (length (reverse h)) x.0 k.1 k.2 in
    let a = length-reverse h in
    let b = length-reverse g in (
      omega (arith, f, k.0, a, b),
      λ done. sym (same_list n.cells m.cells (came_length P (reverse g) n cg ∙ sym (came_length P (reverse h) m (came P h m lh)))
          (λ c v w p q. one_cell P h m lh ended clean (reverse g) n cg done x.0 x.1 x.2 c v w p q)),
    )

pub clean_runs_are_same : Rattle.clean_laws.specs.Laws.CleanRunsAreSame
clean_runs_are_same P h g m n lh ended report lg done =
    let clean : IsClean h = λ c i j r. (let a = report.whole c i j r in omega (arith, a.2)) in
    let cg : Came P (reverse g) n = came P g n lg in
    let x = matches P h m lh ended clean (reverse g) n cg in
    (x.1, same_run P h m lh ended clean (reverse g) n cg done x.0 x.1 x.2 g refl)

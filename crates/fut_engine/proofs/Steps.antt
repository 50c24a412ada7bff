-- What a step changes of the tasks.
use Rattle.std.proofs.Common.{◌≡◌, ℕ, zero, suc, ◌+◌, List, [], ◌∷◌, ◌++◌, ◌⊎◌, inl, inr, refl, sym, ap, ◌∙◌, subst, arith}
use Rattle.std.specs.Prelude.{Option, Some, None, IsSome, option_and_then, slice_get}
use Rattle.std.proofs.lemmas.Bool.{false≢true}
use Rattle.fut_base.specs.declared.record.Value.{Value}
use Rattle.fut_base.specs.declared.event.Event.{Event}
use Rattle.fut_base.specs.declared.event.Action.{Action}
use Rattle.fut_base.specs.declared.event.Action.TheVariants.{Reads, Writes, Spawns, Creates, Syncs, Gets, Ends}
use Rattle.fut_base.specs.Dag.{Among}
use Rattle.fut_base.specs.Sound.{value_by}
use Rattle.fut_syntax.specs.Trees as tree
use Rattle.task_machine.specs.State.{TaskState, Wish, ToSync, ToGet, wish_of, Answers}
use Rattle.task_machine.specs.Runs.{StandsAt}
use Rattle.task_machine.specs.Machine.{Machine, Running, opening, begins, acted, after, child_of, ended_with, AllHaveEnded, Permits, IsStep, IsAllowed, Leads}
use Rattle.task_machine.proofs.Making.{acting_task, others_stay}
use Rattle.task_machine.proofs.Places.{Behind, get_set_append}
use Rattle.task_machine.proofs.Stepping.{stands_at_one}
use Rattle.run_laws.proofs.Making.{evaluation_makes_no_handle}
use Rattle.run_laws.proofs.Waits.{handles_stand_before}
use Rattle.run_replay.specs.Next.{IsWaiting}
use Rattle.strand_laws.proofs.Places.{same_or_not}
use Rattle.fut_engine.specs.Wholes.{IsOnce, Wants, still, unended}
use Rattle.fut_engine.proofs.Lists.{some_same}

abbrev pub value_in : Option Running → Option Value
value_in o = option_and_then (λ (r : Running). r.value) o

child_fresh : (P : tree.Program) (r : Running) (a : Action) (k : ℕ) (q : Running) → slice_get (child_of P r a) k ≡ Some q → q.value ≡ None
child_fresh P r (Spawns code child kid cont args) zero q h = subst (λ (x : Running). x.value ≡ None) (some_same (begins P code args kid r.future) q h) refl
child_fresh P r (Spawns code child kid cont args) (suc k) q h = cc
child_fresh P r (Creates code child kid cont args) zero q h = subst (λ (x : Running). x.value ≡ None) (some_same (begins P code args kid child) q h) refl
child_fresh P r (Creates code child kid cont args) (suc k) q h = cc
child_fresh P r (Reads _ _) k q h = cc
child_fresh P r (Writes _ _) k q h = cc
child_fresh P r (Syncs _) k q h = cc
child_fresh P r (Gets _ _ _) k q h = cc
child_fresh P r (Ends _) k q h = cc

module _ (P : tree.Program) (m : Machine) (e : Event) (n : Machine) (step : IsStep P m e n) where
  -- a task after the step is the one that acted, an older one, or a new one
  pub places : (u : ℕ) (q : Running) → slice_get n.tasks u ≡ Some q
      → ((u ≡ e.task) × (acted step.task step.stop e.action ≡ q))
      ⊎ (((u ≡ e.task → ⊥) × (slice_get m.tasks u ≡ Some q)) ⊎ Behind m.tasks (child_of P step.task e.action) u q)
  places u q h =
      elim (same_or_not u e.task) [
        | inl same ↦
            inl (same, some_same (acted step.task step.stop e.action) q (sym (acting_task P m e n step) ∙ subst (λ k. slice_get n.tasks k ≡ Some q) same h))
        | inr other ↦
            elim (get_set_append m.tasks (child_of P step.task e.action) e.task (acted step.task step.stop e.action) u q
            (subst (λ (z : Machine). slice_get z.tasks u ≡ Some q) step.gives h)) [
              | inl own ↦ absurd (other own.0)
              | inr x ↦ elim x [ inl old ↦ inr (inl (other, old)) | inr new ↦ inr (inr new) ]
            ]
      ]

  none_new : (u : ℕ) → (u ≡ e.task → ⊥) → slice_get m.tasks u ≡ None → (o : Option Running) → slice_get n.tasks u ≡ o → ended_with n u ≡ None
  none_new u other none None h = ap value_in h
  none_new u other none (Some q) h =
      elim (places u q h) [
        | inl own ↦ absurd (other own.0)
        | inr x ↦ elim x [
          | inl old ↦ absurd (let k : None ≡ Some q = sym none ∙ old.1 in cc)
          | inr new ↦ ap value_in h ∙ child_fresh P step.task e.action new.0 q new.2
        ]
      ]

  by_old : (u : ℕ) → (u ≡ e.task → ⊥) → (o : Option Running) → slice_get m.tasks u ≡ o → ended_with n u ≡ ended_with m u
  by_old u other (Some q) is = ap value_in (others_stay P m e n u q step other is ∙ sym is)
  by_old u other None is = none_new u other is (slice_get n.tasks u) refl ∙ sym (ap value_in is)

  -- the others have ended as before
  pub ended_else : (u : ℕ) → (u ≡ e.task → ⊥) → ended_with n u ≡ ended_with m u
  ended_else u other = by_old u other (slice_get m.tasks u) refl

  pub ended_own : ended_with n e.task ≡ value_by e.action step.task.value
  ended_own = ap value_in (acting_task P m e n step)

  pub ran : ended_with m e.task ≡ None
  ran = ap value_in step.present ∙ step.running

-- ---- how many of some tasks have not ended

pub unended_same : (m n : Machine) (cs : List ℕ) → ((c : ℕ) → Among c cs → ended_with n c ≡ ended_with m c) → unended n cs ≡ unended m cs
unended_same m n [] f = refl
unended_same m n (c ∷ cs) f =
    let head = ap still (f c (inl refl)) in
    let rest = unended_same m n cs (λ d i. f d (inr i)) in
    omega (arith, head, rest)

pub unended_less : (m n : Machine) (t : ℕ) (v : Value) (cs : List ℕ) → Among t cs → IsOnce cs → ended_with m t ≡ None → ended_with n t ≡ Some v
    → ((c : ℕ) → (c ≡ t → ⊥) → ended_with n c ≡ ended_with m c) → unended n cs + 1 ≡ unended m cs
unended_less m n t v [] a once none some f = absurd a
unended_less m n t v (c ∷ cs) (inl same) once none some f =
    let rest = unended_same m n cs (λ d i. f d (λ e. once.0 (subst (λ z. Among z cs) (e ∙ sym same) i))) in
    let a : still (ended_with n c) ≡ 0 = ap (λ z. still (ended_with n z)) same ∙ ap still some in
    let b : still (ended_with m c) ≡ 1 = ap (λ z. still (ended_with m z)) same ∙ ap still none in
    omega (arith, rest, a, b)
unended_less m n t v (c ∷ cs) (inr i) once none some f =
    let head = ap still (f c (λ e. once.0 (subst (λ z. Among z cs) (sym e) i))) in
    let rest = unended_less m n t v cs i once.1 none some f in
    omega (arith, head, rest)

pub unended_more : (m : Machine) (cs : List ℕ) (d : ℕ) → unended m (cs ++ d ∷ []) ≡ unended m cs + still (ended_with m d)
unended_more m [] d = omega arith
unended_more m (c ∷ cs) d = let rest = unended_more m cs d in omega (arith, rest)

still_none : (o : Option Value) → still o ≡ 0 → IsSome o
still_none None h = absurd (omega (arith, h))
still_none (Some v) h = refl

still_some : (o : Option Value) → IsSome o → still o ≡ 0
still_some None h = absurd (false≢true h)
still_some (Some v) h = refl

pub all_ended : (m : Machine) (cs : List ℕ) → unended m cs ≡ 0 → AllHaveEnded m cs
all_ended m [] h = tt
all_ended m (c ∷ cs) h = (still_none (ended_with m c) (omega (arith, h)), all_ended m cs (omega (arith, h)))

pub none_unended : (m : Machine) (cs : List ℕ) → AllHaveEnded m cs → unended m cs ≡ 0
none_unended m [] a = refl
none_unended m (c ∷ cs) a = let head = still_some (ended_with m c) a.0 in let rest = none_unended m cs a.1 in omega (arith, head, rest)

-- ---- wishes that wait

same_task : (m : Machine) (t : ℕ) (r q : Running) → slice_get m.tasks t ≡ Some r → slice_get m.tasks t ≡ Some q → q ≡ r
same_task m t r q a b = some_same q r (sym b ∙ a)

syncs_when : (m : Machine) (r : Running) (w : Wish) (a : Action) → w ≡ ToSync → Answers w a → Permits m r a → AllHaveEnded m r.block
syncs_when m r w (Syncs strand) is answers may = may.1
syncs_when m r w (Reads _ _) is answers may = cc
syncs_when m r w (Writes _ _) is answers may = cc
syncs_when m r w (Spawns _ _ _ _ _) is answers may = cc
syncs_when m r w (Creates _ _ _ _ _) is answers may = cc
syncs_when m r w (Gets _ _ _) is answers may = cc
syncs_when m r w (Ends _) is answers may = cc

gets_when : (m : Machine) (r : Running) (w : Wish) (a : Action) (future : ℕ) → w ≡ ToGet future → Answers w a → Permits m r a
    → (v : Value) × (ended_with m future ≡ Some v)
gets_when m r w (Gets f value strand) future is answers may =
    (value, (let e : ToGet f ≡ ToGet future = sym answers ∙ is in let same : f ≡ future = cc in subst (λ k. ended_with m k ≡ Some value) same may.1))
gets_when m r w (Reads _ _) future is answers may = cc
gets_when m r w (Writes _ _) future is answers may = cc
gets_when m r w (Spawns _ _ _ _ _) future is answers may = cc
gets_when m r w (Creates _ _ _ _ _) future is answers may = cc
gets_when m r w (Syncs _) future is answers may = cc
gets_when m r w (Ends _) future is answers may = cc

module _ (P : tree.Program) (m : Machine) (t : ℕ) (r : Running) (present : slice_get m.tasks t ≡ Some r) where
  answered : (stop : TaskState) → StandsAt r.state stop → IsAllowed P m t → (a : Action) × Answers (wish_of P stop) a × Permits m r a
  answered stop at (e, is, n, step) =
      let same : step.task ≡ r = same_task m t r step.task present (subst (λ k. slice_get m.tasks k ≡ Some step.task) is step.present) in
      let stands = subst (λ (q : Running). StandsAt q.state step.stop) same step.stands in (
        e.action,
        subst (λ s. Answers (wish_of P s) e.action) (stands_at_one r.state step.stop stop stands at) step.answers,
        subst (λ q. Permits m q e.action) same step.permits,
      )

  -- the wish of a task that waits for its children is allowed exactly where they have all ended
  pub sync_needs : Wants P r None → IsAllowed P m t → AllHaveEnded m r.block
  sync_needs w may = let a = answered w.stop w.stands may in syncs_when m r (wish_of P w.stop) a.0 w.wish a.1 a.2

  pub sync_may : Wants P r None → AllHaveEnded m r.block → IsAllowed P m t
  sync_may w all = (
    record { task = t; strand = r.strand; action = Syncs m.strands },
    refl,
    after P m (record { task = t; strand = r.strand; action = Syncs m.strands }) r w.stop,
    record {
      task = r;
      stop = w.stop;
      present = present;
      running = w.runs;
      strand = refl;
      stands = w.stands;
      answers = w.wish;
      permits = (refl, all);
      gives = refl;
    },
  )

  pub get_needs : (f : ℕ) → Wants P r (Some f) → IsAllowed P m t → (v : Value) × (ended_with m f ≡ Some v)
  get_needs f w may = let a = answered w.stop w.stands may in gets_when m r (wish_of P w.stop) a.0 f w.wish a.1 a.2

  pub get_may : (f : ℕ) (v : Value) → Wants P r (Some f) → ended_with m f ≡ Some v → IsAllowed P m t
  get_may f v w some = (
    record { task = t; strand = r.strand; action = Gets f v m.strands },
    refl,
    after P m (record { task = t; strand = r.strand; action = Gets f v m.strands }) r w.stop,
    record {
      task = r;
      stop = w.stop;
      present = present;
      running = w.runs;
      strand = refl;
      stands = w.stands;
      answers = w.wish;
      permits = (refl, some);
      gives = refl;
    },
  )

  -- a future that a task waits for exists
  pub future_is : (h : List Event) → Leads P (opening P) h m → (f : ℕ) → Wants P r (Some f) → (q : Running) × (slice_get m.tasks f ≡ Some q) × (q.future ≡ f)
  future_is h l f w =
      let (limit, most, (k, below, steps, stop)) = w.stands in
      let b = handles_stand_before P h m t r l present f (inl (k, w.stop, steps, (evaluation_makes_no_handle P w.stop).got f w.wish)) in
      (b.stands.task, b.stands.present, b.root)

  -- what waits stands at such a wish
  pub wants_of : (o : Option ℕ) → IsWaiting P m t o → Wants P r o
  wants_of o w =
      let same : w.task ≡ r = same_task m t r w.task present w.running.0 in
      record {
        runs = subst (λ (q : Running). q.value ≡ None) same w.running.1;
        stop = w.stop;
        stands = subst (λ (q : Running). StandsAt q.state w.stop) same w.stands;
        wish = w.wish;
      }

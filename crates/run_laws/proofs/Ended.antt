-- Each task ends once, and a get stands after the end that it waited for.
use Rattle.std.proofs.Common.{◌≡◌, ◌≢◌, ℕ, ◌+◌, ◌≤◌, Bool, true, false, ◌==◌, List, [], ◌∷◌, ◌++◌, ◌⊎◌, inl, inr, refl, sym, ap, ◌∙◌, subst, arith}
use Rattle.std.specs.Prelude.{◌&&◌, Option, Some, None, IsSome, is_some, count_by, slice_get}
use Rattle.std.proofs.lemmas.Option.{same_Some}
use Rattle.std.proofs.lemmas.Bool.{eqb-true, cases_Bool}
use Rattle.fut_base.proofs.Members.{among_left}
use Rattle.fut_base.proofs.Cases.{by_eq}
use Rattle.fut_base.specs.declared.record.Value.{Value}
use Rattle.fut_base.specs.declared.event.Event.{Event}
use Rattle.fut_base.specs.declared.event.Action.{Action}
use Rattle.fut_base.specs.declared.event.Action.TheVariants.{Reads, Writes, Spawns, Creates, Syncs, Gets, Ends}
use Rattle.fut_base.specs.Dag.{Among, ends}
use Rattle.fut_base.specs.Sound.{value_by}
use Rattle.fut_syntax.specs.Trees as tree
use Rattle.task_machine.specs.Texts.{main_of}
use Rattle.task_machine.specs.Machine.{Machine, Running, opening, begins, acted, child_of, ended_with, Permits, IsStep, Leads}
use Rattle.task_machine.proofs.Leading.{split}
use Rattle.task_machine.proofs.Making.{acting_task, others_stay}
use Rattle.strand_laws.proofs.Links.{ev}
use Rattle.run_laws.specs.Laws.{ends_task, EndedOnce, ValueWasEnded, GetsFollowEnds}
use Rattle.run_laws.proofs.Mirrored.{only}
use Rattle.run_laws.proofs.Once.{comes, count_on, count_off, not_both}
use Rattle.run_laws.proofs.Sound.{ended_is}

pub record IsDone (m : Machine) (t : ℕ) : Type 0 where
  pub task : Running
  pub present : slice_get m.tasks t ≡ Some task
  pub done : IsSome task.value

ends_is : (t : ℕ) (e : Event) → ends_task t e ≡ true → (ends e.action ≡ true) × (e.task ≡ t)
ends_is t e h = go (ends e.action) h
  where
    go : (b : Bool) → (b && (e.task == t)) ≡ true → (b ≡ true) × (e.task ≡ t)
    go true k = (refl, eqb-true e.task t k)
    go false k = cc

ends_not : (t : ℕ) (e : Event) → e.task ≢ t → ends_task t e ≡ false
ends_not t e ne = elim (cases_Bool (ends_task t e)) [ inl st ↦ absurd (ne (ends_is t e st).1) | inr off ↦ off ]

done_next : (P : tree.Program) (m : Machine) (e : Event) (n : Machine) (t : ℕ) → IsStep P m e n → IsDone m t → (e.task ≢ t) × IsDone n t
done_next P m e n t x d =
    let ne : e.task ≢ t = λ k. (
    let same : x.task ≡ d.task = same_Some x.task d.task (sym x.present ∙ ap (λ z. slice_get m.tasks z) k ∙ d.present) in
    not_both d.task.value (sym (ap (λ (z : Running). z.value) same) ∙ x.running) d.done) in
    (ne, record { task = d.task; present = others_stay P m e n t d.task x (λ k. ne (sym k)) d.present; done = d.done })

done_rest : (P : tree.Program) (m : Machine) (h : List Event) (n : Machine) (t : ℕ) → Leads P m h n → IsDone m t → count_by (ends_task t) h ≡ 0
done_rest P m [] n t l d = refl
done_rest P m (e ∷ h) n t (next, step, rest) d =
    let k = done_next P m e next t step d in
    count_off (ends_task t) e h (ends_not t e k.0) ∙ done_rest P next h n t rest k.1

end_value : (a : Action) (o : Option Value) → ends a ≡ true → IsSome (value_by a o)
end_value (Reads _ _) o h = cc
end_value (Writes _ _) o h = cc
end_value (Spawns _ _ _ _ _) o h = cc
end_value (Creates _ _ _ _ _) o h = cc
end_value (Syncs _) o h = cc
end_value (Gets _ _ _) o h = cc
end_value (Ends v) o h = refl

ended_from : (P : tree.Program) (m : Machine) (h : List Event) (n : Machine) (t : ℕ) → Leads P m h n → count_by (ends_task t) h ≤ 1
ended_from P m [] n t l = omega arith
ended_from P m (e ∷ h) n t (next, step, rest) =
    elim (cases_Bool (ends_task t e)) [
      | inl st ↦ (
          let k = ends_is t e st in
          let d : IsDone next e.task =
          record { task = acted step.task step.stop e.action; present = acting_task P m e next step; done = end_value e.action step.task.value k.0 } in
          let none : count_by (ends_task t) h ≡ 0 = done_rest P next h n t rest (subst (λ z. IsDone next z) k.1 d) in
          let all : count_by (ends_task t) (e ∷ h) ≡ 1 + count_by (ends_task t) h = count_on (ends_task t) e h st in
          omega arith)
      | inr off ↦ (
          let ih : count_by (ends_task t) h ≤ 1 = ended_from P next h n t rest in
          let all : count_by (ends_task t) (e ∷ h) ≡ count_by (ends_task t) h = count_off (ends_task t) e h off in
          omega arith)
    ]

pub ended_once : EndedOnce
ended_once P h m t l = ended_from P (opening P) h m t l

-- ---- a value comes from an end

-- a task of the machine with this value
abbrev Has : Machine → ℕ → Value → Type 0
Has m t v = (r : Running) × (slice_get m.tasks t ≡ Some r) × (r.value ≡ Some v)

end_action : (a : Action) (v : Value) (o : Option Value) → o ≡ None → value_by a o ≡ Some v → a ≡ Ends v
end_action (Reads _ _) v o run h = cc
end_action (Writes _ _) v o run h = cc
end_action (Spawns _ _ _ _ _) v o run h = cc
end_action (Creates _ _ _ _ _) v o run h = cc
end_action (Syncs _) v o run h = cc
end_action (Gets _ _ _) v o run h = cc
end_action (Ends w) v o run h = let e : w ≡ v = same_Some w v h in ap (λ (z : Value). Ends z) e

child_runs : (P : tree.Program) (r : Running) (a : Action) (k : ℕ) (q : Running) → slice_get (child_of P r a) k ≡ Some q → q.value ≡ None
child_runs P r (Reads _ _) k q h = cc
child_runs P r (Writes _ _) k q h = cc
child_runs P r (Spawns code child kid cont args) k q h = sym (ap (λ (z : Running). z.value) (only (begins P code args kid r.future) q k h).1)
child_runs P r (Creates code child kid cont args) k q h = sym (ap (λ (z : Running). z.value) (only (begins P code args kid child) q k h).1)
child_runs P r (Syncs _) k q h = cc
child_runs P r (Gets _ _ _) k q h = cc
child_runs P r (Ends _) k q h = cc

module _ (P : tree.Program) (m : Machine) (t s : ℕ) (n : Machine) (f : ℕ) (v : Value) where
  had : (a : Action) → IsStep P m (ev t s a) n → Has n f v → Has m f v ⊎ (ev t s a ≡ ev f s (Ends v))
  had a x k =
      elim (comes P m (ev t s a) n x f k.0 k.1) [
        | inl own ↦ (
            let e : a ≡ Ends v = end_action a v x.task.value x.running (ap (λ (z : Running). z.value) own.1 ∙ k.2) in
            inr (ap (λ (z : ℕ). ev z s a) (sym own.0) ∙ ap (λ (z : Action). ev f s z) e))
        | inr other ↦ elim other [
          | inl old ↦ inl (k.0, old.1, k.2)
          | inr new ↦ absurd (not_both k.0.value (child_runs P x.task a new.0 k.0 new.2) (ap (λ (z : Option Value). is_some z) k.2))
        ]
      ]

has_from : (P : tree.Program) (m : Machine) (h : List Event) (n : Machine) (f : ℕ) (v : Value) → Leads P m h n → Has n f v
    → Has m f v ⊎ ((s : ℕ) × Among (ev f s (Ends v)) h)
has_from P m [] n f v l k = inl (subst (λ (z : Machine). Has z f v) (sym l) k)
has_from P m (e ∷ h) n f v (next, step, rest) k =
    elim (has_from P next h n f v rest k) [
      | inl now ↦ elim (had P m e.task e.strand next f v e.action step now) [
        | inl old ↦ inl old
        | inr is ↦ inr (e.strand, inl is)
      ]
      | inr later ↦ inr (later.0, inr later.1)
    ]

pub value_was_ended : ValueWasEnded
value_was_ended P h m f r v l present is =
    elim (has_from P (opening P) h m f v l (r, present, is)) [
      | inl first ↦ absurd (
          let e : begins P (main_of P) [] 0 0 ≡ first.0 = (only (begins P (main_of P) [] 0 0) first.0 f first.1).1 in
          not_both first.0.value (sym (ap (λ (z : Running). z.value) e)) (ap (λ (z : Option Value). is_some z) first.2))
      | inr k ↦ k
    ]

count_among : (p : Event → Bool) (d : Event) (h : List Event) → Among d h → p d ≡ true → 1 ≤ count_by p h
count_among p d [] a st = absurd a
count_among p d (e ∷ h) (inl same) st =
    let k : count_by p (e ∷ h) ≡ 1 + count_by p h = count_on p e h (subst (λ z. p z ≡ true) (sym same) st) in
    omega arith
count_among p d (e ∷ h) (inr a) st =
    let ih : 1 ≤ count_by p h = count_among p d h a st in
    elim (cases_Bool (p e)) [
      | inl on ↦ (let k : count_by p (e ∷ h) ≡ 1 + count_by p h = count_on p e h on in omega arith)
      | inr off ↦ (let k : count_by p (e ∷ h) ≡ count_by p h = count_off p e h off in omega arith)
    ]

got_value : (m : Machine) (r : Running) (a : Action) (f x : ℕ) (v : Value) → Permits m r a → a ≡ Gets f v x → ended_with m f ≡ Some v
got_value m r a f x v may is = let g : Permits m r (Gets f v x) = subst (λ z. Permits m r z) is may in g.1

ends_self : (f s : ℕ) (v : Value) → ends_task f (ev f s (Ends v)) ≡ true
ends_self f s v = by_eq (λ b. b ≡ true) f f (λ _. refl) (λ n. absurd (n refl))

pub gets_follow_ends : GetsFollowEnds
gets_follow_ends P before e later (m, l) f v x is =
    let k = split P (opening P) before (e ∷ later) m l in
    let step = k.2.1 in
    let had = ended_is k.0 f v (got_value k.0 step.task e.action f x v step.permits is) in
    let end = value_was_ended P before k.0 f had.0 v k.1 had.1 had.2 in
    let few : count_by (ends_task f) (before ++ e ∷ later) ≤ 1 = ended_once P (before ++ e ∷ later) m f l in
    let some : 1 ≤ count_by (ends_task f) (before ++ e ∷ later) =
    count_among (ends_task f) (ev f end.0 (Ends v)) (before ++ e ∷ later) (among_left (ev f end.0 (Ends v)) before (e ∷ later) end.1) (ends_self f end.0 v) in
    record { strand = end.0; earlier = end.1; once = omega arith }

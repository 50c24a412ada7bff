-- Tasks that have to wait by the book, and the counts of the book.
use Rattle.std.proofs.Common.{◌≡◌, ℕ, ◌+◌, ◌<◌, cond, List, [], ◌∷◌, inl, inr, refl, sym, ap, ◌∙◌, subst, arith, true≢false}
use Rattle.std.proofs.lemmas.Option.{same_Some}
use Rattle.std.specs.Prelude.{Option, Some, None, IsSome, is_some, reverse, count_by, slice_get}
use Rattle.fut_base.specs.declared.record.Value.{Value}
use Rattle.fut_base.specs.declared.event.Event.{Event}
use Rattle.fut_base.specs.declared.event.Action.{Action}
use Rattle.fut_base.specs.declared.event.Action.TheVariants.{Reads, Writes, Spawns, Creates, Syncs, Gets, Ends}
use Rattle.fut_base.specs.Events.{structural, structure_of}
use Rattle.fut_base.specs.Sound.{AllEnded, next_task, value_of}
use Rattle.task_machine.specs.State.{Wish, wish_of, Answers}
use Rattle.task_machine.specs.Runs.{StandsAt}
use Rattle.task_machine.specs.Machine.{Machine, Running, opening, Leads, AllHaveEnded, Permits, EachEnded, creates, create_count}
use Rattle.task_machine.proofs.Places.{get_below}
use Rattle.task_machine.proofs.Stepping.{stands_at_one, stands_or_goes_on}
use Rattle.run_laws.specs.Laws.{Mirrors}
use Rattle.run_laws.specs.Ready.{ready_of}
use Rattle.run_laws.proofs.Pasts.{kept_of}
use Rattle.run_laws.proofs.Sound.{end_seen, value_seen}
use Rattle.run_laws.proofs.Ready.{ready_is_first, none_is_ready, first_may_go_on}
use Rattle.run_laws.proofs.Typed.{well_typed_has_cells}
use Rattle.merge_laws.specs.Parts.{events_in, MayGoOn}
use Rattle.merge_laws.specs.Laws.{CreatesAreOfBook, AllowedByBook, NoneWaits}
use Rattle.merge_laws.proofs.Lists.{weight, count_next}
use Rattle.merge_laws.proofs.Merging.{structure_is, legal}
use Rattle.merge_laws.proofs.Ending.{kept, mirrors, state_there}

-- ---- creates

create_if : (e : Event) (a : Action) (rest : List Event) → e.action ≡ a → count_by (λ (d : Event). creates d.action) (cond (structural a) (e ∷ rest) rest)
    ≡ weight (creates e.action) + count_by (λ (d : Event). creates d.action) rest
create_if e (Reads _ _) rest is = let w : weight (creates e.action) ≡ 0 = ap (λ z. weight (creates z)) is in omega (arith, w)
create_if e (Writes _ _) rest is = let w : weight (creates e.action) ≡ 0 = ap (λ z. weight (creates z)) is in omega (arith, w)
create_if e (Spawns _ _ _ _ _) rest is = count_next (λ (d : Event). creates d.action) e rest
create_if e (Creates _ _ _ _ _) rest is = count_next (λ (d : Event). creates d.action) e rest
create_if e (Syncs _) rest is = count_next (λ (d : Event). creates d.action) e rest
create_if e (Gets _ _ _) rest is = count_next (λ (d : Event). creates d.action) e rest
create_if e (Ends _) rest is = count_next (λ (d : Event). creates d.action) e rest

same_creates : (h : List Event) → create_count h ≡ create_count (structure_of h)
same_creates [] = refl
same_creates (e ∷ h) =
    let n = count_next (λ (d : Event). creates d.action) e h in
    let i = create_if e e.action (structure_of h) refl in
    let r = same_creates h in
    omega (arith, n, i, r)

pub creates_are_of_book : CreatesAreOfBook
creates_are_of_book P n place book shards traces h run merge = same_creates h ∙ ap create_count (structure_is P n place book shards traces h run merge)

-- ---- waiting

some_value : (v : Value) (o : Option Value) → o ≡ Some v → IsSome o
some_value v o e = ap is_some e

no_some : (o : Option Value) → o ≡ None → IsSome o → ⊥
no_some o e s = true≢false (sym s ∙ ap is_some e)

module _ (past : List Event) (m : Machine) (x : Mirrors past m) (t : ℕ) (r : Running) (present : slice_get m.tasks t ≡ Some r) where
  ends_seen : (ts : List ℕ) → AllHaveEnded m ts → AllEnded past ts
  ends_seen [] h = tt
  ends_seen (c ∷ ts) h = (end_seen past m x c h.0, ends_seen ts h.1)

  goes_on : (w : Wish) (a : Action) → Answers w a → Permits m r a → MayGoOn past t w
  goes_on w (Reads _ _) is may = subst (MayGoOn past t) (sym is) tt
  goes_on w (Writes _ _) is may = subst (MayGoOn past t) (sym is) tt
  goes_on w (Spawns _ _ _ _ _) is may = subst (MayGoOn past t) (sym is) tt
  goes_on w (Creates _ _ _ _ _) is may = subst (MayGoOn past t) (sym is) tt
  goes_on w (Syncs _) is may = subst (MayGoOn past t) (sym is) (subst (AllEnded past) (sym (x.each t r present).block) (ends_seen r.block may.1))
  goes_on w (Gets future value _) is may = subst (MayGoOn past t) (sym is) (some_value value (value_of past future) (value_seen past m x future value may.1))
  goes_on w (Ends _) is may = subst (MayGoOn past t) (sym is) tt

pub allowed_by_book : AllowedByBook
allowed_by_book P n place book shards traces h run merge r a x m leads stop stands (e, task, next, step) =
    let q = state_there P n place book shards traces h run merge m leads r a x in
    let present : slice_get m.tasks r.0 ≡ Some step.task = ap (slice_get m.tasks) (sym task) ∙ step.present in
    let same : step.task ≡ q.0 = same_Some step.task q.0 (sym present ∙ q.1) in
    let state : step.task.state ≡ x.state = ap (λ (z : Running). z.state) same ∙ q.2 in
    let at : step.stop ≡ stop = stands_at_one x.state step.stop stop (subst (λ z. StandsAt z step.stop) state step.stands) stands in
    subst (λ z. MayGoOn (reverse (events_in book)) r.0 (wish_of P z)) at
    (subst (λ (l : List Event). MayGoOn l r.0 (wish_of P step.stop)) (sym (kept P n place book shards traces h run merge m leads))
    (goes_on (kept_of (reverse h)) m (mirrors P n place book shards traces h run merge m leads) r.0 step.task present
    (wish_of P step.stop) e.action step.answers step.permits))

pub none_waits : NoneWaits
none_waits P n place book shards traces h typed run merge f =
    let l = legal P n place book shards traces h run merge (well_typed_has_cells P typed) in
    (l.0, l.1, all l.0 l.1 (ready_of h) refl)
  where
    all : (m : Machine) → Leads P (opening P) h m → (ts : List ℕ) → ready_of h ≡ ts → EachEnded m.tasks
    all m leads [] e = (none_is_ready P h m leads).0 e
    all m leads (t ∷ ts) e =
        let first = ready_is_first P h m t ts leads e in
        let r : Running = first.0 in
        let runs = first.1.running in
        let back = kept P n place book shards traces h run merge m leads in
        let view = mirrors P n place book shards traces h run merge m leads in
        let below : t < next_task (reverse (events_in book)) =
        (let k = get_below m.tasks t r runs.0 in let c = view.tasks in let o = ap next_task back in omega (arith, k, c, o)) in
        let value : value_of (reverse (events_in book)) t ≡ None = ap (λ (p : List Event). value_of p t) back ∙ (view.each t r runs.0).value ∙ runs.1 in
        absurd (elim (f t below) [
          | inl ended ↦ no_some (value_of (reverse (events_in book)) t) value ended
          | inr (trace, there, x, (stop, stands, waits)) ↦ (
              let q = state_there P n place book shards traces h run merge m leads (t, trace) there x in
              let same : r ≡ q.0 = same_Some r q.0 (sym runs.0 ∙ q.1) in
              let state : x.state ≡ r.state = sym (ap (λ (z : Running). z.state) same ∙ q.2) in
              elim (first_may_go_on P h m t r typed leads first.1) [
                | inl out ↦ stands_or_goes_on r.state stop (subst (λ z. StandsAt z stop) state stands) out
                | inr goes ↦ waits (allowed_by_book P n place book shards traces h run merge (t, trace) there x m leads stop stands goes)
              ])
        ])

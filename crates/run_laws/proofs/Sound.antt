-- The structure of a legal history is sound.
use Rattle.std.proofs.Common.{◌≡◌, ℕ, ◌+◌, Bool, true, false, List, [], ◌∷◌, inl, inr, refl, sym, ap, ◌∙◌, subst}
use Rattle.std.specs.Prelude.{Option, Some, None, IsSome, is_some, option_map, option_and_then, reverse, slice_get}
use Rattle.std.proofs.lemmas.Bool.{cases_Bool}
use Rattle.fut_base.specs.declared.record.Value.{Value}
use Rattle.fut_base.specs.declared.event.Event.{Event}
use Rattle.fut_base.specs.declared.event.Action.{Action}
use Rattle.fut_base.specs.declared.event.Action.TheVariants.{Reads, Writes, Spawns, Creates, Syncs, Gets, Ends}
use Rattle.fut_base.specs.Events.{structural}
use Rattle.fut_base.specs.Dag.{last_of, block_of}
use Rattle.fut_base.specs.Sound.{AllEnded, HoldsValue, HoldsValues, IsSoundPast, MayAct, MayFollow, value_of}
use Rattle.fut_syntax.specs.Trees as tree
use Rattle.task_machine.specs.State.{Wish, ToEnd, wish_of, Answers}
use Rattle.task_machine.specs.Machine.{Machine, Running, opening, ended_with, AllHaveEnded, Permits, IsStep, Leads}
use Rattle.run_laws.specs.Laws.{Mirrors, LegalIsSound, past_of}
use Rattle.run_laws.proofs.Pasts.{Came, came, kept_of, past_is}
use Rattle.run_laws.proofs.Mirrored.{kept_on, kept_off, came_mirrors}
use Rattle.run_laws.proofs.Handles.{Each, HandsOut, stands_all, wish_all}
use Rattle.run_laws.proofs.Holding.{Holder, AllHold, is_filled, numbers, came_holds}

-- a task that the machine has with a value
pub ended_is : (m : Machine) (f : ℕ) (v : Value) → ended_with m f ≡ Some v → (r : Running) × (slice_get m.tasks f ≡ Some r) × (r.value ≡ Some v)
ended_is m f v h = go (slice_get m.tasks f) refl h
  where
    go : (o : Option Running) → slice_get m.tasks f ≡ o → option_and_then (λ (r : Running). r.value) o ≡ Some v
        → (r : Running) × (slice_get m.tasks f ≡ Some r) × (r.value ≡ Some v)
    go None e h = cc
    go (Some r) e h = (r, e, h)

some_is : {X : Type 0} (o : Option X) → IsSome o → (x : X) × (o ≡ Some x)
some_is None h = cc
some_is (Some x) h = (x, refl)

module _ (past : List Event) (m : Machine) (x : Mirrors past m) where
  pub value_seen : (f : ℕ) (v : Value) → ended_with m f ≡ Some v → value_of past f ≡ Some v
  value_seen f v h = let k = ended_is m f v h in (x.each f k.0 k.1).value ∙ k.2

  pub end_seen : (c : ℕ) → IsSome (ended_with m c) → IsSome (last_of past c)
  end_seen c h =
      let v = some_is (ended_with m c) h in
      let k = ended_is m c v.0 v.1 in
      let l : last_of past c ≡ Some k.0.strand = (x.each c k.0 k.1).last ∙ ap (λ o. option_map (λ (v : Value). k.0.strand) o) k.2 in
      ap (λ (o : Option ℕ). is_some o) l

  ends_seen : (cs : List ℕ) → AllHaveEnded m cs → AllEnded past cs
  ends_seen [] h = tt
  ends_seen (c ∷ cs) h = (end_seen c h.0, ends_seen cs h.1)

each_held : (past : List Event) (t : ℕ) (vs : List Value) → Each (HoldsValue past t) vs → HoldsValues past t vs
each_held past t [] h = tt
each_held past t (v ∷ vs) h = (h.0, each_held past t vs h.1)

not_filled : (b : List ℕ) → is_filled b ≡ false → b ≡ []
not_filled [] h = refl
not_filled (x ∷ b) h = cc

module _ (past : List Event) (m : Machine) (x : Mirrors past m) (t : ℕ) (r : Running) (present : slice_get m.tasks t ≡ Some r)
    (block : block_of past t ≡ r.block) (b : Bool) (closed : b ≡ is_filled r.block) (w : Wish) (out : HandsOut (HoldsValue past t) b w) where
  may_act : (a : Action) → structural a ≡ true → Answers w a → Permits m r a → MayAct past t a
  may_act (Reads _ _) st is may = cc
  may_act (Writes _ _) st is may = cc
  may_act (Spawns code child kid cont args) st is may = (
    may.0 ∙ sym x.tasks,
    may.1 ∙ sym x.strands,
    may.2 ∙ ap (λ n. n + 1) (sym may.1),
    each_held past t args (subst (λ (z : Wish). HandsOut (HoldsValue past t) b z) is out),
  )
  may_act (Creates code child kid cont args) st is may = (
    may.0 ∙ sym x.tasks,
    may.1 ∙ sym x.strands,
    may.2 ∙ ap (λ n. n + 1) (sym may.1),
    each_held past t args (subst (λ (z : Wish). HandsOut (HoldsValue past t) b z) is out),
  )
  may_act (Syncs strand) st is may = (may.0 ∙ sym x.strands, subst (λ l. AllEnded past l) (sym block) (ends_seen past m x r.block may.1))
  may_act (Gets future value strand) st is may = (
    may.0 ∙ sym x.strands,
    value_seen past m x future value may.1,
    subst (λ (z : Wish). HandsOut (HoldsValue past t) b z) is out,
  )
  may_act (Ends value) st is may =
      let o : HandsOut (HoldsValue past t) b (ToEnd value) = subst (λ (z : Wish). HandsOut (HoldsValue past t) b z) is out in
      (block ∙ not_filled r.block (sym closed ∙ o.1), o.0)

-- a structural step may follow
pub may_follow : (P : tree.Program) (past : List Event) (m n : Machine) (e : Event) → Mirrors past m → AllHold past m → structural e.action ≡ true
    → IsStep P m e n → MayFollow past e
may_follow P past m n e x h st step =
    let r : Running = step.task in
    let me = x.each e.task r step.present in
    let own : Holder past e.task r = h e.task r step.present in
    let k = stands_all (HoldsValue past e.task) (numbers past e.task) r.state step.stop own.vars step.stands in
    record {
      stands = me.strand ∙ ap (λ s. Some s) step.strand;
      running = me.last ∙ ap (λ o. option_map (λ (v : Value). r.strand) o) step.running;
      acts = may_act past m x e.task r step.present me.block step.stop.is_open (k.0 ∙ own.is_open) (wish_of P step.stop)
          (wish_all (HoldsValue past e.task) (numbers past e.task) P step.stop k.1) e.action st step.answers step.permits;
    }

pub came_sound : (P : tree.Program) (past : List Event) (m : Machine) → Came P past m → IsSoundPast (kept_of past)
came_sound P [] m c = tt
came_sound P (e ∷ past) m (q, c, step) =
    elim (cases_Bool (structural e.action)) [
      | inl st ↦ subst IsSoundPast (sym (kept_on past e st))
          (came_sound P past q c, may_follow P (kept_of past) q m e (came_mirrors P past q c) (came_holds P past q c) st step)
      | inr off ↦ subst IsSoundPast (sym (kept_off past e off)) (came_sound P past q c)
    ]

pub sound_past : (P : tree.Program) (h : List Event) (m : Machine) → Leads P (opening P) h m → IsSoundPast (past_of h)
sound_past P h m l = subst IsSoundPast (past_is h) (came_sound P (reverse h) m (came P h m l))

pub legal_is_sound : LegalIsSound
legal_is_sound P h (m, l) = sound_past P h m l

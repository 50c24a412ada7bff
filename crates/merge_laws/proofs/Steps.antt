-- Events whose structure is sound, whose reads are right, which stand on current strands, and whose traces have states, are
-- steps one after the other.
use Rattle.std.proofs.Common.{◌≡◌, ℕ, zero, suc, ◌+◌, ◌<◌, Bool, true, false, cond, List, [], ◌∷◌}
use Rattle.std.proofs.Common.{◌++◌, length, inl, inr, refl, sym, ap, ◌∙◌, subst, arith, true≢false}
use Rattle.std.proofs.lemmas.Option.{same_Some}
use Rattle.std.proofs.lemmas.List.{reverse-append}
use Rattle.std.proofs.lemmas.Bool.{cases_Bool, cases_lt, cases_eq as same_or_not}
use Rattle.std.specs.Prelude.{Option, Some, None, IsSome, option_map, option_and_then, reverse, slice_get}
use Rattle.fut_base.specs.declared.record.Value.{Value}
use Rattle.fut_base.specs.declared.event.Event.{Event}
use Rattle.fut_base.specs.declared.event.Action.{Action}
use Rattle.fut_base.specs.declared.event.Action.TheVariants.{Reads, Writes, Spawns, Creates, Syncs, Gets, Ends}
use Rattle.fut_base.specs.Events.{structural}
use Rattle.fut_base.specs.Dag.{last_of, block_of}
use Rattle.fut_base.specs.Sound.{IsSoundPast, MayAct, AllEnded, current, value_of}
use Rattle.fut_syntax.specs.Trees as tree
use Rattle.task_machine.specs.State.{TaskState, start_state, wish_of, Answers}
use Rattle.task_machine.specs.Runs.{StandsAt, Follows, IsStateAfter}
use Rattle.task_machine.specs.Machine.{Machine, Running, opening, after, ended_with, AllHaveEnded, Permits, IsStep, Leads, IsLegal}
use Rattle.task_machine.specs.Texts.{cell_count}
use Rattle.task_machine.proofs.Leading.{leads_further}
use Rattle.access_shards.specs.Histories.{IsStanding, AreStanding}
use Rattle.access_shards.proofs.Histories.{same_current, same_last}
use Rattle.run_laws.specs.Laws.{Mirrors, IsMirrored, HasCells}
use Rattle.run_laws.proofs.Pasts.{Came, kept_of}
use Rattle.run_laws.proofs.Mirrored.{kept_on, came_mirrors}
use Rattle.run_laws.proofs.Stuck.{AccessesBelow, wish_below}
use Rattle.merge_laws.specs.Parts.{StartsAs, IsRight, ReadsAreRight}
use Rattle.merge_laws.proofs.Machines.{acts_of, acts_on, acts_off, follows_split, follows_one, starts_more, came_states, came_cells}

pub record Tied (P : tree.Program) (past : List Event) : Type 0 where
  pub sound : IsSoundPast (kept_of past)
  pub right : ReadsAreRight past
  pub standing : AreStanding past
  pub states : (t which : ℕ) (args : List Value) → StartsAs P past t which args → (s : TaskState) × IsStateAfter P which args (acts_of t past) s

sound_tail : (b : Bool) (e : Event) (rest : List Event) → IsSoundPast (cond b (e ∷ rest) rest) → IsSoundPast rest
sound_tail true e rest h = h.0
sound_tail false e rest h = h

-- the trace of a task in the events before the last one has a state too
state_before : (P : tree.Program) (e : Event) (past : List Event) (t which : ℕ) (args : List Value) (s : TaskState)
    → IsStateAfter P which args (acts_of t (e ∷ past)) s → (u : TaskState) × IsStateAfter P which args (acts_of t past) u
state_before P e past t which args s f = elim (same_or_not e.task t) [
  | inl same ↦
      (let k = follows_split P _ (acts_of t past) (e ∷ []) s (subst (λ (l : List Event). IsStateAfter P which args l s) (acts_on t e past same) f) in
      (k.0, k.1))
  | inr ne ↦ (s, subst (λ (l : List Event). IsStateAfter P which args l s) (acts_off t e past ne) f)
]

pub tied_before : (P : tree.Program) (e : Event) (past : List Event) → Tied P (e ∷ past) → Tied P past
tied_before P e past x =
    record {
      sound = sound_tail (structural e.action) e (kept_of past) x.sound;
      right = x.right.0;
      standing = x.standing.0;
      states = λ t which args s. (let k = x.states t which args (starts_more P e past t which args s) in state_before P e past t which args k.0 k.1);
    }

pub get_some : {X : Type 0} (xs : List X) (i : ℕ) → i < length xs → (x : X) × (slice_get xs i ≡ Some x)
get_some [] i lt = absurd (omega (arith, lt))
get_some (x ∷ xs) zero lt = (x, refl)
get_some (x ∷ xs) (suc i) lt = get_some xs i (omega (arith, lt))

module _ (past : List Event) (m : Machine) (x : Mirrors past m) where
  -- a task that stands on a strand is one of the machine's
  there : (t s : ℕ) → current past t ≡ Some s → (r : Running) × (slice_get m.tasks t ≡ Some r)
  there t s h = elim (cases_lt t (length m.tasks)) [
    | inl lt ↦ get_some m.tasks t lt
    | inr ge ↦ absurd (let n = (x.none t ge).strand in cc)
  ]

  -- so is one that has ended
  ended : (t : ℕ) → IsSome (last_of past t) → IsSome (ended_with m t)
  ended t h = elim (cases_lt t (length m.tasks)) [
    | inl lt ↦ (
        let k = get_some m.tasks t lt in
        let e : last_of past t ≡ option_map (λ (v : Value). k.0.strand) k.0.value = (x.each t k.0 k.1).last in
        subst (λ (o : Option Running). IsSome (option_and_then (λ (r : Running). r.value) o)) (sym k.1)
        (valued k.0.strand k.0.value (subst (λ (o : Option ℕ). IsSome o) e h)))
    | inr ge ↦ absurd (none_some (last_of past t) (x.none t ge).last h)
  ]
    where
      valued : (s : ℕ) (o : Option Value) → IsSome (option_map (λ (v : Value). s) o) → IsSome o
      valued s None h = cc
      valued s (Some v) h = refl

      none_some : (o : Option ℕ) → o ≡ None → IsSome o → ⊥
      none_some None e h = true≢false (sym h)
      none_some (Some v) e h = cc

  pub all_ended : (ts : List ℕ) → AllEnded past ts → AllHaveEnded m ts
  all_ended [] h = tt
  all_ended (t ∷ ts) h = (ended t h.0, all_ended ts h.1)

  pub valued_as : (t : ℕ) (v : Value) → value_of past t ≡ Some v → ended_with m t ≡ Some v
  valued_as t v h = elim (cases_lt t (length m.tasks)) [
    | inl lt ↦ (
        let k = get_some m.tasks t lt in
        ap (λ (o : Option Running). option_and_then (λ (r : Running). r.value) o) k.1 ∙ sym (x.each t k.0 k.1).value ∙ h)
    | inr ge ↦ absurd (let n = (x.none t ge).value in cc)
  ]

  -- the machine lets the task do what a sound structure allows
  permits : (t : ℕ) (r : Running) (a : Action) → slice_get m.tasks t ≡ Some r → structural a ≡ true → MayAct past t a → Permits m r a
  permits t r (Reads _ _) got st may = cc
  permits t r (Writes _ _) got st may = cc
  permits t r (Spawns _ child kid cont _) got st may = (may.0 ∙ x.tasks, may.1 ∙ x.strands, may.2 ∙ ap (λ n. n + 1) (may.1 ∙ x.strands))
  permits t r (Creates _ child kid cont _) got st may = (may.0 ∙ x.tasks, may.1 ∙ x.strands, may.2 ∙ ap (λ n. n + 1) (may.1 ∙ x.strands))
  permits t r (Syncs strand) got st may = (may.0 ∙ x.strands, subst (AllHaveEnded m) (x.each t r got).block (all_ended (block_of past t) may.1))
  permits t r (Gets future value strand) got st may = (may.0 ∙ x.strands, valued_as future value may.1)
  permits t r (Ends value) got st may = tt

-- a read has the value of its cell
permits_access : (P : tree.Program) → HasCells P → (past : List Event) (m : Machine) → Came P past m → (r : Running) (at : TaskState) (a : Action)
    → structural a ≡ false → Answers (wish_of P at) a → IsRight past a → Permits m r a
permits_access P some past m c r at (Reads cell value) st answers right =
    let below : cell < cell_count P = subst (λ z. AccessesBelow (cell_count P) z) answers (wish_below P some at) in
    came_cells P past m c cell below ∙ ap (λ z. Some z) right
permits_access P some past m c r at (Writes _ _) st answers right = tt
permits_access P some past m c r at (Spawns _ _ _ _ _) st answers right = cc
permits_access P some past m c r at (Creates _ _ _ _ _) st answers right = cc
permits_access P some past m c r at (Syncs _) st answers right = cc
permits_access P some past m c r at (Gets _ _ _) st answers right = cc
permits_access P some past m c r at (Ends _) st answers right = cc

no_value : (s : ℕ) (o : Option Value) → option_map (λ (v : Value). s) o ≡ None → o ≡ None
no_value s None h = refl
no_value s (Some v) h = cc

pub step_of : (P : tree.Program) (m : Machine) (e : Event) (r : Running) (at : TaskState) → slice_get m.tasks e.task ≡ Some r → r.value ≡ None
    → r.strand ≡ e.strand → StandsAt r.state at → Answers (wish_of P at) e.action
    → Permits m r e.action → (n : Machine) × IsStep P m e n
step_of P m e r at present running strand stands answers permits = (
  after P m e r at,
  record { task = r; stop = at; present = present; running = running; strand = strand; stands = stands; answers = answers; permits = permits; gives = refl },
)

-- the event at which a task stands, where its trace and one more event have a state
stop_of : (P : tree.Program) (trace : List Event) (e : Event) (which : ℕ) (args : List Value) (s t : TaskState) → IsStateAfter P which args trace s
    → IsStateAfter P which args (trace ++ e ∷ []) t
    → (at : TaskState) × StandsAt s at × Answers (wish_of P at) e.action
stop_of P trace e which args s t own more =
    let parts = follows_split P (start_state P which args) trace (e ∷ []) t more in
    let last : Follows P parts.0 (e ∷ []) t = parts.2 in
    let same : parts.0 ≡ s = follows_one P (start_state P which args) trace parts.0 s parts.1 own in
    (last.0, subst (λ z. StandsAt z last.0) same last.1, last.2)

-- the last event is a step after those before it
next_step : (P : tree.Program) → HasCells P → (e : Event) (past : List Event) (m : Machine) → Tied P (e ∷ past) → Came P past m → (n : Machine) × IsStep P m e n
next_step P some e past m x c =
    let mirrors : Mirrors (kept_of past) m = came_mirrors P past m c in
    let stand : IsStanding past e = x.standing.1 in
    let cur : current (kept_of past) e.task ≡ Some e.strand = same_current past e.task ∙ stand.stands in
    let k = there (kept_of past) m mirrors e.task e.strand cur in
    let r : Running = k.0 in
    let own : IsMirrored (kept_of past) e.task r = mirrors.each e.task r k.1 in
    let strand : r.strand ≡ e.strand = same_Some r.strand e.strand (sym own.strand ∙ cur) in
    let run : r.value ≡ None = no_value r.strand r.value (sym own.last ∙ same_last past e.task ∙ stand.running) in
    let state = came_states P past m c e.task r k.1 in
    let more = x.states e.task r.which state.0 (starts_more P e past e.task r.which state.0 state.1) in
    let stop = stop_of P (acts_of e.task past) e r.which state.0 r.state more.0 state.2
    (subst (λ (l : List Event). IsStateAfter P r.which state.0 l more.0) (acts_on e.task e past refl) more.1) in
    step_of P m e r stop.0 k.1 run strand stop.1 stop.2
    (elim (cases_Bool (structural e.action)) [
      | inl st ↦ (
          let sound : IsSoundPast (e ∷ kept_of past) = subst IsSoundPast (kept_on past e st) x.sound in
          permits (kept_of past) m mirrors e.task r e.action k.1 st sound.1.acts)
      | inr off ↦ permits_access P some past m c r stop.0 e.action off stop.2 x.right.1
    ])

pub came_from : (P : tree.Program) → HasCells P → (past : List Event) → Tied P past → (m : Machine) × Came P past m
came_from P some [] x = (opening P, refl)
came_from P some (e ∷ past) x =
    let k = came_from P some past (tied_before P e past x) in
    let n = next_step P some e past k.0 x k.1 in
    (n.0, (k.0, k.1, n.1))

leads : (P : tree.Program) (past : List Event) (m : Machine) → Came P past m → Leads P (opening P) (reverse past) m
leads P [] m c = c
leads P (e ∷ past) m (q, c, step) =
    subst (λ (l : List Event). Leads P (opening P) l m) (sym (reverse-append (e ∷ []) past))
    (leads_further P (opening P) (reverse past) e q m (leads P past q c) step)

pub tied_is_legal : (P : tree.Program) → HasCells P → (past : List Event) → Tied P past → IsLegal P (reverse past)
tied_is_legal P some past x = let k = came_from P some past x in (k.0, leads P past k.0 k.1)

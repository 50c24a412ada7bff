-- The merge of the lists of a run.
use Rattle.std.proofs.Common.{◌≡◌, ◌≢◌, ℕ, ◌≤◌, Bool, true, false, cond, ◌==◌, if◌then◌else◌, List, []}
use Rattle.std.proofs.Common.{◌∷◌, length, inl, inr, refl, sym, ap, ◌∙◌, subst, arith, true≢false, ℤ}
use Rattle.fut_base.proofs.Members.{among_left, among_right, among_split}
use Rattle.fut_base.proofs.Cases.{by_eq}
use Rattle.std.proofs.lemmas.List.{reverse-reverse}
use Rattle.std.proofs.lemmas.Bool.{lt-ltb, ltb-true, false_from_ne_true, eqb-true, eq-eqb}
use Rattle.std.specs.Prelude.{Option, Some, None, nat_lt, reverse, filter, slice_get}
use Rattle.fut_base.specs.declared.record.Value.{Value}
use Rattle.fut_base.specs.declared.event.Event.{Event}
use Rattle.fut_base.specs.declared.event.Action.{Action}
use Rattle.fut_base.specs.declared.event.Action.TheVariants.{Reads, Writes, Spawns, Creates, Syncs, Gets, Ends}
use Rattle.fut_base.specs.Events.{structural, structure_of}
use Rattle.fut_base.specs.Dag.{Among}
use Rattle.fut_base.specs.Sound.{IsSoundPast, MayAct}
use Rattle.fut_syntax.specs.Trees as tree
use Rattle.task_machine.specs.State.{TaskState, start_state}
use Rattle.task_machine.specs.Runs.{IsStateAfter}
use Rattle.task_machine.specs.Machine.{IsLegal}
use Rattle.access_shards.specs.Histories.{IsStanding, AreStanding}
use Rattle.access_shards.proofs.Histories.{Stood, stood_lt, same_current, same_last}
use Rattle.run_laws.specs.Laws.{HasCells}
use Rattle.run_laws.proofs.Pasts.{kept_of, past_is}
use Rattle.merge_laws.specs.Parts.{Drawn, events_in, all_of, IsMerge, IsAccessIn, value_after, value_left}
use Rattle.merge_laws.specs.Parts.{IsRight, ReadsAreRight, StartsAs, past_below, IsSharedRun}
use Rattle.merge_laws.specs.Laws.{MergeIsLegal, BookIsStructure, TracesAreParts}
use Rattle.merge_laws.proofs.Lists.{among_reverse, among_map, filter_among, among_all, all_among, among_get, get_among, reverse_map, reverse_kept}
use Rattle.merge_laws.proofs.Machines.{of_task, acts_of}
use Rattle.merge_laws.proofs.Starts.{starts_one, starts_kept}
use Rattle.merge_laws.proofs.Steps.{Tied, tied_is_legal}
use Rattle.merge_laws.proofs.Tickets.{picked, picked_events, stood_drawn, own_is, own_events}

-- ---- structural events and accesses

may_structural : (past : List Event) (t : ℕ) (a : Action) → MayAct past t a → structural a ≡ true
may_structural past t (Reads _ _) may = absurd may
may_structural past t (Writes _ _) may = absurd may
may_structural past t (Spawns _ _ _ _ _) may = refl
may_structural past t (Creates _ _ _ _ _) may = refl
may_structural past t (Syncs _) may = refl
may_structural past t (Gets _ _ _) may = refl
may_structural past t (Ends _) may = refl

pub sound_structural : (past : List Event) → IsSoundPast past → (e : Event) → Among e past → structural e.action ≡ true
sound_structural [] s e a = absurd a
sound_structural (d ∷ past) s e (inl same) = ap (λ (z : Event). structural z.action) (sym same) ∙ may_structural past d.task d.action s.1.acts
sound_structural (d ∷ past) s e (inr a) = sound_structural past s.0 e a

abbrev pub by_structure : Event → Bool
by_structure e = structural e.action

-- an access of a cell whose accesses have their place in the i-th list
abbrev pub shard_test : (ℕ → ℕ) → ℕ → Action → Bool
shard_test place i (Reads cell _) = place cell == i
shard_test place i (Writes cell _) = place cell == i
shard_test place i _ = false

abbrev pub in_shard : (ℕ → ℕ) → ℕ → Event → Bool
in_shard place i e = shard_test place i e.action

tests : (place : ℕ → ℕ) (i : ℕ) (a : Action) → IsAccessIn place i a → shard_test place i a ≡ true
tests place i (Reads cell _) h = eq-eqb (place cell) i h
tests place i (Writes cell _) h = eq-eqb (place cell) i h
tests place i (Spawns _ _ _ _ _) h = absurd h
tests place i (Creates _ _ _ _ _) h = absurd h
tests place i (Syncs _) h = absurd h
tests place i (Gets _ _ _) h = absurd h
tests place i (Ends _) h = absurd h

tested_in : (place : ℕ → ℕ) (i : ℕ) (a : Action) → shard_test place i a ≡ true → IsAccessIn place i a
tested_in place i (Reads cell _) h = eqb-true (place cell) i h
tested_in place i (Writes cell _) h = eqb-true (place cell) i h
tested_in place i (Spawns _ _ _ _ _) h = absurd (true≢false (sym h))
tested_in place i (Creates _ _ _ _ _) h = absurd (true≢false (sym h))
tested_in place i (Syncs _) h = absurd (true≢false (sym h))
tested_in place i (Gets _ _ _) h = absurd (true≢false (sym h))
tested_in place i (Ends _) h = absurd (true≢false (sym h))

not_structural : (place : ℕ → ℕ) (i : ℕ) (a : Action) → IsAccessIn place i a → structural a ≡ true → ⊥
not_structural place i (Reads _ _) h st = true≢false (sym st)
not_structural place i (Writes _ _) h st = true≢false (sym st)
not_structural place i (Spawns _ _ _ _ _) h st = h
not_structural place i (Creates _ _ _ _ _) h st = h
not_structural place i (Syncs _) h st = h
not_structural place i (Gets _ _ _) h st = h
not_structural place i (Ends _) h st = h

one_place : (place : ℕ → ℕ) (i j : ℕ) (a : Action) → IsAccessIn place i a → IsAccessIn place j a → i ≡ j
one_place place i j (Reads _ _) h k = sym h ∙ k
one_place place i j (Writes _ _) h k = sym h ∙ k
one_place place i j (Spawns _ _ _ _ _) h k = absurd h
one_place place i j (Creates _ _ _ _ _) h k = absurd h
one_place place i j (Syncs _) h k = absurd h
one_place place i j (Gets _ _ _) h k = absurd h
one_place place i j (Ends _) h k = absurd h

-- ---- reads

-- the accesses of its list leave a cell with the value that all events leave
value_next : (place : ℕ → ℕ) (c : ℕ) (e : Event) (a : Action) → e.action ≡ a → (rest : List Event) (v : ℤ) → value_left c rest ≡ v
    → value_left c (cond (shard_test place (place c) a) (e ∷ rest) rest) ≡ value_after c a v
value_next place c e (Reads cell value) is rest v h = either (place cell == place c)
  where
    either : (b : Bool) → value_left c (cond b (e ∷ rest) rest) ≡ v
    either true = ap (λ z. value_after c z (value_left c rest)) is ∙ h
    either false = h
value_next place c e (Writes cell value) is rest v h =
    by_eq (λ t. value_left c (cond (place cell == place c) (e ∷ rest) rest) ≡ (if t then value else v)) cell c
    (λ same. ap (λ t. value_left c (cond t (e ∷ rest) rest)) (eq-eqb (place cell) (place c) (ap place same)) ∙ ap (λ z. value_after c z (value_left c rest)) is
    ∙ by_eq (λ t. (if t then value else value_left c rest) ≡ value) cell c (λ _. refl) (λ n. absurd (n same)))
    (λ ne. either ne (place cell == place c))
  where
    either : cell ≢ c → (b : Bool) → value_left c (cond b (e ∷ rest) rest) ≡ v
    either ne true = ap (λ z. value_after c z (value_left c rest)) is ∙ by_eq (λ t. (if t then value else value_left c rest) ≡ v) cell c (λ s. absurd (ne s))
        (λ _. h)
    either ne false = h
value_next place c e (Spawns _ _ _ _ _) is rest v h = h
value_next place c e (Creates _ _ _ _ _) is rest v h = h
value_next place c e (Syncs _) is rest v h = h
value_next place c e (Gets _ _ _) is rest v h = h
value_next place c e (Ends _) is rest v h = h

pub value_in : (place : ℕ → ℕ) (c : ℕ) (past : List Event) → value_left c (filter (in_shard place (place c)) past) ≡ value_left c past
value_in place c [] = refl
value_in place c (e ∷ past) = value_next place c e e.action refl (filter (in_shard place (place c)) past) (value_left c past) (value_in place c past)

right_tail : (b : Bool) (e : Event) (rest : List Event) → ReadsAreRight (cond b (e ∷ rest) rest) → ReadsAreRight rest
right_tail true e rest h = h.0
right_tail false e rest h = h

right_head : (place : ℕ → ℕ) (e : Event) (past : List Event) (a : Action) → e.action ≡ a
    → ((i : ℕ) → ReadsAreRight (cond (shard_test place i a) (e ∷ filter (in_shard place i) past) (filter (in_shard place i) past))) → IsRight past a
right_head place e past (Reads cell value) is f =
    let i : ℕ = place cell in
    let rest : List Event = filter (in_shard place i) past in
    let own : ReadsAreRight (e ∷ rest) = subst (λ t. ReadsAreRight (cond t (e ∷ rest) rest)) (eq-eqb i i refl) (f i) in
    let right : IsRight rest (Reads cell value) = subst (IsRight rest) is own.1 in
    sym (value_in place cell past) ∙ right
right_head place e past (Writes _ _) is f = tt
right_head place e past (Spawns _ _ _ _ _) is f = tt
right_head place e past (Creates _ _ _ _ _) is f = tt
right_head place e past (Syncs _) is f = tt
right_head place e past (Gets _ _ _) is f = tt
right_head place e past (Ends _) is f = tt

-- where the reads in each list are right, all are
reads_right : (place : ℕ → ℕ) (past : List Event) → ((i : ℕ) → ReadsAreRight (filter (in_shard place i) past)) → ReadsAreRight past
reads_right place [] f = tt
reads_right place (e ∷ past) f =
    (reads_right place past (λ i. right_tail (in_shard place i e) e (filter (in_shard place i) past) (f i)), right_head place e past e.action refl f)

-- ---- strands

-- the structural events with places below k
abbrev below_of : ℕ → List Event → List Event
below_of k past = events_in (filter (λ (x : Drawn). nat_lt x.0 k) (picked by_structure past))

skip_if : (k : ℕ) (x : Drawn) (rest : List Drawn) (b : Bool) → nat_lt x.0 k ≡ false
    → filter (λ (y : Drawn). nat_lt y.0 k) (cond b (x ∷ rest) rest) ≡ filter (λ (y : Drawn). nat_lt y.0 k) rest
skip_if k x rest true off = ap (λ t. cond t (x ∷ filter (λ (y : Drawn). nat_lt y.0 k) rest) (filter (λ (y : Drawn). nat_lt y.0 k) rest)) off
skip_if k x rest false off = refl

take_if : (k : ℕ) (x : Drawn) (rest : List Drawn) (b : Bool) → nat_lt x.0 k ≡ true
    → filter (λ (y : Drawn). nat_lt y.0 k) (cond b (x ∷ rest) rest) ≡ cond b (x ∷ filter (λ (y : Drawn). nat_lt y.0 k) rest)
    (filter (λ (y : Drawn). nat_lt y.0 k) rest)
take_if k x rest true on = ap (λ t. cond t (x ∷ filter (λ (y : Drawn). nat_lt y.0 k) rest) (filter (λ (y : Drawn). nat_lt y.0 k) rest)) on
take_if k x rest false on = refl

below_skip : (k : ℕ) (e : Event) (past : List Event) → k ≤ length past → below_of k (e ∷ past) ≡ below_of k past
below_skip k e past le =
    ap events_in
    (skip_if k (length past, e) (picked by_structure past) (by_structure e)
    (false_from_ne_true (nat_lt (length past) k) (λ t. (let l = ltb-true (length past) k t in omega (arith, l, le)))))

below_all : (k : ℕ) (past : List Event) → length past ≤ k → filter (λ (x : Drawn). nat_lt x.0 k) (picked by_structure past) ≡ picked by_structure past
below_all k [] le = refl
below_all k (e ∷ past) le =
    take_if k (length past, e) (picked by_structure past) (by_structure e) (lt-ltb (length past) k (omega (arith, le)))
    ∙ ap (λ l. cond (by_structure e) ((length past, e) ∷ l) l) (below_all k past (omega (arith, le)))

stands_kept : (past : List Event) (e : Event) → IsStanding (kept_of past) e → IsStanding past e
stands_kept past e x = record { stands = sym (same_current past e.task) ∙ x.stands; running = sym (same_last past e.task) ∙ x.running }

standing : (past : List Event) → ((k : ℕ) (e : Event) → Stood past k e → IsStanding (below_of k past) e) → AreStanding past
standing [] f = tt
standing (e ∷ past) f = (
  standing past (λ k d s. subst (λ (l : List Event). IsStanding l d) (below_skip k e past (let l = stood_lt past k d s in omega (arith, l))) (f k d (inr s))),
  stands_kept past e
      (subst (λ (l : List Event). IsStanding l e)
      (below_skip (length past) e past (omega arith) ∙ ap events_in (below_all (length past) past (omega arith)) ∙ picked_events by_structure past)
      (f (length past) e (inl (refl, refl)))),
)

none_here : {X : Type 0} (p : X → Bool) (xs : List X) → ((x : X) → Among x xs → p x ≡ true → ⊥) → filter p xs ≡ []
none_here p [] f = refl
none_here p (x ∷ xs) f =
    ap (λ t. cond t (x ∷ filter p xs) (filter p xs)) (false_from_ne_true (p x) (λ e. f x (inl refl) e)) ∙ none_here p xs (λ y a e. f y (inr a) e)

stood_of_among : (past : List Event) (e : Event) → Among e past → (k : ℕ) × Stood past k e
stood_of_among [] e a = absurd a
stood_of_among (x ∷ past) e (inl same) = (length past, inl (refl, same))
stood_of_among (x ∷ past) e (inr a) = let k = stood_of_among past e a in (k.0, inr k.1)

none_some : {X : Type 0} (x : X) → None ≡ Some x → ⊥
none_some x h = cc

-- ---- the run

module _ (P : tree.Program) (n : ℕ) (place : ℕ → ℕ) (book : List Drawn) (shards : List (List Drawn)) (traces : List (ℕ × List Drawn)) (h : List Event)
    (run : IsSharedRun P n place book shards traces) (merge : IsMerge (book ∷ shards) h) where
  abbrev owns : List (List Drawn)
  owns = book ∷ shards

  book_structural : (x : Drawn) → Among x book → structural x.1.action ≡ true
  book_structural x a =
      sound_structural (reverse (events_in book)) run.sound x.1 (among_reverse x.1 (events_in book) (among_map (λ (y : Drawn). y.1) x book a))

  shard_access : (x : Drawn) → Among x (all_of shards) → (i : ℕ) × (own : List Drawn) × (slice_get shards i ≡ Some own) × Among x own
      × IsAccessIn place i x.1.action
  shard_access x a =
      let k = all_among x shards a in
      let g = among_get k.0 shards k.1 in
      (g.0, k.0, g.1, k.2, run.shared.accesses g.0 k.0 g.1 x k.2)

  -- the book has the structural entries
  pub book_is : reverse book ≡ picked by_structure (reverse h)
  book_is =
      own_is owns h merge book by_structure (run.tickets.rising book (inl refl))
      (λ x a. (among_left x book (all_of shards) a, book_structural x a))
      (λ x a st. elim (among_split x book (all_of shards) a) [
        | inl l ↦ l
        | inr r ↦ (let k = shard_access x r in absurd (not_structural place k.0 x.1.action k.4 st))
      ])

  pub book_kept : reverse (events_in book) ≡ kept_of (reverse h)
  book_kept = own_events owns h merge book by_structure book_is

  -- each other list has the accesses of its cells
  pub shard_is : (i : ℕ) (own : List Drawn) → slice_get shards i ≡ Some own → reverse own ≡ picked (in_shard place i) (reverse h)
  shard_is i own got =
      let there : Among own shards = get_among own shards i got in
      own_is owns h merge own (in_shard place i) (run.tickets.rising own (inr there))
      (λ x a. (among_right x book (all_of shards) (among_all x own shards there a), tests place i x.1.action (run.shared.accesses i own got x a)))
      (λ x a test. elim (among_split x book (all_of shards) a) [
        | inl l ↦ absurd (not_structural place i x.1.action (tested_in place i x.1.action test) (book_structural x l))
        | inr r ↦ (
            let k = shard_access x r in
            let same : k.0 ≡ i = one_place place k.0 i x.1.action k.4 (tested_in place i x.1.action test) in
            let one : Some k.1 ≡ Some own = sym k.2 ∙ ap (slice_get shards) same ∙ got in
            subst (Among x) (own_same k.1 own one) k.3)
      ])
    where
      own_same : (xs ys : List Drawn) → Some xs ≡ Some ys → xs ≡ ys
      own_same xs ys e = cc

  shard_right : (i : ℕ) → ReadsAreRight (filter (in_shard place i) (reverse h))
  shard_right i = go (slice_get shards i) refl
    where
      go : (o : Option (List Drawn)) → slice_get shards i ≡ o → ReadsAreRight (filter (in_shard place i) (reverse h))
      go None e =
          subst ReadsAreRight
          (sym (none_here (in_shard place i) (reverse h) (λ d a test. (
          let k = stood_of_among (reverse h) d a in
          elim (among_split (k.0, d) book (all_of shards) (stood_drawn owns h merge k.0 d k.1)) [
            | inl l ↦ not_structural place i d.action (tested_in place i d.action test) (book_structural (k.0, d) l)
            | inr r ↦ (
                let q = shard_access (k.0, d) r in
                let same : q.0 ≡ i = one_place place q.0 i d.action q.4 (tested_in place i d.action test) in
                none_some q.1 (sym e ∙ ap (slice_get shards) (sym same) ∙ q.2))
          ]))))
          tt
      go (Some own) e =
          subst ReadsAreRight (own_events owns h merge own (in_shard place i) (shard_is i own e)) (run.shared.reads own (get_among own shards i e))

  -- a trace has the entries of its task
  pub trace_is : (r : ℕ × List Drawn) → Among r traces → reverse (events_in r.1) ≡ filter (of_task r.0) (reverse h)
  trace_is r a =
      let w = run.whole r a in
      own_events owns h merge r.1 (of_task r.0)
      (own_is owns h merge r.1 (of_task r.0) w.rising (λ x b. (let k = (w.each x).0 b in (k.0, eq-eqb x.1.task r.0 k.1)))
      (λ x b test. (w.each x).1 (b, eqb-true x.1.task r.0 test)))

  pub trace_acts : (r : ℕ × List Drawn) → Among r traces → events_in r.1 ≡ acts_of r.0 (reverse h)
  trace_acts r a = sym (reverse-reverse (events_in r.1)) ∙ ap reverse (trace_is r a)

  -- the entries of the book with tickets below k are the structural ones with places below k
  past_is_below : (k : ℕ) → past_below k book ≡ below_of k (reverse h)
  past_is_below k =
      reverse_map (λ (x : Drawn). x.1) (filter (λ (x : Drawn). nat_lt x.0 k) book)
      ∙ ap events_in (reverse_kept (λ (x : Drawn). nat_lt x.0 k) book ∙ ap (filter (λ (x : Drawn). nat_lt x.0 k)) book_is)

  stands_at : (k : ℕ) (e : Event) → Stood (reverse h) k e → IsStanding (below_of k (reverse h)) e
  stands_at k e s =
      let t = run.tasks (k, e) (stood_drawn owns h merge k e s) in
      let trace = run.traced (e.task, t.0) t.1 in
      let own : Among (k, e) t.0 = ((run.whole (e.task, t.0) t.1).each (k, e)).1 (stood_drawn owns h merge k e s, refl) in
      subst (λ (l : List Event). IsStanding l e) (past_is_below k) (trace.stands (k, e) own)

  pub structure_sound : IsSoundPast (kept_of (reverse h))
  structure_sound = subst IsSoundPast book_kept run.sound

  pub book_starts : (t which : ℕ) (args : List Value) → StartsAs P (events_in book) t which args → StartsAs P (kept_of (reverse h)) t which args
  book_starts t which args (inl x) = inl x
  book_starts t which args (inr (e, a, m)) = inr (e, subst (Among e) book_kept (among_reverse e (events_in book) a), m)

  state_of : (t which : ℕ) (args : List Value) → StartsAs P (reverse h) t which args → (s : TaskState) × IsStateAfter P which args (acts_of t (reverse h)) s
  state_of t which args starts = go (filter (of_task t) (reverse h)) refl
    where
      go : (l : List Event) → filter (of_task t) (reverse h) ≡ l → (s : TaskState) × IsStateAfter P which args (acts_of t (reverse h)) s
      go [] e = (start_state P which args, subst (λ (l : List Event). IsStateAfter P which args l (start_state P which args)) (ap reverse (sym e)) refl)
      go (x ∷ l) e =
          let there = filter_among (of_task t) x (reverse h) (subst (Among x) (sym e) (inl refl)) in
          let task : x.task ≡ t = eqb-true x.task t there.1 in
          let k = stood_of_among (reverse h) x there.0 in
          let tr = run.tasks (k.0, x) (stood_drawn owns h merge k.0 x k.1) in
          let own : Among (t, tr.0) traces = subst (λ i. Among (i, tr.0) traces) task tr.1 in
          let trace = run.traced (t, tr.0) own in
          let one = starts_one P (kept_of (reverse h)) structure_sound t trace.which which trace.args args (book_starts t trace.which trace.args trace.starts)
          (starts_kept P (reverse h) t which args starts) in (
            trace.state,
            subst (λ (l : List Event). IsStateAfter P which args l trace.state) (trace_acts (t, tr.0) own)
                (subst (λ w. IsStateAfter P w args (events_in tr.0) trace.state) one.0
                (subst (λ (vs : List Value). IsStateAfter P trace.which vs (events_in tr.0) trace.state) one.1 trace.leads)),
          )

  pub are_standing : AreStanding (reverse h)
  are_standing = standing (reverse h) stands_at

  tied : Tied P (reverse h)
  tied =
      record {
        sound = structure_sound;
        right = reads_right place (reverse h) shard_right;
        standing = are_standing;
        states = state_of;
      }

  pub legal : HasCells P → IsLegal P h
  legal some = subst (IsLegal P) (reverse-reverse h) (tied_is_legal P some (reverse h) tied)

  pub structure_is : structure_of h ≡ events_in book
  structure_is = sym (reverse-reverse (structure_of h)) ∙ ap reverse (sym (past_is h) ∙ sym book_kept) ∙ reverse-reverse (events_in book)

  pub part_is : (r : ℕ × List Drawn) → Among r traces → events_in r.1 ≡ filter (of_task r.0) h
  part_is r a = trace_acts r a ∙ reverse_kept (of_task r.0) (reverse h) ∙ ap (filter (of_task r.0)) (reverse-reverse h)

pub merge_is_legal : MergeIsLegal
merge_is_legal P n place book shards traces h some run merge = legal P n place book shards traces h run merge some

pub book_is_structure : BookIsStructure
book_is_structure P n place book shards traces h run merge = structure_is P n place book shards traces h run merge

pub traces_are_parts : TracesAreParts
traces_are_parts P n place book shards traces h run merge r a = part_is P n place book shards traces h run merge r a

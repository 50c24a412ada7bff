-- At the end of a run the traces that the book's holder carries are those of all tasks.
use Rattle.std.proofs.Common.{◌≡◌, ℕ, zero, suc, ◌+◌, ◌<◌, ◌≤◌, true, List, [], ◌∷◌, ◌++◌, length, length-append, inl, inr, refl, sym, ap, ◌∙◌, subst, arith}
use Rattle.std.specs.Prelude.{◌==◌, if◌then◌else◌, map, reverse, slice_get, Option, Some, None}
use Rattle.std.proofs.lemmas.List.{append-nil, length-map}
use Rattle.std.proofs.lemmas.Option.{same_Some}
use Rattle.fut_base.specs.declared.record.Entry.{Entry}
use Rattle.fut_base.specs.declared.record.Value.{Value}
use Rattle.fut_base.specs.declared.event.Event.{Event}
use Rattle.fut_base.specs.declared.event.Action.{Action}
use Rattle.fut_base.specs.declared.event.Action.TheVariants.{Reads, Writes, Spawns, Creates, Syncs, Gets, Ends}
use Rattle.fut_base.specs.Events.{structural}
use Rattle.fut_base.specs.Dag.{Among, last_of}
use Rattle.fut_base.specs.Sound.{IsSound, current, next_task}
use Rattle.fut_base.specs.Listed.{Listed}
use Rattle.fut_base.proofs.Members.{among_split}
use Rattle.fut_syntax.specs.Trees as tree
use Rattle.fut_check.specs.Items.{IsWellTyped}
use Rattle.task_machine.specs.State.{TaskState}
use Rattle.task_machine.specs.Runs.{IsStateAfter}
use Rattle.task_code.specs.Flat.{IsCodeOf}
use Rattle.event_clock.specs.declared.view.Carried.{Carried}
use Rattle.event_clock.specs.declared.view.Own.{Own}
use Rattle.event_clock.specs.Views.{numbers_of, first_number, first_entries, carries, times}
use Rattle.event_clock.specs.Rule.{own_of, trace_of, IsOrderly, IsPrefix}
use Rattle.merge_laws.specs.Parts as parts
use Rattle.merge_laws.specs.Parts.{Drawn, AreShards, IsAccessIn, ReadsAreRight, IsTraced}
use Rattle.merge_laws.specs.Logs.{owns_from}
use Rattle.merge_laws.specs.Gathered.{IsKnownTrace, tasks_of}
use Rattle.event_clock.proofs.Lists.{prefix_trans}
use Rattle.merge_laws.proofs.Lists.{among_map, map_among, among_filter, filter_among, among_get, get_among}
use Rattle.merge_laws.proofs.Steps.{get_some}
use Rattle.run_place.specs.Placed.{book_of, events_in}
use Rattle.run_book.specs.Drawn.{drawn_of, structural_in, past_in, past_below}
use Rattle.run_book.specs.Jobs as jobs
use Rattle.run_book.specs.Jobs.{JobNow, IsJob, IsTraceBy, IsEntryOf, known_to}
use Rattle.run_book.specs.Books.{entries_of, traces_of, task_of, carried_by}
use Rattle.run_book.proofs.Handles.{events_drawn}
use Rattle.run_shard.specs.Shards.{ShardNow, IsShard, made_by, shard_of}
use Rattle.over_laws.specs.Over.{Final, IsOver, IsShut, OverGivesGathered, carried_job, traces_in, holders_of}

-- ---- the holders' lists

abbrev number_in : List ℕ → ℕ
number_in [] = 0
number_in (n ∷ ns) = n

one_own : (n : ℕ) (log : List (ℕ × Event)) (os : List Own) → numbers_of os ≡ n ∷ [] → ((p : Own) → Among p os → p.entries ≡ own_of p.number log)
    → first_entries os ≡ own_of n log
one_own n log [] e f = cc
one_own n log (p ∷ os) e f = f p (inl refl) ∙ ap (λ k. own_of k log) (ap number_in e)

owns_get : (h n i : ℕ) (log : List (ℕ × Event)) (own : List Drawn) → slice_get (owns_from h n log) i ≡ Some own → (i < n) × (own ≡ own_of (h + i) log)
owns_get h zero i log own e = cc
owns_get h (suc n) zero log own e = (omega arith, sym (same_Some (own_of h log) own e) ∙ ap (λ k. own_of k log) (plus h))
  where
    plus : (k : ℕ) → k ≡ k + 0
    plus k = omega arith
owns_get h (suc n) (suc i) log own e =
    let r = owns_get (h + 1) n i log own e in
    let low = r.0 in
    (omega (arith, low), r.1 ∙ ap (λ k. own_of k log) (plus h i))
  where
    plus : (k j : ℕ) → (k + 1) + j ≡ k + suc j
    plus k j = omega arith

-- a beginning of nothing
begins_none : (xs : List Drawn) → IsPrefix xs [] → xs ≡ []
begins_none [] p = refl
begins_none (x ∷ xs) p = cc

-- ---- tasks

abbrev one_if_zero : ℕ → ℕ
one_if_zero t = if t == 0 then 1 else 0

-- where there was no event only the root task may start
first_task : (P : tree.Program) (known : List Drawn) (t which : ℕ) (args : List Value) → known ≡ [] → jobs.StartsAs P (events_in known) t which args → t ≡ 0
first_task P known t which args none (inl first) = first.0
first_task P known t which args none (inr (e, a, makes)) = absurd (subst (λ (l : List Drawn). Among e (events_in l)) none a)

carries_times : (t : ℕ) (cs : List Carried) → times t (tasks_of (traces_in cs)) ≡ carries t cs
carries_times t [] = refl
carries_times t (c ∷ cs) = ap (λ k. (if c.task == t then 1 else 0) + k) (carries_times t cs)

-- the two definitions of how a task starts say the same
makes_same : (a : Action) (t which : ℕ) (args : List Value) → jobs.Makes a t which args → parts.Makes a t which args
makes_same (Reads _ _) t which args m = m
makes_same (Writes _ _) t which args m = m
makes_same (Spawns _ _ _ _ _) t which args m = m
makes_same (Creates _ _ _ _ _) t which args m = m
makes_same (Syncs _) t which args m = m
makes_same (Gets _ _ _) t which args m = m
makes_same (Ends _) t which args m = m

pub starts_same : (P : tree.Program) (es : List Event) (t which : ℕ) (args : List Value) → jobs.StartsAs P es t which args → parts.StartsAs P es t which args
starts_same P es t which args (inl first) = inl first
starts_same P es t which args (inr (e, a, m)) = inr (e, a, makes_same e.action t which args m)

-- a trace by structural entries, with its state, is one that leads to a state
traced_by : (P : tree.Program) (book trace : List Drawn) (t which : ℕ) (args : List Value) (s : TaskState) → jobs.StartsAs P (events_in book) t which args
    → IsStateAfter P which args (events_in trace) s → IsTraceBy book t trace → IsTraced P book t trace
traced_by P book trace t which args s starts leads by =
    record {
      which = which;
      args = args;
      state = s;
      starts = starts_same P (events_in book) t which args starts;
      leads = leads;
      stands = λ x a. (
          let e : IsEntryOf (past_below x.0 book) t x.1 = by.entries x a in
          record {
            stands = subst (λ u. current (past_below x.0 book) u ≡ Some x.1.strand) (sym e.own) e.stands;
            running = subst (λ u. last_of (past_below x.0 book) u ≡ None) (sym e.own) e.running;
          });
    }

-- and its structural entries are among those
structural_known : (book trace : List Drawn) (t : ℕ) → IsTraceBy book t trace → (x : Drawn) → Among x trace → structural x.1.action ≡ true → Among x book
structural_known book trace t by x a is =
    let there : Among x (structural_in trace) = among_filter (λ (y : Drawn). structural y.1.action) x trace a is in
    (filter_among (λ (y : Drawn). y.1.task == t) x book (subst (λ (l : List Drawn). Among x l) (sym by.structural) there)).0

-- ---- the run

module _ (P : tree.Program) (the : Final) (count : ℕ) (typed : IsWellTyped P) (of : IsCodeOf P the.code) (over : IsOver the) (shut : IsShut the count) where
  abbrev log : List (ℕ × Event)
  log = shut.log

  first_number_is : numbers_of the.heard.view.own ≡ 0 ∷ []
  first_number_is = over.one the.heard (inl refl) ∙ ap (λ n. n ∷ []) (ap first_number over.heard.own ∙ over.book.first_holder)

  pub book_is : own_of 0 log ≡ entries_of the.book
  book_is = sym (one_own 0 log the.heard.view.own first_number_is (λ p a. shut.own the.heard (inl refl) p a)) ∙ ap first_entries over.heard.own

  pub prefix_book : (j : JobNow) → Among j the.jobs → IsPrefix (known_to j) (own_of 0 log)
  prefix_book j a = prefix_trans (known_to j) (book_of the.heard.view) (own_of 0 log) (over.heard.knows j a) (shut.known the.heard (inl refl) 0)

  pub shard_is : (i : ℕ) (s : ShardNow) → slice_get the.shards i ≡ Some s → made_by s ≡ own_of (i + 1) log
  shard_is i s got =
      let there : Among s.holder (holders_of the.heard the.shards) = inr (among_map (λ (z : ShardNow). z.holder) s the.shards (get_among s the.shards i got)) in
      one_own (i + 1) log s.holder.view.own (over.one s.holder there ∙ ap (λ n. n ∷ []) (over.shards_are i s got).number) (λ p a. shut.own s.holder there p a)

  own_shard : (i : ℕ) (own : List Drawn) → slice_get (owns_from 1 8 log) i ≡ Some own
      → (s : ShardNow) × IsShard the.clock the.orders the.code i s × (own ≡ made_by s)
  own_shard i own got =
      let r = owns_get 1 8 i log own got in
      let low = r.0 in
      let eight = over.eight in
      let s = get_some the.shards i (omega (arith, low, eight)) in
      (s.0, over.shards_are i s.0 s.1, r.1 ∙ ap (λ k. own_of k log) (turn i) ∙ sym (shard_is i s.0 s.1))
    where
      turn : (k : ℕ) → 1 + k ≡ k + 1
      turn k = omega arith

  shared : AreShards shard_of (owns_from 1 8 log)
  shared =
      record {
        accesses = λ i own got x a. (
            let s = own_shard i own got in
            s.1.accesses x (subst (λ (l : List Drawn). Among x l) s.2 a));
        reads = λ own a. (
            let g = among_get own (owns_from 1 8 log) a in
            let s = own_shard g.0 own g.1 in
            subst (λ (l : List Drawn). ReadsAreRight (reverse (events_in l))) (sym s.2) s.1.reads);
      }

  whole : (r : ℕ × List Drawn) → Among r (traces_in the.heard.view.tasks) → r.1 ≡ trace_of r.0 log
  whole r a =
      let c = map_among (λ (c : Carried). (c.task, c.trace)) r the.heard.view.tasks a in
      subst (λ (z : ℕ × List Drawn). z.1 ≡ trace_of z.0 log) c.2 (shut.traces the.heard (inl refl) c.0 c.1)

  known_ended : (trace : List Drawn) → Among trace (traces_of the.book) → IsKnownTrace P (own_of 0 log) (task_of trace) trace
  known_ended trace a =
      let e = over.book.ended trace a in
      let (which, args, s, starts, leads) = e.led P typed of in
      record {
        known = entries_of the.book;
        begins = ([], append-nil (entries_of the.book) ∙ sym book_is);
        traced = traced_by P (entries_of the.book) trace (task_of trace) which args s starts leads e.trace_is;
        own = structural_known (entries_of the.book) trace (task_of trace) e.trace_is;
      }

  known_job : (j : JobNow) → Among j the.jobs → IsKnownTrace P (own_of 0 log) j.task.number (drawn_of j.task.trace.items)
  known_job j a =
      let is = over.jobs_are j a in
      let (args, s, starts, task) = is.started P typed of in
      record {
        known = known_to j;
        begins = prefix_book j a;
        traced = traced_by P (known_to j) (drawn_of j.task.trace.items) j.task.number j.task.which args s starts
            (subst (λ l. IsStateAfter P j.task.which args l s) (sym (events_drawn j.task.trace.items)) task.state) is.trace;
        own = structural_known (known_to j) (drawn_of j.task.trace.items) j.task.number is.trace;
      }

  -- the root task was given out: else its job and the book's holder would both carry it
  twice : (pace : ℕ) → the.book.first ≡ Some pace → (l : List JobNow) → the.jobs ≡ l → ⊥
  twice pace first [] none =
      let new = over.book.is_new pace first in
      let all = over.many in
      let jobs : length the.jobs ≡ 0 = ap length none in
      let tasks : length the.book.lines ≡ 1 = over.book.listed.tasks ∙ ap (λ l. next_task (past_in l)) new.0 in
      let ended : length the.book.traces ≡ 0 = ap length new.2 in
      omega (arith, all, jobs, tasks, ended)
  twice pace first (j ∷ rest) is =
      let new = over.book.is_new pace first in
      let there : Among j the.jobs = subst (λ (l : List JobNow). Among j l) (sym is) (inl refl) in
      let none : known_to j ≡ [] = begins_none (known_to j) (subst (IsPrefix (known_to j)) (book_is ∙ new.0) (prefix_book j there)) in
      let (args, s, starts, task) = (over.jobs_are j there).started P typed of in
      let zero_is : j.task.number ≡ 0 = first_task P (known_to j) j.task.number j.task.which args none starts in
      let tasks : the.heard.view.tasks ≡ record { task = 0; trace = [] } ∷ carried_job j ∷ map carried_job rest =
      over.heard.tasks ∙ ap (λ cs. cs ++ map carried_job the.jobs) (over.book.carried ∙ ap (λ f. carried_by f (traces_of the.book)) first)
      ∙ ap (λ l. record { task = 0; trace = [] } ∷ map carried_job l) is in
      let one : 1 + (one_if_zero j.task.number + carries 0 (map carried_job rest)) ≤ 1 = subst (λ cs. carries 0 cs ≤ 1) tasks (over.heard.once 0) in
      let here : one_if_zero j.task.number ≡ 1 = ap one_if_zero zero_is in
      omega (arith, one, here)

  given : the.book.first ≡ None
  given = by the.book.first refl
    where
      by : (o : Option ℕ) → the.book.first ≡ o → the.book.first ≡ None
      by None e = e
      by (Some pace) e = absurd (twice pace e the.jobs refl)

  pub ended_tasks : the.book.holder.view.tasks ≡ map (λ (trace : List Drawn). record { task = task_of trace; trace = trace }) (traces_of the.book)
  ended_tasks = over.book.carried ∙ ap (λ f. carried_by f (traces_of the.book)) given

  known : (r : ℕ × List Drawn) → Among r (traces_in the.heard.view.tasks) → IsKnownTrace P (own_of 0 log) r.0 r.1
  known r a =
      let c = map_among (λ (c : Carried). (c.task, c.trace)) r the.heard.view.tasks a in
      let there : Among c.0 (the.book.holder.view.tasks ++ map carried_job the.jobs) = subst (λ cs. Among c.0 cs) over.heard.tasks c.1 in
      subst (λ (z : ℕ × List Drawn). IsKnownTrace P (own_of 0 log) z.0 z.1) c.2
      (elim (among_split c.0 the.book.holder.view.tasks (map carried_job the.jobs) there) [
        | inl old ↦ (
            let t = map_among (λ (trace : List Drawn). record { task = task_of trace; trace = trace }) c.0 (traces_of the.book)
            (subst (λ cs. Among c.0 cs) ended_tasks old) in
            subst (λ (z : Carried). IsKnownTrace P (own_of 0 log) z.task z.trace) t.2 (known_ended t.0 t.1))
        | inr new ↦ (
            let j = map_among carried_job c.0 the.jobs new in
            subst (λ (z : Carried). IsKnownTrace P (own_of 0 log) z.task z.trace) j.2 (known_job j.0 j.1))
      ])

  many : length (traces_in the.heard.view.tasks) ≡ next_task (reverse (events_in (own_of 0 log)))
  many =
      let all = length-map {B = ℕ × List Drawn} the.heard.view.tasks (λ (c : Carried). (c.task, c.trace)) in
      let both = ap length over.heard.tasks ∙ length-append the.book.holder.view.tasks (map carried_job the.jobs) in
      let own = length-map the.jobs carried_job in
      let old = ap length ended_tasks
      ∙ length-map {B = Carried} (traces_of the.book) (λ (trace : List Drawn). record { task = task_of trace; trace = trace }) in
      let traces = length-map the.book.traces (λ (t : Listed (ℕ × Entry)). drawn_of t.items) in
      let lines = over.many in
      let tasks : length the.book.lines ≡ next_task (past_in (entries_of the.book)) = over.book.listed.tasks in
      let last : next_task (reverse (events_in (own_of 0 log))) ≡ next_task (past_in (entries_of the.book)) = ap (λ l. next_task (past_in l)) book_is in
      omega (arith, all, both, own, old, traces, lines, tasks, last)

pub over_gives_gathered : OverGivesGathered
over_gives_gathered P the count typed of over shut =
    record {
      orderly = subst (λ n. IsOrderly n shut.log) over.nine shut.orderly;
      sound = subst (λ (l : List Drawn). IsSound (events_in l)) (sym (book_is P the count typed of over shut)) over.book.listed.sound;
      shared = shared P the count typed of over shut;
      whole = whole P the count typed of over shut;
      known = known P the count typed of over shut;
      once = λ t. subst (λ n. n ≤ 1) (sym (carries_times t the.heard.view.tasks)) (over.heard.once t);
      many = many P the count typed of over shut;
    }

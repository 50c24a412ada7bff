-- At the end of a run the log is a run of the program, which ended for the cause for which the turns stopped.
use Rattle.std.proofs.Common.{◌≡◌, ℕ, ◌<◌, ◌≤◌, ◌==◌, List, [], ◌∷◌, ◌++◌, length, inl, inr, refl, sym, ap, ◌∙◌, subst, arith, true≢false}
use Rattle.std.specs.Prelude.{ℤ, min, map, reverse, option_map, slice_get, Option, Some, None, IsSome}
use Rattle.std.specs.Option.{option_to_list}
use Rattle.std.proofs.Math.Nat.{min-le_right, min-eq_right}
use Rattle.std.proofs.lemmas.Bool.{eq-eqb}
use Rattle.std.proofs.lemmas.List.{length-map, length-reverse}
use Rattle.std.proofs.lemmas.Option.{same_Some}
use Rattle.fut_base.specs.declared.limits.TheConstants.{MOST_CREATES}
use Rattle.fut_base.specs.declared.record.Finish.{Finish}
use Rattle.fut_base.specs.declared.record.Finish.TheVariants as finish
use Rattle.fut_base.specs.declared.record.Limits.{Limits}
use Rattle.fut_base.specs.declared.record.Value.{Value}
use Rattle.fut_base.specs.declared.event.Event.{Event}
use Rattle.fut_base.specs.Dag.{Among, ends, last_of, block_of}
use Rattle.fut_base.specs.Sound.{next_task, value_of}
use Rattle.fut_base.proofs.Members.{among_split, among_left, among_right}
use Rattle.fut_syntax.specs.Trees as tree
use Rattle.fut_check.specs.Items.{IsWellTyped}
use Rattle.task_machine.specs.State.{TaskState, Wish, ToRead, ToWrite, ToSpawn, ToCreate, ToSync, ToGet, ToEnd, NoWish, wish_of}
use Rattle.task_machine.specs.Runs.{StandsAt, IsOutOfSteps, IsStateAfter}
use Rattle.task_machine.specs.Machine.{Machine, Running, opening, Leads, IsWhole, IsRunning, create_count, FinishHolds}
use Rattle.task_machine.proofs.Places.{get_below}
use Rattle.task_machine.proofs.Stepping.{stands_at_one}
use Rattle.task_code.specs.Flat.{Compiled, IsCodeOf}
use Rattle.task_code.specs.Tasks.{TaskNow, IsTaskOf}
use Rattle.run_laws.specs.Laws.{Mirrors, end_at}
use Rattle.run_laws.proofs.Mirrored.{mirrors}
use Rattle.run_laws.proofs.Ended.{value_was_ended}
use Rattle.event_clock.specs.declared.view.Carried.{Carried}
use Rattle.event_clock.specs.declared.view.Size.{Size}
use Rattle.event_clock.specs.Rule.{own_of, IsPrefix}
use Rattle.event_clock.specs.Seated.{Seated}
use Rattle.event_clock.specs.Closing.{IsClosed}
use Rattle.event_clock.proofs.Lists.{prefix_trans}
use Rattle.merge_laws.specs.Parts as parts
use Rattle.merge_laws.specs.Parts.{Drawn, IsTraced, MayGoOn, HasEndedOrWaits}
use Rattle.merge_laws.specs.Logs.{owns_from, history_of}
use Rattle.merge_laws.specs.Gathered.{tasks_of}
use Rattle.merge_laws.proofs.Lists.{among_map, map_among, among_filter, among_get}
use Rattle.merge_laws.proofs.Merging.{book_is_structure, traces_are_parts}
use Rattle.merge_laws.proofs.Ending.{traces_give_states}
use Rattle.merge_laws.proofs.Waiting.{creates_are_of_book, none_waits}
use Rattle.merge_laws.proofs.Allowing.{book_allows}
use Rattle.merge_laws.proofs.Fewest.{all_there}
use Rattle.run_replay.specs.Next.{IsSpent}
use Rattle.run_replay.proofs.Serially.{not_whole}
use Rattle.run_place.specs.Placed.{events_in}
use Rattle.run_book.specs.Drawn.{drawn_of, past_in}
use Rattle.run_book.specs.Jobs as jobs
use Rattle.run_book.specs.Jobs.{JobNow, IsJob, IsFree, NoneEnds, Stands, known_to}
use Rattle.run_book.specs.Lines.{LineNow, IsLineOf, unended}
use Rattle.run_book.specs.Books.{entries_of, traces_of, task_of, waiting_at, jobs_in}
use Rattle.run_book.specs.Steps.{IsBack, IsSameTask}
use Rattle.run_book.proofs.Handles.{events_drawn}
use Rattle.run_book.proofs.Blocks.{not_all_ended}
use Rattle.run_shard.specs.Shards.{shard_of}
use Rattle.over_laws.specs.Over.{Final, IsOver, IsShut, HasStopped, OverGivesRun, carried_job, traces_in, holders_of}
use Rattle.over_laws.specs.Halted.{IsCause}
use Rattle.over_laws.specs.Runs.{Ends, IsRun}
use Rattle.over_laws.specs.Cells.{AreCells}
use Rattle.over_laws.proofs.Over.{book_is, prefix_book, ended_tasks, starts_same, over_gives_gathered}
use Rattle.over_laws.proofs.Touching.{both, legal, cells_there}

-- ---- how long

pub length_history : (log : List (ℕ × Event)) → length (history_of log) ≡ length log
length_history log = length-reverse (map (λ (x : ℕ × Event). x.1) log) ∙ length-map log (λ (x : ℕ × Event). x.1)

pub all_in : (size : Size) (holders : List Seated) (count : ℕ) (closed : IsClosed size holders [] count) → length (history_of closed.log) ≡ min count size.bound
all_in size holders count closed = length_history closed.log ∙ closed.drawn

-- ---- waiting

-- the two definitions of what need not wait say the same
goes_on : (past : List Event) (t : ℕ) (w : Wish) → IsFree past t w → MayGoOn past t w
goes_on past t (ToRead _) f = f
goes_on past t (ToWrite _ _) f = f
goes_on past t (ToSpawn _ _) f = f
goes_on past t (ToCreate _ _) f = f
goes_on past t ToSync f = f
goes_on past t (ToGet _) f = f
goes_on past t (ToEnd _) f = f
goes_on past t NoWish f = f

no_value : (o : Option Value) → o ≡ None → IsSome o → ⊥
no_value None e s = cc
no_value (Some v) e s = cc

-- a task that has a last strand has ended with a value
has_value : (o : Option Value) (strand last : ℕ) (l : Option ℕ) → l ≡ option_map (λ (v : Value). strand) o → l ≡ Some last → IsSome o
has_value None strand last l is some = cc
has_value (Some v) strand last l is some = refl

-- a job that waits does so at a line
waits_at : (ls : List LineNow) (j : JobNow) → Among j (jobs_in ls) → (l : LineNow) × Among l ls × Among j (waiting_at l)
waits_at [] j a = absurd a
waits_at (l ∷ ls) j a = elim (among_split j (waiting_at l) (jobs_in ls) a) [
  | inl here ↦ (l, inl refl, here)
  | inr there ↦ (let r = waits_at ls j there in (r.0, inr r.1, r.2))
]

is_option : (o : Option JobNow) (j : JobNow) → Among j (option_to_list o) → o ≡ Some j
is_option None j a = absurd a
is_option (Some i) j (inl same) = ap (λ (k : JobNow). Some k) same
is_option (Some i) j (inr none) = absurd none

-- what a job that waits wishes has not come
module _ (code : Compiled) (known : List Drawn) (lines : List LineNow) (are : (t : ℕ) (l : LineNow) → slice_get lines t ≡ Some l → IsLineOf code known t l)
    (P : tree.Program) (typed : IsWellTyped P) (of : IsCodeOf P code) where
  bars : (j : JobNow) → Among j (jobs_in lines) → (args : List Value) (s : TaskState) → IsTaskOf P code args j.task s
      → (stop : TaskState) × StandsAt s stop × (MayGoOn (past_in known) j.task.number (wish_of P stop) → ⊥)
  bars j a args s task =
      let at = waits_at lines j a in
      let l : LineNow = at.0 in
      let i = among_get l lines at.1 in
      let line = are i.0 l i.1 in
      elim (among_split j (option_to_list l.waiter) l.waiters at.2) [
        | inl own ↦ (
            let (number, pace, some, stands) = line.waiter j (is_option l.waiter j own) in
            let (stop, at_stop, wish) = stands P args s typed of task in
            let low : 0 < unended (past_in known) (block_of (past_in known) j.task.number) =
            subst (λ k. 0 < unended (past_in known) (block_of (past_in known) k)) (sym number)
            (subst (λ ts. 0 < unended (past_in known) ts) line.block (subst (λ n. 0 < n) line.count some)) in (
              stop,
              at_stop,
              λ may. not_all_ended (past_in known) (block_of (past_in known) j.task.number) low
                  (subst (MayGoOn (past_in known) j.task.number) wish may),
            ))
        | inr other ↦ (
            let (none, parent, pace, stands) = line.waiters j other in
            let (stop, at_stop, wish) = stands P args s typed of task in
            (stop, at_stop, λ may. no_value (value_of (past_in known) i.0) (sym line.value ∙ none) (subst (MayGoOn (past_in known) j.task.number) wish may)))
      ]

-- ---- starts

starts_of : (P : tree.Program) (known book : List Drawn) → IsPrefix known book → (t which : ℕ) (args : List Value)
    → jobs.StartsAs P (events_in known) t which args → parts.StartsAs P (events_in book) t which args
starts_of P known book begins t which args starts = more (starts_same P (events_in known) t which args starts)
  where
    more : parts.StartsAs P (events_in known) t which args → parts.StartsAs P (events_in book) t which args
    more (inl first) = inl first
    more (inr (e, a, makes)) =
        (let x = map_among (λ (x : Drawn). x.1) e known a in
        let there : Among x.0 book = subst (λ (l : List Drawn). Among x.0 l) begins.1 (among_left x.0 known begins.0 x.1) in
        inr (e, subst (λ (z : Event). Among z (events_in book)) x.2 (among_map (λ (x : Drawn). x.1) x.0 book there), makes))

-- ---- the finish

-- what ends a run is a finish that holds
ends_hold : (P : tree.Program) (limits : Limits) (h : List Event) (m : Machine) (f : Finish) → limits.futures ≡ MOST_CREATES → Leads P (opening P) h m
    → length h ≤ limits.events → create_count h ≤ limits.futures → Ends P limits h m f → FinishHolds P h f
ends_hold P limits h m finish.Whole most leads few creates end = (m, leads, end)
ends_hold P limits h m (finish.Events b) most leads few creates (t, (is, many, (e, task, next, step), full)) = (
  omega (arith, is, many, few),
  not_whole P h m e.task step.task leads (step.present, step.running),
)
ends_hold P limits h m (finish.Local u) most leads few creates (t, (is, (q, runs, out))) =
    (m, q, leads, subst (λ n. IsRunning m n q) (sym is) runs, out)
ends_hold P limits h m (finish.Futures u) most leads few creates (t, (is, full)) = (
  m,
  full.task,
  leads,
  subst (λ n. IsRunning m n full.task) (sym is) full.running,
  (let many = full.many in omega (arith, creates, many, most)),
  full.wishes,
)

-- ---- the run

module _ (P : tree.Program) (the : Final) (count : ℕ) (typed : IsWellTyped P) (of : IsCodeOf P the.code) (over : IsOver the) (shut : IsShut the count) where
  abbrev log : List (ℕ × Event)
  log = shut.log

  abbrev book : List Drawn
  book = own_of 0 log

  abbrev others : List (List Drawn)
  others = owns_from 1 8 log

  abbrev traces : List (ℕ × List Drawn)
  traces = traces_in the.heard.view.tasks

  abbrev past : List Event
  past = reverse (events_in book)

  run : parts.IsSharedRun P (length log) shard_of book others traces
  run = (both P the count typed of over shut).0

  merge : parts.IsMerge (book ∷ others) (history_of log)
  merge = (both P the count typed of over shut).1

  book_here : book ≡ entries_of the.book
  book_here = book_is P the count typed of over shut

  past_here : past ≡ past_in (entries_of the.book)
  past_here = ap (λ (l : List Drawn). past_in l) book_here

  begins : (j : JobNow) → Among j the.jobs → IsPrefix (known_to j) book
  begins j a = prefix_book P the count typed of over shut j a

  bound_is : the.clock.size.bound ≡ the.limits.events
  bound_is = over.book.limits_are.1

  few : length (history_of log) ≤ the.limits.events
  few =
      let all = all_in the.clock.size (holders_of the.heard the.shards) count shut in
      let least = min-le_right count the.clock.size.bound in
      let bound = bound_is in
      omega (arith, all, least, bound)

  creates_is : create_count (history_of log) ≡ the.book.creates
  creates_is =
      creates_are_of_book P (length log) shard_of book others traces (history_of log) run merge
      ∙ ap (λ (l : List Drawn). create_count (events_in l)) book_here ∙ sym over.book.listed.creates

  -- ---- traces

  abbrev traced_as : (r : ℕ × List Drawn) → Among r traces → (which : ℕ) (args : List Value) (s : TaskState) → parts.StartsAs P (events_in book) r.0 which args
      → IsStateAfter P which args (events_in r.1) s → IsTraced P book r.0 r.1
  traced_as r a which args s starts leads =
      record { which = which; args = args; state = s; starts = starts; leads = leads; stands = (run.traced r a).stands }

  job_trace : (j : JobNow) → Among j the.jobs → Among (j.task.number, drawn_of j.task.trace.items) traces
  job_trace j a =
      let there : Among (carried_job j) the.heard.view.tasks =
      subst (λ (cs : List Carried). Among (carried_job j) cs) (sym over.heard.tasks)
      (among_right (carried_job j) the.book.holder.view.tasks (map carried_job the.jobs) (among_map carried_job j the.jobs a)) in
      among_map (λ (c : Carried). (c.task, c.trace)) (carried_job j) the.heard.view.tasks there

  -- so has a task that differs from a job's by room and local steps
  same_trace : (j : JobNow) → Among j the.jobs → (task : TaskNow) → IsSameTask task j.task → Among (task.number, drawn_of task.trace.items) traces
  same_trace j a task same =
      subst (λ (n : ℕ). Among (n, drawn_of task.trace.items) traces) same.number
      (subst (λ l. Among (j.task.number, drawn_of l) traces) same.trace (job_trace j a))

  abbrev task_traced : (task : TaskNow) → Among (task.number, drawn_of task.trace.items) traces → (known : List Drawn) → IsPrefix known book
      → (args : List Value) (s : TaskState) → jobs.StartsAs P (events_in known) task.number task.which args → IsTaskOf P the.code args task s
      → IsTraced P book task.number (drawn_of task.trace.items)
  task_traced task a known begin args s starts is =
      traced_as (task.number, drawn_of task.trace.items) a task.which args s (starts_of P known book begin task.number task.which args starts)
      (subst (λ (l : List Event). IsStateAfter P task.which args l s) (sym (events_drawn task.trace.items)) is.state)

  -- ---- the machine

  module _ (m : Machine) (leads : Leads P (opening P) (history_of log) m) where
    there : (r : ℕ × List Drawn) → Among r traces → (x : IsTraced P book r.0 r.1)
        → (q : Running) × (slice_get m.tasks r.0 ≡ Some q) × (q.state ≡ x.state) × (q.value ≡ value_of past r.0)
    there r a x = traces_give_states P (length log) shard_of book others traces (history_of log) run merge r a x m leads

    mirrored : Mirrors past m
    mirrored =
        subst (λ (es : List Event). Mirrors (reverse es) m) (book_is_structure P (length log) shard_of book others traces (history_of log) run merge)
        (mirrors P (history_of log) m leads)

    -- a task with no end in its trace has not ended
    unended_there : (r : ℕ × List Drawn) → Among r traces → NoneEnds r.1 → (q : Running) → slice_get m.tasks r.0 ≡ Some q → q.value ≡ None
    unended_there r a none q got = by q.value refl
      where
        by : (o : Option Value) → q.value ≡ o → q.value ≡ None
        by None e = e
        by (Some v) e =
            (let w = value_was_ended P (history_of log) m r.0 q v leads got e in
            let mine = among_filter (λ (e : Event). e.task == r.0) (end_at r.0 w.0 v) (history_of log) w.1 (eq-eqb r.0 r.0 refl) in
            let part = traces_are_parts P (length log) shard_of book others traces (history_of log) run merge r a in
            let x = map_among (λ (x : Drawn). x.1) (end_at r.0 w.0 v) r.1 (subst (λ (l : List Event). Among (end_at r.0 w.0 v) l) (sym part) mine) in
            absurd (true≢false (sym (ap (λ (e : Event). ends e.action) x.2) ∙ none x.0 x.1)))

    -- ---- why a job was handed back

    module _ (back : JobNow) (a : Among back the.jobs) (job : JobNow) (is : IsJob the.clock the.orders the.code job) (as_is : IsBack job back) where
      abbrev r : ℕ × List Drawn
      r = (job.task.number, drawn_of job.task.trace.items)

      in_traces : Among (job.task.number, drawn_of job.task.trace.items) traces
      in_traces = same_trace back a job.task as_is.task

      known_begins : IsPrefix (known_to job) book
      known_begins = prefix_trans (known_to job) (known_to back) book (as_is.pass 0) (begins back a)

      abbrev traced_at : (args : List Value) (s : TaskState) → jobs.StartsAs P (events_in (known_to job)) job.task.number job.task.which args
          → IsTaskOf P the.code args job.task s → IsTraced P book job.task.number (drawn_of job.task.trace.items)
      traced_at args s starts task = task_traced job.task in_traces (known_to job) known_begins args s starts task

      running_at : (args : List Value) (s : TaskState) → jobs.StartsAs P (events_in (known_to job)) job.task.number job.task.which args
          → IsTaskOf P the.code args job.task s → (q : Running) × IsRunning m job.task.number q × (q.state ≡ s) × (value_of past job.task.number ≡ None)
      running_at args s starts task =
          let q = there r in_traces (traced_at args s starts task) in
          let none = unended_there r in_traces is.unended q.0 q.1 in
          (q.0, (q.1, none), q.2, sym q.3 ∙ none)

      -- a holder that was turned away has seen all tickets drawn
      all_drawn : (u : Seated) → Among u (holders_of the.book.holder the.shards) → u.view.late ≡ 1 → the.limits.events ≤ length (history_of log)
      all_drawn u a late = by (count_above u a late)
        where
          count_above : (u : Seated) → Among u (holders_of the.book.holder the.shards) → u.view.late ≡ 1 → the.clock.size.bound < count
          count_above u (inl same) late =
              (let one : the.heard.view.late ≡ 1 = over.heard.late ∙ ap (λ (v : Seated). v.view.late) same ∙ late in
              shut.late the.heard (inl refl) (omega (arith, one)))
          count_above u (inr other) late = shut.late u (inr other) (omega (arith, late))

          by : the.clock.size.bound < count → the.limits.events ≤ length (history_of log)
          by lt =
              (let all = all_in the.clock.size (holders_of the.heard the.shards) count shut in
              let least : min count the.clock.size.bound ≡ the.clock.size.bound = min-eq_right (omega (arith, lt)) in
              let bound = bound_is in
              omega (arith, all, least, bound))

      spent_events : (bound : ℕ) → IsCause the.code the.limits the.book (holders_of the.book.holder the.shards) job (finish.Events bound)
          → IsSpent P the.limits (history_of log) m job.task.number (finish.Events bound)
      spent_events bound (bound_as, (u, at, late), stands) =
          let (args, s, starts, task) = is.started P typed of in
          let (stop, at_stop, (free, creates)) = stands P args s typed of task in
          let (q, runs, state, value) = running_at args s starts task in
          let here = subst (λ (l : List Event). IsFree l job.task.number (wish_of P stop)) (sym past_here) free in
          let may = goes_on past job.task.number (wish_of P stop) here in (
            bound_as,
            all_drawn u at late,
            book_allows P (length log) shard_of book others traces (history_of log) typed run merge r in_traces (traced_at args s starts task) m leads value
                stop at_stop may,
            λ full. (
                let (other, which, given, at_other, wish) = full.wishes in
                let same : full.task ≡ q = same_Some full.task q (sym full.running.0 ∙ runs.0) in
                let at : StandsAt s other = subst (λ z. StandsAt z other) (ap (λ (z : Running). z.state) same ∙ state) at_other in
                let one : stop ≡ other = stands_at_one s stop other at_stop at in
                let low = creates which given (ap (λ z. wish_of P z) one ∙ wish) in
                let many = full.many in
                let is_all = creates_is in
                omega (arith, low, many, is_all)),
          )

      spent_futures : (t : ℕ) → IsCause the.code the.limits the.book (holders_of the.book.holder the.shards) job (finish.Futures t)
          → IsSpent P the.limits (history_of log) m job.task.number (finish.Futures t)
      spent_futures t (number, all, wishes) =
          let (args, s, starts, task) = is.started P typed of in
          let (stop, at_stop, (which, given, wish)) = wishes P args s typed of task in
          let (q, runs, state, value) = running_at args s starts task in
          let is_all = creates_is in (
            number,
            record {
              task = q;
              running = runs;
              wishes = (stop, which, given, subst (λ z. StandsAt z stop) (sym state) at_stop, wish);
              many = omega (arith, all, is_all);
            },
          )

      spent_local : (t : ℕ) → IsCause the.code the.limits the.book (holders_of the.book.holder the.shards) job (finish.Local t)
          → IsSpent P the.limits (history_of log) m job.task.number (finish.Local t)
      spent_local t (number, out) =
          let (args, s, starts, task, gone) = out P typed of in
          let (q, runs, state, value) = running_at args s starts task in
          (number, (q, runs, subst (λ z. IsOutOfSteps z) (sym state) gone))

      ends_by : (f : Finish) → IsCause the.code the.limits the.book (holders_of the.book.holder the.shards) job f → Ends P the.limits (history_of log) m f
      ends_by finish.Whole cause = absurd cause
      ends_by (finish.Events bound) cause = (job.task.number, spent_events bound cause)
      ends_by (finish.Futures t) cause = (job.task.number, spent_futures t cause)
      ends_by (finish.Local t) cause = (job.task.number, spent_local t cause)

    -- ---- where no job was left

    -- each task has a trace
    task_below : (t : ℕ) → Among t (tasks_of traces) → t < next_task past
    task_below t a =
        let r = map_among (λ (r : ℕ × List Drawn). r.0) t traces a in
        let q = there r.0 r.1 (run.traced r.0 r.1) in
        let low = get_below m.tasks r.0.0 q.0 q.1 in
        let tasks = mirrored.tasks in
        let same = r.2 in
        omega (arith, low, tasks, same)

    has_trace : (t : ℕ) → t < next_task past → (r : ℕ × List Drawn) × Among r traces × (r.0 ≡ t)
    has_trace t lt =
        let g = over_gives_gathered P the count typed of over shut in
        map_among (λ (r : ℕ × List Drawn). r.0) t traces
        (all_there (next_task past) (tasks_of traces) g.once task_below (length-map traces (λ (r : ℕ × List Drawn). r.0) ∙ g.many) t lt)

    -- a task with a last strand has ended
    has_ended : (r : ℕ × List Drawn) → Among r traces → (last : ℕ) → last_of past r.0 ≡ Some last → IsSome (value_of past r.0)
    has_ended r a last is =
        let q = there r a (run.traced r a) in
        let same = mirrored.each r.0 q.0 q.1 in
        subst (λ (o : Option Value). IsSome o) (sym same.value) (has_value q.0.value q.0.strand last (last_of past r.0) same.last is)

    module _ (wait : (j : JobNow) → Among j the.jobs → Among j (jobs_in the.book.lines)) where
      job_waits : (j : JobNow) → Among j the.jobs → HasEndedOrWaits P book traces j.task.number
      job_waits j a =
          let (args, s, starts, task) = (over.jobs_are j a).started P typed of in
          let (stop, at_stop, bar) = bars the.code (entries_of the.book) the.book.lines over.book.listed.lines P typed of j (wait j a) args s task in
          inr (
            drawn_of j.task.trace.items,
            job_trace j a,
            task_traced j.task (job_trace j a) (known_to j) (begins j a) args s starts task,
            (stop, at_stop, λ may. bar (subst (λ (l : List Event). MayGoOn l j.task.number (wish_of P stop)) past_here may)),
          )

      ended_waits : (trace : List Drawn) → Among trace (traces_of the.book) → Among (task_of trace, trace) traces
          → HasEndedOrWaits P book traces (task_of trace)
      ended_waits trace a at =
          let last = (over.book.ended trace a).ended in
          inl (has_ended (task_of trace, trace) at last.0 (ap (λ (l : List Event). last_of l (task_of trace)) past_here ∙ last.1))

      each_waits : (r : ℕ × List Drawn) → Among r traces → HasEndedOrWaits P book traces r.0
      each_waits r a =
          let c = map_among (λ (c : Carried). (c.task, c.trace)) r the.heard.view.tasks a in
          let split : Among c.0 (the.book.holder.view.tasks ++ map carried_job the.jobs) = subst (λ cs. Among c.0 cs) over.heard.tasks c.1 in
          subst (λ (z : ℕ × List Drawn). HasEndedOrWaits P book traces z.0) c.2
          (elim (among_split c.0 the.book.holder.view.tasks (map carried_job the.jobs) split) [
            | inl old ↦ (
                let known = ended_tasks P the count typed of over shut in
                let t = map_among (λ (trace : List Drawn). record { task = task_of trace; trace = trace }) c.0 (traces_of the.book)
                (subst (λ cs. Among c.0 cs) known old) in
                let here : (task_of t.0, t.0) ≡ r = ap (λ (z : Carried). (z.task, z.trace)) t.2 ∙ c.2 in
                subst (λ (z : Carried). HasEndedOrWaits P book traces z.task) t.2
                (ended_waits t.0 t.1 (subst (λ (z : ℕ × List Drawn). Among z traces) (sym here) a)))
            | inr new ↦ (
                let j = map_among carried_job c.0 the.jobs new in
                subst (λ (z : Carried). HasEndedOrWaits P book traces z.task) j.2 (job_waits j.0 j.1))
          ])

      is_whole : IsWhole P (history_of log)
      is_whole =
          none_waits P (length log) shard_of book others traces (history_of log) typed run merge
          (λ t lt. (let r = has_trace t lt in subst (λ k. HasEndedOrWaits P book traces k) r.2 (each_waits r.0 r.1)))

  -- ---- the run

  module _ (left : List JobNow) (f : Finish) (values : List ℤ) (pairs : List (Option (ℕ × ℕ))) (most : the.limits.futures ≡ MOST_CREATES)
      (stopped : HasStopped the left f) (cells : AreCells the.code the.shards values pairs) where
    run_by : (m : Machine) → Leads P (opening P) (history_of log) m → (g : Finish) → Ends P the.limits (history_of log) m g
        → IsRun P the.limits (history_of log) g values
    run_by m leads g end =
        let all = creates_is in
        let low = over.book.creates_few in
        let creates_few : create_count (history_of log) ≤ the.limits.futures = omega (arith, all, low) in
        record {
          machine = m;
          leads = leads;
          few = few;
          creates_few = creates_few;
          ends = end;
          holds = ends_hold P the.limits (history_of log) m g most leads few creates_few end;
          cells_are = cells_there P the count typed of over shut values pairs cells m leads;
        }

    -- all jobs wait where none was left
    all_wait : left ≡ [] → (j : JobNow) → Among j the.jobs → Among j (jobs_in the.book.lines)
    all_wait none j a = elim (stopped.all j a) [ inl old ↦ absurd (subst (λ (l : List JobNow). Among j l) none old) | inr waits ↦ waits ]

    pub log_run : IsRun P the.limits (history_of log) f values
    log_run =
        let l = legal P the count typed of over shut in
        elim stopped.ends [
          | inl (whole, none) ↦ (
              let w = is_whole l.0 l.1 (all_wait none) in
              subst (λ g. IsRun P the.limits (history_of log) g values) (sym whole) (run_by w.0 w.1 finish.Whole w.2))
          | inr (back, a, halted) ↦ run_by l.0 l.1 f (ends_by l.0 l.1 back (stopped.left_are back a) halted.job halted.is halted.back_is f halted.cause)
        ]

pub over_gives_run : OverGivesRun
over_gives_run P the count typed of over shut left f values pairs most stopped cells =
    log_run P the count typed of over shut left f values pairs most stopped cells

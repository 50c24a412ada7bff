-- The book after a task has ended.
use Rattle.std.proofs.Common.{◌≡◌, ◌≢◌, ℕ, ◌+◌, ◌-◌, ◌*◌, ◌<◌, ◌≤◌, ◌==◌, if◌then◌else◌, List, [], ◌∷◌, ◌++◌, length, map, inl, inr, ◌⊎◌}
use Rattle.std.proofs.Common.{refl, sym, ap, ◌∙◌, subst, arith}
use Rattle.std.specs.Prelude.{◌↔◌, Some, None, slice_get}
use Rattle.std.proofs.lemmas.List.{length-append, map-append}
use Rattle.atomic_table.specs.Seated.{TableId}
use Rattle.fut_base.specs.declared.record.Entry.{Entry}
use Rattle.fut_base.specs.declared.record.Limits.{Limits}
use Rattle.fut_base.specs.declared.record.Value.{Value}
use Rattle.fut_base.specs.declared.event.Event.{Event}
use Rattle.fut_base.specs.declared.event.Action.TheVariants.{Ends}
use Rattle.fut_base.specs.Listed.{Listed}
use Rattle.fut_base.specs.Dag.{Among, last_of}
use Rattle.fut_base.specs.Sound.{IsSound, MayFollow, next_task}
use Rattle.fut_base.proofs.Cases.{by_eq}
use Rattle.fut_base.proofs.Members.{among_split, among_left, among_right, among_last}
use Rattle.fut_syntax.specs.Trees as tree
use Rattle.task_machine.specs.State.{TaskState, ToEnd, start_state, effect_of}
use Rattle.task_machine.specs.Runs.{Follows, IsStateAfter}
use Rattle.task_machine.specs.Machine.{create_count}
use Rattle.task_code.specs.Flat.{Compiled}
use Rattle.event_clock.specs.declared.view.View.{View}
use Rattle.event_clock.specs.declared.view.Carried.{Carried}
use Rattle.event_clock.specs.Views.{own_list, numbers_of, number_of, carries, drawn, IsAbove}
use Rattle.event_clock.specs.Seated.{Ticking, Seated}
use Rattle.strand_tree.specs.Placing.{AreOrders}
use Rattle.run_counts.specs.Counted.{Counted}
use Rattle.run_counts.specs.Moves.{over}
use Rattle.run_place.specs.Placed.{book_of, events_in}
use Rattle.run_book.specs.Drawn.{drawn_of, past_in}
use Rattle.run_book.specs.Jobs.{JobNow, StartsAs, IsTraceBy, Stands}
use Rattle.run_book.specs.Lines.{LineNow, Ended}
use Rattle.run_book.specs.Turns.{parent_of, after_end}
use Rattle.run_book.specs.Books.{BookNow, IsBook, IsTold, IsLed, IsEndedTrace, entries_of, traces_of, carried_by, task_of, waiting_in, wait_for}
use Rattle.run_book.specs.Tabling.{AreLines}
use Rattle.run_book.specs.Waking.{IsFreed, AreFreed, woken_by}
use Rattle.run_book.proofs.Drawn.{events_one, past_one}
use Rattle.run_book.proofs.Blocks.{last_here}
use Rattle.run_book.proofs.Lining.{EndsStay}
use Rattle.run_book.proofs.AllLines.{settles_line, settles_parent, lines_ended, all_freed, fewer_wait}
use Rattle.run_book.proofs.Stranding.{event_at, strand_add, table_add, orders_end, few_tickets}
use Rattle.run_book.proofs.Knowing.{IsKnown, starts_more}
use Rattle.run_book.proofs.Handles.{may_follow, events_drawn}
use Rattle.run_book.proofs.Feeding.{traced_own}
use Rattle.run_book.proofs.Forked.{creates_one}
use Rattle.run_book.proofs.Carrying.{carried_task}
use Rattle.run_book.proofs.Getting.{lines_of}
use Rattle.run_book.proofs.Going.{HasDrawn, low, early, drawn_known, drawn_own, drawn_number, sound_more, tasks_own, ended_more, first_none, book_went}

no_more : (n : ℕ) → n + 0 ≡ n
no_more n = omega arith

-- the task of a trace with an entry more, all of whose entries are of one task
task_is : (t k : ℕ) (e : Event) (trace : List (ℕ × Event)) → ((x : ℕ × Event) → Among x trace → x.1.task ≡ t) → e.task ≡ t
    → task_of (trace ++ (k, e) ∷ []) ≡ t
task_is t k e [] own same = same
task_is t k e (x ∷ trace) own same = own x (inl refl)

carries_append : (t : ℕ) (cs ds : List Carried) → carries t (cs ++ ds) ≡ carries t cs + carries t ds
carries_append t [] ds = omega arith
carries_append t (c ∷ cs) ds = let rest = carries_append t cs ds in omega (arith, rest)

all_of : (code : Compiled) (book : List (ℕ × Event)) (js : List JobNow) → ((j : JobNow) → Among j js → IsFreed code book j) → AreFreed code book js
all_of code book [] each = tt
all_of code book (j ∷ js) each = (each j (inl refl), all_of code book js (λ i a. each i (inr a)))

-- a state before some events of a task and after others
follows_join : (P : tree.Program) (s : TaskState) (xs ys : List Event) (u t : TaskState) → Follows P s xs u → Follows P u ys t → Follows P s (xs ++ ys) t
follows_join P s [] ys u t f g = subst (λ z. Follows P z ys t) (sym f) g
follows_join P s (x ∷ xs) ys u t (at, stands, answers, rest) g = (at, stands, answers, follows_join P (effect_of at x.action) xs ys u t rest g)

module _ (clock : Ticking) (orders : TableId) (code : Compiled) (limits : Limits) (b : BookNow) (j : JobNow) (v : View) (k : ℕ) (value : Value)
    (is : IsBook clock orders code limits b) (known : IsKnown code (entries_of b) j b.holder.view.tasks v) (one : numbers_of v.own ≡ number_of v ∷ [])
    (stands : Stands code j.task (λ P w. w ≡ ToEnd value)) where
  abbrev end_of : Event
  end_of = event_at j.task.number j.place.at.number (Ends value)

  abbrev last_is : Ended
  last_is = record { at = j.place.at; table = j.place.table }

  pub end_follows : MayFollow (past_in (entries_of b)) (event_at j.task.number j.place.at.number (Ends value))
  end_follows =
      may_follow code (entries_of b) j.task j.place.at j.place.table j.pace end_of is.listed.sound known.task refl refl refl tt stands

  module _ (below : k < limits.events) (above : IsAbove k v) where
    pub end_drawn : HasDrawn code limits b j v k (event_at j.task.number j.place.at.number (Ends value))
    end_drawn = record { known = known; one = one; below = below; above = above; own = (refl, refl); follows = end_follows; answers = stands }

    abbrev after : List (ℕ × Event)
    after = entries_of b ++ (k, event_at j.task.number j.place.at.number (Ends value)) ∷ []

    end_sound : IsSound (events_in after)
    end_sound = sound_more clock orders code limits b j v k end_of is end_drawn

    end_stays : EndsStay (entries_of b) after
    end_stays last strand table =
        (strand_add (entries_of b) k end_of last.at end_sound strand, table_add (entries_of b) k end_of last.at last.table end_sound strand table)

    -- what settling asks
    pub end_line : (l : LineNow) × (slice_get b.lines j.task.number ≡ Some l) × (l.value ≡ None) × ((p : ℕ) → l.parent ≡ Some p → l.waiters ≡ [])
    end_line =
        settles_line code (entries_of b) k end_of is.listed.sound end_follows end_stays b.lines (lines_of clock orders code limits b is) value refl

    pub end_parent : (p : ℕ) → parent_of (slice_get b.lines j.task.number) ≡ Some p
        → (p ≢ j.task.number) × ((l : LineNow) × (slice_get b.lines p ≡ Some l) × (0 < l.count))
    end_parent =
        settles_parent code (entries_of b) k end_of is.listed.sound end_follows end_stays b.lines (lines_of clock orders code limits b is) value refl

    end_lines : AreLines code after (after_end j.task.number value last_is b.lines)
    end_lines =
        lines_ended code (entries_of b) k end_of is.listed.sound end_follows end_stays b.lines (lines_of clock orders code limits b is) value last_is refl refl
        known.task.placed.0 known.task.placed.1

    -- those who waited may go on
    pub end_freed : AreFreed code (entries_of b ++ (k, event_at j.task.number j.place.at.number (Ends value)) ∷ []) (wait_for b.lines j.task.number)
    end_freed =
        all_of code after (wait_for b.lines j.task.number)
        (all_freed code (entries_of b) k end_of is.listed.sound end_follows end_stays b.lines (lines_of clock orders code limits b is) value last_is refl refl
        known.task.placed.0 known.task.placed.1)

    end_waiting : waiting_in (after_end j.task.number value last_is b.lines) + length (wait_for b.lines j.task.number) ≡ waiting_in b.lines
    end_waiting =
        fewer_wait code (entries_of b) k end_of is.listed.sound end_follows end_stays b.lines (lines_of clock orders code limits b is) value last_is refl refl
        known.task.placed.0 known.task.placed.1

    pub end_few : length (wait_for b.lines j.task.number) ≤ b.counts.waiting
    end_few = let told = is.counted.waiting in let rest = end_waiting in omega (arith, told, rest)

    -- the trace of the task
    abbrev trace_is : List (ℕ × Event)
    trace_is = drawn_of j.task.trace.items ++ (k, event_at j.task.number j.place.at.number (Ends value)) ∷ []

    traced : IsTraceBy after j.task.number trace_is
    traced =
        traced_own (entries_of b) j.task.number (drawn_of j.task.trace.items) k end_of known.task.trace
        (low clock orders code limits b j v k end_of is end_drawn) (early clock orders code limits b j v k end_of is end_drawn)
        (record { own = refl; stands = end_follows.stands; running = end_follows.running }) refl

    task_here : task_of trace_is ≡ j.task.number
    task_here = task_is j.task.number k end_of (drawn_of j.task.trace.items) (λ x a. (known.task.trace.entries x a).own) refl

    trace_led : IsLed code after trace_is
    trace_led P typed of =
        let (args, s, starts, state) = known.task.started P typed of in
        let (stop, at_event, wishes) = stands P args s typed of state in
        let before : IsStateAfter P j.task.which args (events_in (drawn_of j.task.trace.items)) s =
        subst (λ (l : List Event). IsStateAfter P j.task.which args l s) (sym (events_drawn j.task.trace.items)) state.state in (
          j.task.which,
          args,
          effect_of stop (Ends value),
          subst (λ n. StartsAs P (events_in after) n j.task.which args) (sym task_here)
              (subst (λ l. StartsAs P l j.task.number j.task.which args) (sym (events_one (entries_of b) k end_of))
              (starts_more P (events_in (entries_of b)) (end_of ∷ []) j.task.number j.task.which args starts)),
          subst (λ l. IsStateAfter P j.task.which args l (effect_of stop (Ends value))) (sym (events_one (drawn_of j.task.trace.items) k end_of))
              (follows_join P (start_state P j.task.which args) (events_in (drawn_of j.task.trace.items)) (end_of ∷ []) s (effect_of stop (Ends value)) before
              (stop, at_event, wishes, refl)),
        )

    ended_is : IsEndedTrace code after trace_is
    ended_is =
        record {
          led = trace_led;
          ended = (
            j.place.at.number,
            subst (λ t. last_of (past_in after) t ≡ Some j.place.at.number) (sym task_here)
                (subst (λ past. last_of past j.task.number ≡ Some j.place.at.number) (sym (past_one (entries_of b) k end_of))
                (last_here (past_in (entries_of b)) end_of j.task.number refl refl)),
          );
          trace_is = subst (λ t. IsTraceBy after t trace_is) (sym task_here) traced;
          some = (let more = length-append (drawn_of j.task.trace.items) ((k, end_of) ∷ []) in omega (arith, more));
        }

    end_tasks : (drawn k end_of v).tasks ≡ b.holder.view.tasks ++ carried_task j.task.number trace_is ∷ []
    end_tasks = tasks_own clock orders code limits b j v k end_of is end_drawn tt

    -- what the holder carries, and the traces of the tasks that have ended
    end_carried : (b' : BookNow) (t : Listed (ℕ × Entry)) → b'.holder.view.tasks ≡ b.holder.view.tasks ++ carried_task j.task.number trace_is ∷ []
        → drawn_of t.items ≡ trace_is → b'.traces ≡ b.traces ++ t ∷ [] → b'.first ≡ b.first
        → (b'.holder.view.tasks ≡ carried_by b'.first (traces_of b')) × ((t : ℕ) → carries t b'.holder.view.tasks ≤ 1)
        × ((trace : List (ℕ × Event)) → Among trace (traces_of b') → IsEndedTrace code after trace)
    end_carried b' t tasks trace traces first =
        let none = first_none clock orders code limits b j v k end_of is end_drawn in
        let all : traces_of b' ≡ traces_of b ++ trace_is ∷ [] =
        ap (λ (ts : List (Listed (ℕ × Entry))). map (λ (x : Listed (ℕ × Entry)). drawn_of x.items) ts) traces
        ∙ map-append (λ (x : Listed (ℕ × Entry)). drawn_of x.items) b.traces (t ∷ []) ∙ ap (λ (l : List (ℕ × Event)). traces_of b ++ l ∷ []) trace in
        let mine : Carried = carried_task j.task.number trace_is in
        let both : carried_by None (traces_of b ++ trace_is ∷ []) ≡ carried_by None (traces_of b) ++ mine ∷ [] =
        map-append (λ (x : List (ℕ × Event)). carried_task (task_of x) x) (traces_of b) (trace_is ∷ [])
        ∙ ap (λ n. carried_by None (traces_of b) ++ carried_task n trace_is ∷ []) task_here in
        let has : carried_by b'.first (traces_of b') ≡ carried_by None (traces_of b) ++ mine ∷ [] =
        ap (λ f. carried_by f (traces_of b')) (first ∙ none) ∙ ap (λ ts. carried_by None ts) all ∙ both in
        let was : b.holder.view.tasks ≡ carried_by None (traces_of b) = is.carried ∙ ap (λ f. carried_by f (traces_of b)) none in (
          tasks ∙ ap (λ cs. cs ++ mine ∷ []) was ∙ sym has,
          λ n. subst (λ cs. carries n cs ≤ 1) (sym tasks) (once n mine),
          λ trace a. elim (among_split trace (traces_of b) (trace_is ∷ []) (subst (λ ts. Among trace ts) all a)) [
            | inl old ↦ ended_more clock orders code limits b j v k end_of is end_drawn trace old
            | inr new ↦ elim new [ inl same ↦ subst (λ x. IsEndedTrace code after x) same ended_is | inr nothing ↦ absurd nothing ]
          ],
        )
      where
        once : (n : ℕ) (mine : Carried) → carries n (b.holder.view.tasks ++ carried_task j.task.number trace_is ∷ []) ≤ 1
        once n mine =
            let split = carries_append n b.holder.view.tasks (carried_task j.task.number trace_is ∷ []) in
            let before = is.once n in
            let apart = known.apart in
            by_eq (λ z. carries n (b.holder.view.tasks ++ carried_task j.task.number trace_is ∷ []) ≡ carries n b.holder.view.tasks + ((if z then 1 else 0) + 0)
            → carries n (b.holder.view.tasks ++ carried_task j.task.number trace_is ∷ []) ≤ 1) j.task.number n
            (λ same h. (
            let zero : carries n b.holder.view.tasks ≡ 0 = subst (λ m. carries m b.holder.view.tasks ≡ 0) same apart in
            omega (arith, h, zero)))
            (λ other h. omega (arith, h, before)) split

    end_told : (b' : BookNow) (t : Listed (ℕ × Entry)) → 0 < b.counts.running → entries_of b' ≡ after → b'.lines ≡ after_end j.task.number value last_is b.lines
        → b'.traces ≡ b.traces ++ t ∷ [] → b'.counts ≡ woken_by (length (wait_for b.lines j.task.number)) (over b.counts) → IsTold b'
    end_told b' t some entries lines traces counts =
        let told = is.counted in
        let events = told.events in
        let longer = ap length entries ∙ length-append (entries_of b) ((k, end_of) ∷ []) in
        let running = told.running in
        let waiting = told.waiting in
        let size = ap (λ (ls : List LineNow). length ls) lines ∙ end_lines.all in
        let tasks = is.listed.tasks in
        let same : next_task (past_in after) ≡ next_task (past_in (entries_of b)) + 0 = ap next_task (past_one (entries_of b) k end_of) in
        let ends = ap length traces ∙ length-append b.traces (t ∷ []) in
        let made : b'.counts.events ≡ b.counts.events + 1 = ap (λ (c : Counted). c.events) counts in
        let runs : b'.counts.running ≡ (b.counts.running - 1) + length (wait_for b.lines j.task.number) = ap (λ (c : Counted). c.running) counts in
        let waits : b'.counts.waiting ≡ b.counts.waiting - length (wait_for b.lines j.task.number) = ap (λ (c : Counted). c.waiting) counts in
        let fewer = end_waiting in
        let there : waiting_in b'.lines ≡ waiting_in (after_end j.task.number value last_is b.lines) = ap waiting_in lines in
        record {
          events = omega (arith, events, longer, made);
          waiting = omega (arith, waits, waiting, fewer, there);
          running = omega (arith, runs, waits, running, size, tasks, same, ends, some, fewer, waiting);
          rest = (ap (λ (c : Counted). c.rest.given) counts ∙ told.rest.0, ap (λ (c : Counted). c.rest.taken) counts ∙ told.rest.1);
        }

    -- the book after the end, with those counted as running that go on
    pub end_book : (h : Seated) (traces : List (Listed (ℕ × Entry))) (t : Listed (ℕ × Entry)) (lines : List LineNow) (counts : Counted) → 0 < b.counts.running
        → h.clock ≡ b.holder.clock → h.view ≡ drawn k (event_at j.task.number j.place.at.number (Ends value)) v
        → drawn_of t.items ≡ drawn_of j.task.trace.items ++ (k, event_at j.task.number j.place.at.number (Ends value)) ∷ [] → traces ≡ b.traces ++ t ∷ []
        → lines ≡ after_end j.task.number value (record { at = j.place.at; table = j.place.table }) b.lines
        → counts ≡ woken_by (length (wait_for b.lines j.task.number)) (over b.counts)
        → IsBook clock orders code limits (record b { holder = h; lines = lines; traces = traces; counts = counts })
    end_book h traces t lines counts some clock_is view_is trace traces_are lines_are counts_are =
        let new : BookNow = record b { holder = h; lines = lines; traces = traces; counts = counts } in
        let entries : own_list h.view ≡ after = ap (λ (u : View). own_list u) view_is ∙ drawn_own clock orders code limits b j v k end_of is end_drawn in
        let knows : book_of h.view ≡ after = ap (λ (u : View). book_of u) view_is ∙ drawn_known clock orders code limits b j v k end_of is end_drawn in
        let number : number_of h.view ≡ 0 = ap (λ (u : View). number_of u) view_is ∙ drawn_number clock orders code limits b j v k end_of is end_drawn in
        let tasks : h.view.tasks ≡ b.holder.view.tasks ++ carried_task j.task.number trace_is ∷ [] = ap (λ (u : View). u.tasks) view_is ∙ end_tasks in
        let few = few_tickets (entries_of b) k is.listed.rises (low clock orders code limits b j v k end_of is end_drawn) in
        let more = length-append (entries_of b) ((k, end_of) ∷ []) in
        let creates : b.creates ≡ create_count (events_in after) =
        is.listed.creates
        ∙ sym (ap (λ (l : List Event). create_count l) (events_one (entries_of b) k end_of) ∙ creates_one (events_in (entries_of b)) end_of
        ∙ no_more (create_count (events_in (entries_of b)))) in
        let are : AreLines code after lines = subst (λ ls. AreLines code after ls) (sym lines_are) end_lines in
        book_went clock orders code limits b j v k end_of is end_drawn new refl clock_is refl number entries knows
        (omega (arith, few, more, below)) is.room are.all
        are.each (orders_end (entries_of b) k j.task.number j.place.at.number value b.writer.lists.english.order b.writer.lists.hebrew.order
        is.listed.orders) creates is.creates_few
        (end_carried new t tasks trace traces_are refl) (end_told new t some entries lines_are traces_are counts_are) refl

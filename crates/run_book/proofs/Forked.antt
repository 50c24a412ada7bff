-- A spawn or a create, from what the job's task wishes to the two jobs that go on.
use Rattle.std.proofs.Common.{◌≡◌, ℕ, zero, suc, ◌+◌, ◌<◌, ◌≤◌, true, false, cond, List, [], ◌∷◌, ◌++◌, length, inl, inr, refl, sym, ap, ◌∙◌, subst, arith}
use Rattle.std.proofs.lemmas.List.{length-append}
use Rattle.std.proofs.lemmas.List.Sums.{sum_by-append, sum_by-cons}
use Rattle.atomic_table.specs.Seated.{TableId}
use Rattle.fut_base.specs.declared.record.Entry.{Entry}
use Rattle.fut_base.specs.declared.record.Limits.{Limits}
use Rattle.fut_base.specs.declared.record.Value.{Value}
use Rattle.fut_base.specs.declared.event.Event.{Event}
use Rattle.fut_base.specs.declared.event.Action.{Action}
use Rattle.fut_base.specs.declared.event.Action.TheVariants.{Spawns, Creates}
use Rattle.fut_base.specs.Listed.{Listed}
use Rattle.fut_base.specs.Events.{structural}
use Rattle.fut_base.proofs.Members.{among_right}
use Rattle.fut_base.specs.Dag.{Among, ends}
use Rattle.fut_base.specs.Sound.{IsSound, MayFollow, next_task, next_strand, strands_by}
use Rattle.fut_syntax.specs.Trees as tree
use Rattle.task_machine.specs.State.{TaskState, start_state, wish_of, effect_of, Answers}
use Rattle.task_machine.specs.Runs.{StandsAt}
use Rattle.task_machine.specs.Machine.{strand_after, creates, create_count}
use Rattle.task_types.specs.Typed.{ArgsFit, ActionFits, any_future}
use Rattle.task_code.specs.Flat.{Compiled, IsCodeOf}
use Rattle.task_code.specs.Tasks.{TaskNow, IsTaskOf, ended_after}
use Rattle.strand_tree.specs.declared.strand.Strand.{Strand}
use Rattle.strand_tree.specs.Placing.{AreOrders, IsStrandOf}
use Rattle.reach_table.specs.Telling.{HasTable}
use Rattle.event_clock.specs.declared.view.View.{View}
use Rattle.event_clock.specs.declared.view.Carried.{Carried}
use Rattle.event_clock.specs.Views.{carries, numbers_of, number_of, own_list, drawn, after_note, only_task, without_task, IsAbove, MayAskFor}
use Rattle.event_clock.specs.Seated.{Ticking}
use Rattle.event_clock.proofs.Lists.{carries_among, carries_append}
use Rattle.run_counts.specs.Counted.{Counted, Handed}
use Rattle.run_counts.specs.Moves.{forked, turned}
use Rattle.run_place.specs.Placed.{Placed, book_of, events_in}
use Rattle.run_book.specs.Drawn.{drawn_of, past_in}
use Rattle.run_book.specs.Jobs.{Makes, JobNow, Stands, IsTaskIn}
use Rattle.run_book.specs.Tabling.{AreLines}
use Rattle.run_book.specs.Books.{BookNow, IsBook, IsTold, entries_of, waiting_at, waiting_in}
use Rattle.run_book.specs.Lines.{LineNow}
use Rattle.run_book.specs.Turns.{change_at, with_child}
use Rattle.run_book.specs.Steps.{IsSameTask, HasForked, begins}
use Rattle.run_book.proofs.Drawn.{events_one}
use Rattle.run_book.proofs.Knowing.{IsKnown}
use Rattle.run_book.proofs.Carrying.{carried_task, without_first, without_last, only_first, only_last}
use Rattle.run_book.proofs.Giving.{IsReady}
use Rattle.run_book.proofs.Handles.{IsNext, may_follow}
use Rattle.run_book.proofs.Feeding.{BeginsAt, task_fed, task_begun}
use Rattle.run_book.proofs.Going.{HasDrawn, MakesChild, low, early, drawn_known, drawn_own, drawn_number, sound_more, all_fit, tasks_forked, child_apart, same_carried, book_went}
use Rattle.run_book.proofs.Asking.{MakesNext, may_ask}
use Rattle.run_book.proofs.Stranding.{strand_add, table_add, few_tickets, room_after}
use Rattle.run_book.proofs.Lining.{EndsStay}

-- an action begins a child with the next numbers, which runs this task of the text with these arguments
pub record IsFork (past : List Event) (t : ℕ) (a : Action) (which child kid : ℕ) (args : List Value) : Type 0 where
  pub structural : structural a ≡ true
  pub goes : ends a ≡ false
  pub next : IsNext past t a
  pub asks : MakesNext past a
  pub makes : MakesChild child a
  pub kid_at : BeginsAt a child kid
  pub after : (s : ℕ) → strand_after a s ≡ kid + 1
  pub starts : Makes a child which args
  pub begun : begins a child
  pub child_is : child ≡ next_task past

pub spawn_forks : (past : List Event) (t which child kid cont : ℕ) (args : List Value) → child ≡ next_task past → kid ≡ next_strand past → cont ≡ kid + 1
    → IsFork past t (Spawns which child kid cont args) which child kid args
spawn_forks past t which child kid cont args child_is kid_is cont_is =
    record {
      structural = refl;
      goes = refl;
      next = (child_is, kid_is, cont_is);
      asks = child_is;
      makes = refl;
      kid_at = (refl, refl);
      after = λ s. cont_is;
      starts = (refl, refl, refl);
      begun = refl;
      child_is = child_is;
    }

pub create_forks : (past : List Event) (t which child kid cont : ℕ) (args : List Value) → child ≡ next_task past → kid ≡ next_strand past → cont ≡ kid + 1
    → IsFork past t (Creates which child kid cont args) which child kid args
create_forks past t which child kid cont args child_is kid_is cont_is =
    record {
      structural = refl;
      goes = refl;
      next = (child_is, kid_is, cont_is);
      asks = child_is;
      makes = refl;
      kid_at = (refl, refl);
      after = λ s. cont_is;
      starts = (refl, refl, refl);
      begun = refl;
      child_is = child_is;
    }

-- what a job's task makes of an action
abbrev pub event_by : JobNow → Action → Event
event_by j a = record { task = j.task.number; strand = j.place.at.number; action = a }

module _ (clock : Ticking) (orders : TableId) (code : Compiled) (limits : Limits) (b : BookNow) (j : JobNow) (v : View) (a : Action) (which child kid : ℕ)
    (args : List Value) (is : IsBook clock orders code limits b) (known : IsKnown code (entries_of b) j b.holder.view.tasks v)
    (fork : IsFork (past_in (entries_of b)) j.task.number a which child kid args) where
  -- the holder may ask for a ticket
  pub fork_asks : MayAskFor v (event_by j a)
  fork_asks =
      let mine = carried_task j.task.number (drawn_of j.task.trace.items) in
      let some : 0 < carries j.task.number (mine ∷ []) = carries_among mine (mine ∷ []) (inl refl) in
      let both = carries_append j.task.number b.holder.view.tasks (mine ∷ []) in
      let here : 0 < carries j.task.number (b.holder.view.tasks ++ mine ∷ []) = omega (arith, some, both) in
      may_ask v (event_by j a)
      (subst (λ l. IsSound (events_in l)) (sym known.entries) is.listed.sound)
      known.number
      (subst (λ cs. 0 < carries j.task.number cs) (sym known.tasks_are) here)
      (subst (λ l. MakesNext (past_in l) a) (sym known.entries) fork.asks)

  fork_follows : Stands code j.task (λ P w. Answers w a) → MayFollow (past_in (entries_of b)) (event_by j a)
  fork_follows answers =
      may_follow code (entries_of b) j.task j.place.at j.place.table j.pace (event_by j a) is.listed.sound known.task refl refl fork.structural fork.next answers

  -- what holds when it was drawn
  pub fork_drawn : (k : ℕ) → Stands code j.task (λ P w. Answers w a) → numbers_of v.own ≡ number_of v ∷ [] → k < limits.events → IsAbove k v
      → HasDrawn code limits b j v k (event_by j a)
  fork_drawn k answers one below above =
      record { known = known; one = one; below = below; above = above; own = (refl, refl); follows = fork_follows answers; answers = answers }

  module _ (k : ℕ) (d : HasDrawn code limits b j v k (event_by j a)) where
    -- the child can be given out
    pub child_ready : (task : TaskNow) (at : Strand) (table : List Strand) (pace : ℕ) → task.number ≡ child → task.which ≡ which
        → task.spot.ended ≡ false → task.trace.items ≡ [] → at.number ≡ kid
        → ((P : tree.Program) → IsCodeOf P code → ArgsFit any_future P which args → IsTaskOf P code args task (start_state P which args))
        → IsStrandOf (events_in (entries_of b ++ (k, event_by j a) ∷ [])) at → HasTable (events_in (entries_of b ++ (k, event_by j a) ∷ [])) at.number table
        → pace ≡ 1 → IsReady code (entries_of b ++ (k, event_by j a) ∷ []) task at table pace (drawn k (event_by j a) v)
    child_ready task at table pace number which_is runs empty at_is state strand has one =
        let e : Event = event_by j a in
        let rest : List Carried = b.holder.view.tasks ++ carried_task j.task.number (drawn_of j.task.trace.items ++ (k, e) ∷ []) ∷ [] in
        let none : carries child rest ≡ 0 = child_apart clock orders code limits b j v k e is d child fork.child_is in
        let alone : only_task child (drawn k e v).tasks ≡ carried_task child [] ∷ [] =
        ap (λ cs. only_task child cs) (tasks_forked clock orders code limits b j v k e is d child fork.makes) ∙ only_first child [] rest none in
        let mine : only_task task.number (drawn k e v).tasks ≡ carried_task task.number [] ∷ [] =
        subst (λ n. only_task n (drawn k e v).tasks ≡ carried_task n [] ∷ []) (sym number) alone in
        record {
          known = drawn_known clock orders code limits b j v k e is d;
          sound = sound_more clock orders code limits b j v k e is d;
          fits = all_fit clock orders code limits b j v k e is d;
          holds = task_begun code (entries_of b) j.task j.place.at j.place.table j.pace known.task is.listed.fits k e task at table pace args is.listed.sound d.follows refl
              d.answers (number ∙ fork.child_is)
              (subst (λ n. Makes a n task.which args) (sym number) (subst (λ w. Makes a child w args) (sym which_is) fork.starts))
              (subst (λ n. BeginsAt a n at.number) (sym number) (subst (λ s. BeginsAt a child s) (sym at_is) fork.kid_at)) runs empty
              (subst (λ w. (P : tree.Program) → IsCodeOf P code → ArgsFit any_future P w args → IsTaskOf P code args task (start_state P w args)) (sym which_is) state)
              strand has one;
          carried = subst (λ (l : List (ℕ × Entry)). only_task task.number (drawn k e v).tasks ≡ carried_task task.number (drawn_of l) ∷ []) (sym empty) mine;
        }

    -- what is left then
    pub child_gone : (task : TaskNow) → task.number ≡ child → (after_note task.number (drawn k (event_by j a) v)).tasks
        ≡ b.holder.view.tasks ++ carried_task j.task.number (drawn_of j.task.trace.items ++ (k, event_by j a) ∷ []) ∷ []
    child_gone task number =
        let e : Event = event_by j a in
        let rest : List Carried = b.holder.view.tasks ++ carried_task j.task.number (drawn_of j.task.trace.items ++ (k, e) ∷ []) ∷ [] in
        ap (λ n. without_task n (drawn k e v).tasks) number
        ∙ ap (λ cs. without_task child cs) (tasks_forked clock orders code limits b j v k e is d child fork.makes)
        ∙ without_first child [] rest (child_apart clock orders code limits b j v k e is d child fork.child_is)

    -- its parent can be given out
    pub parent_ready : (task : TaskNow) (at : Strand) (table : List Strand) (pace : ℕ) (w : View) → book_of w ≡ book_of (drawn k (event_by j a) v)
        → w.tasks ≡ b.holder.view.tasks ++ carried_task j.task.number (drawn_of j.task.trace.items ++ (k, event_by j a) ∷ []) ∷ []
        → task.number ≡ j.task.number → task.which ≡ j.task.which → task.spot.ended ≡ ended_after j.task.spot.ended a
        → drawn_of task.trace.items ≡ drawn_of j.task.trace.items ++ (k, event_by j a) ∷ []
        → ((P : tree.Program) (xs : List Value) (s t : TaskState) → IsCodeOf P code → IsTaskOf P code xs j.task s → StandsAt s t → Answers (wish_of P t) a
        → ActionFits any_future P j.task.which t a → IsTaskOf P code xs task (effect_of t a))
        → at.number ≡ kid + 1 → IsStrandOf (events_in (entries_of b ++ (k, event_by j a) ∷ [])) at
        → HasTable (events_in (entries_of b ++ (k, event_by j a) ∷ [])) at.number table → pace ≡ 1
        → IsReady code (entries_of b ++ (k, event_by j a) ∷ []) task at table pace w
    parent_ready task at table pace w known_is tasks_are number which_is ended trace feeds at_is strand has one =
        let e : Event = event_by j a in
        let now : List (ℕ × Event) = drawn_of j.task.trace.items ++ (k, e) ∷ [] in
        let alone : only_task j.task.number w.tasks ≡ carried_task j.task.number now ∷ [] =
        ap (λ cs. only_task j.task.number cs) tasks_are ∙ only_last j.task.number b.holder.view.tasks now known.apart in
        record {
          known = known_is ∙ drawn_known clock orders code limits b j v k e is d;
          sound = sound_more clock orders code limits b j v k e is d;
          fits = all_fit clock orders code limits b j v k e is d;
          holds = task_fed code (entries_of b) j.task j.place.at j.place.table j.pace known.task is.listed.fits k e task at table pace is.listed.sound d.follows
              (low clock orders code limits b j v k e is d) (early clock orders code limits b j v k e is d) refl fork.structural fork.goes d.answers
              number which_is ended trace feeds (at_is ∙ sym (fork.after j.place.at.number)) strand has one;
          carried = subst (λ n. only_task n w.tasks ≡ carried_task n (drawn_of task.trace.items) ∷ []) (sym number)
              (subst (λ l. only_task j.task.number w.tasks ≡ carried_task j.task.number l ∷ []) (sym trace) alone);
        }

    -- and then the holder carries what it carried
    pub parent_gone : (task : TaskNow) (w : View)
        → w.tasks ≡ b.holder.view.tasks ++ carried_task j.task.number (drawn_of j.task.trace.items ++ (k, event_by j a) ∷ []) ∷ []
        → task.number ≡ j.task.number → (after_note task.number w).tasks ≡ b.holder.view.tasks
    parent_gone task w tasks_are number =
        ap (λ n. without_task n w.tasks) number ∙ ap (λ cs. without_task j.task.number cs) tasks_are
        ∙ without_last j.task.number b.holder.view.tasks (drawn_of j.task.trace.items ++ (k, event_by j a) ∷ []) known.apart

-- ---- the book

-- how many creates there are, with one event more
pub creates_one : (events : List Event) (e : Event) → create_count (events ++ e ∷ []) ≡ create_count events + cond (creates e.action) 1 0
creates_one events e =
    let more = sum_by-append (λ (x : Event). cond (creates x.action) 1 0) events (e ∷ []) in
    let last = sum_by-cons (λ (x : Event). cond (creates x.action) 1 0) e [] in
    omega (arith, more, last)

-- what is counted after a fork
forked_told : (b b' : BookNow) (k : ℕ) (e : Event) → IsTold b → entries_of b' ≡ entries_of b ++ (k, e) ∷ [] → b'.counts ≡ forked b.counts
    → length b'.lines ≡ length b.lines + 1 → waiting_in b'.lines ≡ waiting_in b.lines → b'.traces ≡ b.traces → IsTold b'
forked_told b b' k e told entries counts size waits traces =
    let more = length-append (entries_of b) ((k, e) ∷ []) in
    let whole : length (entries_of b') ≡ length (entries_of b ++ (k, e) ∷ []) = ap (λ (l : List (ℕ × Event)). length l) entries in
    let events : b'.counts.events ≡ b.counts.events + 1 = ap (λ (c : Counted). c.events) counts in
    let running : b'.counts.running ≡ b.counts.running + 1 = ap (λ (c : Counted). c.running) counts in
    let waiting : b'.counts.waiting ≡ b.counts.waiting = ap (λ (c : Counted). c.waiting) counts in
    let over : length b'.traces ≡ length b.traces = ap (λ (ts : List (Listed (ℕ × Entry))). length ts) traces in
    let was = told.events in
    let all = told.running in
    record {
      events = omega (arith, events, was, whole, more);
      waiting = waiting ∙ told.waiting ∙ sym waits;
      running = omega (arith, running, waiting, over, size, all);
      rest = (ap (λ (c : Counted). c.rest.given) counts ∙ told.rest.0, ap (λ (c : Counted). c.rest.taken) counts ∙ told.rest.1);
    }

module _ (clock : Ticking) (orders : TableId) (code : Compiled) (limits : Limits) (b : BookNow) (j : JobNow) (v : View) (k : ℕ) (e : Event)
    (is : IsBook clock orders code limits b) (d : HasDrawn code limits b j v k e) where
  -- the ends of tasks by the entries of the book are ends by the longer list
  pub ends_stay : EndsStay (entries_of b) (entries_of b ++ (k, e) ∷ [])
  ends_stay last strand table =
      let sound = sound_more clock orders code limits b j v k e is d in
      (strand_add (entries_of b) k e last.at sound strand, table_add (entries_of b) k e last.at last.table sound strand table)

  pub forked_book : (b' : BookNow) (t c : ℕ) → b'.limits ≡ b.limits → b'.holder.clock ≡ b.holder.clock → b'.writer.home ≡ b.writer.home
      → b'.holder.view ≡ after_note t (after_note c (drawn k e v)) → b'.holder.view.tasks ≡ b.holder.view.tasks
      → AreOrders (events_in (entries_of b ++ (k, e) ∷ [])) b'.writer.lists.english.order b'.writer.lists.hebrew.order
      → b'.writer.lists.english.room + strands_by e.action ≡ b.writer.lists.english.room
      → length b'.lines ≡ length b.lines + 1 → AreLines code (entries_of b ++ (k, e) ∷ []) b'.lines
      → waiting_in b'.lines ≡ waiting_in b.lines → b'.creates ≡ b.creates + cond (creates e.action) 1 0
      → b.creates + cond (creates e.action) 1 0 ≤ limits.futures
      → b'.traces ≡ b.traces → b'.first ≡ b.first → b'.counts ≡ forked b.counts → IsBook clock orders code limits b'
  forked_book b' t c limits_are clock_is home view tasks orders_are room size lines waits creates_are creates_few traces first counts =
      let entries : entries_of b' ≡ entries_of b ++ (k, e) ∷ [] = ap (λ (w : View). own_list w) view ∙ drawn_own clock orders code limits b j v k e is d in
      let few = few_tickets (entries_of b) k is.listed.rises (low clock orders code limits b j v k e is d) in
      let more = length-append (entries_of b) ((k, e) ∷ []) in
      let below = d.below in
      book_went clock orders code limits b j v k e is d b' limits_are clock_is home
      (ap (λ (w : View). number_of w) view ∙ drawn_number clock orders code limits b j v k e is d) entries
      (ap (λ (w : View). book_of w) view ∙ drawn_known clock orders code limits b j v k e is d)
      (omega (arith, few, more, below))
      (room_after (entries_of b) k e b.writer.lists.english.order b.writer.lists.hebrew.order b'.writer.lists.english.order b'.writer.lists.hebrew.order
      b.writer.lists.english.room b'.writer.lists.english.room limits.events (sound_more clock orders code limits b j v k e is d) is.listed.orders orders_are room is.room)
      lines.all lines.each orders_are
      (creates_are ∙ ap (λ n. n + cond (creates e.action) 1 0) is.listed.creates ∙ sym (creates_one (events_in (entries_of b)) e)
      ∙ ap (λ l. create_count l) (sym (events_one (entries_of b) k e)))
      (subst (λ n. n ≤ limits.futures) (sym creates_are) creates_few)
      (same_carried clock orders code limits b j v k e is d b' tasks traces first) (forked_told b b' k e is.counted entries counts size waits traces) first

-- a child waits for nothing, and its parent goes on
pub child_waiting : (child : ℕ) (lines : List LineNow) (t : ℕ) → waiting_in (change_at t (with_child child) lines) ≡ waiting_in lines
child_waiting child [] t = refl
child_waiting child (l ∷ ls) zero = refl
child_waiting child (l ∷ ls) (suc t) = ap (λ n. length (waiting_at l) + n) (child_waiting child ls t)

-- ---- what the call answers

pub has_forked : (code : Compiled) (limits : Limits) (was b b' : BookNow) (first j : JobNow) (v : View) (k : ℕ) (a : Action) (which child kid : ℕ) (args : List Value)
    (hand_old hand_new : Handed) (one two : JobNow) (jobs : List JobNow) → HasDrawn code limits b j v k (event_by j a)
    → IsFork (past_in (entries_of b)) j.task.number a which child kid args → IsSameTask first.task j.task → j.place ≡ first.place
    → Stands code first.task (λ P w. Answers w a) → entries_of b' ≡ entries_of b ++ (k, event_by j a) ∷ [] → jobs ≡ one ∷ two ∷ []
    → one.task.number ≡ child → one.task.trace.items ≡ [] → two.task.number ≡ j.task.number → two.task.which ≡ j.task.which
    → drawn_of two.task.trace.items ≡ drawn_of j.task.trace.items ++ (k, event_by j a) ∷ [] → (one.pace ≡ 1) × (two.pace ≡ 1) → hand_new ≡ turned 2 hand_old
    → b'.counts ≡ forked was.counts → entries_of was ≡ entries_of b → HasForked code limits.events was b' hand_old hand_new first jobs
has_forked code limits was b b' first j v k a which child kid args hand_old hand_new one two jobs d fork same place answers kept both number empty fed_number fed_which trace paces hand counts entries =
    let e : Event = event_by j a in
    let drew : drawn_of j.task.trace.items ≡ drawn_of first.task.trace.items = ap (λ (l : List (ℕ × Entry)). drawn_of l) same.trace in
    let mine : carried_task j.task.number (drawn_of j.task.trace.items) ≡ carried_task first.task.number (drawn_of first.task.trace.items) =
    ap (λ n. carried_task n (drawn_of j.task.trace.items)) same.number ∙ ap (λ l. carried_task first.task.number l) drew in
    let there : Among (carried_task first.task.number (drawn_of first.task.trace.items)) v.tasks =
    subst (λ cs. Among (carried_task first.task.number (drawn_of first.task.trace.items)) cs) (sym d.known.tasks_are)
    (among_right (carried_task first.task.number (drawn_of first.task.trace.items)) b.holder.view.tasks (carried_task j.task.number (drawn_of j.task.trace.items) ∷ [])
    (inl mine)) in
    record {
      event = e;
      made = record {
        ticket = k;
        below = d.below;
        later = λ x a. elim a [
          | inl known ↦ d.above.known 0 x (subst (Among x) (sym (d.known.known ∙ sym entries)) known)
          | inr own ↦ d.above.traces (carried_task first.task.number (drawn_of first.task.trace.items)) x there own
        ];
        kept = kept ∙ ap (λ l. l ++ (k, e) ∷ []) (sym entries);
        own = (same.number, ap (λ (p : Placed). p.at.number) place);
        follows = subst (λ l. MayFollow (past_in l) e) (sym entries) d.follows;
        answers = answers;
        parts = ap (λ (c : Counted). c.rest.parts) counts;
      };
      child = one;
      parent = two;
      both = both;
      begun = (subst (λ n. begins a n) (sym number) fork.begun, empty);
      fed = record { number = fed_number ∙ same.number; which = fed_which ∙ same.which; trace = trace ∙ ap (λ (l : List (ℕ × Event)). l ++ (k, e) ∷ []) drew };
      paces = paces;
      hand = hand;
    }

-- What stays of the book after an entry was drawn.
use Rattle.std.proofs.Common.{◌≡◌, ◌≢◌, ℕ, ◌+◌, ◌*◌, ◌^◌, ◌<◌, ◌≤◌, ◌==◌, if◌then◌else◌, List, [], ◌∷◌, ◌++◌, length, inl, inr, ◌⊎◌, refl, sym, ap, ◌∙◌, subst, arith}
use Rattle.std.specs.Prelude.{◌↔◌, Option, Some, None, slice_get}
use Rattle.atomic_table.specs.Seated.{TableId}
use Rattle.fut_base.proofs.Cases.{by_eq}
use Rattle.fut_base.proofs.Members.{among_left, among_right, among_split}
use Rattle.std.proofs.lemmas.Bool.{cases_lt}
use Rattle.fut_base.specs.declared.record.Entry.{Entry}
use Rattle.fut_base.specs.declared.record.Limits.{Limits}
use Rattle.fut_base.specs.declared.event.Event.{Event}
use Rattle.fut_base.specs.declared.event.Action.{Action}
use Rattle.fut_base.specs.declared.event.Action.TheVariants.{Reads, Writes, Spawns, Creates, Syncs, Gets, Ends}
use Rattle.fut_base.specs.Listed.{Listed}
use Rattle.fut_base.specs.Dag.{Among, last_of}
use Rattle.fut_base.specs.Sound.{IsSound, IsSoundPast, MayFollow, current, next_task}
use Rattle.fut_syntax.specs.Trees as tree
use Rattle.fut_check.specs.Items.{IsWellTyped}
use Rattle.task_machine.specs.State.{Answers}
use Rattle.task_machine.specs.Machine.{create_count}
use Rattle.task_code.specs.Flat.{Compiled, IsCodeOf}
use Rattle.strand_tree.specs.Placing.{AreOrders}
use Rattle.event_clock.specs.declared.view.View.{View}
use Rattle.event_clock.specs.declared.view.Carried.{Carried}
use Rattle.event_clock.specs.declared.view.Own.{Own}
use Rattle.event_clock.specs.Views.{carries, numbers_of, first_number, first_entries, add_own, add_at, number_of, own_list, list_at, drawn, with_child, with_entry, IsAbove}
use Rattle.event_clock.specs.Rule.{Rises}
use Rattle.event_clock.specs.Seated.{Ticking}
use Rattle.event_clock.proofs.Lists.{add_here, carries_among}
use Rattle.strand_laws.proofs.Links.{linked, shown}
use Rattle.strand_laws.proofs.Frames.{frame}
use Rattle.run_place.specs.Placed.{book_of, events_in}
use Rattle.run_book.specs.Drawn.{drawn_of, past_in}
use Rattle.run_book.specs.Jobs.{JobNow, FitsProgram, StartsAs, Stands}
use Rattle.run_book.specs.Lines.{LineNow, IsLineOf}
use Rattle.run_book.specs.Books.{BookNow, IsBook, IsTold, IsEndedTrace, entries_of, traces_of, task_of, carried_by}
use Rattle.run_book.proofs.Rooting.{none≢some}
use Rattle.run_book.proofs.Tickets.{among_map, map_among, rises_one}
use Rattle.run_book.proofs.Drawn.{events_one, past_one}
use Rattle.run_book.proofs.Knowing.{IsKnown, starts_more}
use Rattle.run_book.proofs.Later.{last_later}
use Rattle.run_book.proofs.Carrying.{carried_task, entry_last}
use Rattle.run_book.proofs.Feeding.{fits_more, traced_other}

-- a ticket was drawn for an event of a job's task, which the book's holder has: what was known before
pub record HasDrawn (code : Compiled) (limits : Limits) (b : BookNow) (j : JobNow) (v : View) (k : ℕ) (e : Event) : Type 0 where
  pub known : IsKnown code (entries_of b) j b.holder.view.tasks v
  pub one : numbers_of v.own ≡ number_of v ∷ []
  pub below : k < limits.events
  pub above : IsAbove k v
  pub own : (e.task ≡ j.task.number) × (e.strand ≡ j.place.at.number)
  pub follows : MayFollow (past_in (entries_of b)) e
  pub answers : Stands code j.task (λ P w. Answers w e.action)

own_more : (os : List Own) (x : ℕ × Event) (h : ℕ) → numbers_of os ≡ h ∷ [] → first_entries (add_own x os) ≡ first_entries os ++ x ∷ []
own_more [] x h one = absurd (cc)
own_more (p ∷ ps) x h one = refl

same_number : (os : List Own) (x : ℕ × Event) → first_number (add_own x os) ≡ first_number os
same_number [] x = refl
same_number (p ∷ ps) x = refl

-- an action makes no child
abbrev pub MakesNone : Action → Type 0
MakesNone (Spawns _ _ _ _ _) = ⊥
MakesNone (Creates _ _ _ _ _) = ⊥
MakesNone _ = Unit {0}

child_none : (a : Action) (cs : List Carried) → MakesNone a → with_child a cs ≡ cs
child_none (Reads _ _) cs none = refl
child_none (Writes _ _) cs none = refl
child_none (Spawns _ _ _ _ _) cs none = absurd none
child_none (Creates _ _ _ _ _) cs none = absurd none
child_none (Syncs _) cs none = refl
child_none (Gets _ _ _) cs none = refl
child_none (Ends _) cs none = refl

-- an action makes this child
abbrev pub MakesChild : ℕ → Action → Type 0
MakesChild c (Spawns _ child _ _ _) = child ≡ c
MakesChild c (Creates _ child _ _ _) = child ≡ c
MakesChild c _ = ⊥

child_first : (c : ℕ) (a : Action) (cs : List Carried) → MakesChild c a → with_child a cs ≡ carried_task c [] ∷ cs
child_first c (Reads _ _) cs makes = absurd makes
child_first c (Writes _ _) cs makes = absurd makes
child_first c (Spawns _ child _ _ _) cs makes = ap (λ t. carried_task t [] ∷ cs) makes
child_first c (Creates _ child _ _ _) cs makes = ap (λ t. carried_task t [] ∷ cs) makes
child_first c (Syncs _) cs makes = absurd makes
child_first c (Gets _ _ _) cs makes = absurd makes
child_first c (Ends _) cs makes = absurd makes

-- what is carried of tasks that have ended
carried_ended : (first : Option ℕ) (traces : List (List (ℕ × Event))) (trace : List (ℕ × Event)) → (first ≡ None) → Among trace traces
    → Among (carried_task (task_of trace) trace) (carried_by first traces)
carried_ended None traces trace none a = among_map (λ (t : List (ℕ × Event)). carried_task (task_of t) t) trace traces a
carried_ended (Some pace) traces trace none a = absurd (none≢some (sym none))

-- a task that has ended was there
ended_below : (past : List Event) → IsSoundPast past → (t s : ℕ) → last_of past t ≡ Some s → t < next_task past
ended_below past sound t s h =
    let l = linked past sound in
    elim (cases_lt t (next_task past)) [
      | inl lt ↦ lt
      | inr ge ↦ absurd (none≢some (sym (ap (λ b. shown b (frame past t).cur) (l.unborn t ge).1) ∙ sym (l.last t) ∙ h))
    ]

carries_none : (c : ℕ) (cs : List Carried) → ((x : Carried) → Among x cs → x.task ≢ c) → carries c cs ≡ 0
carries_none c [] none = refl
carries_none c (x ∷ cs) none =
    by_eq (λ b. (if b then 1 else 0) + carries c cs ≡ 0) x.task c (λ same. absurd (none x (inl refl) same)) (λ _. (let rest = carries_none c cs (λ y a. none y (inr a)) in omega (arith, rest)))

module _ (clock : Ticking) (orders : TableId) (code : Compiled) (limits : Limits) (b : BookNow) (j : JobNow) (v : View) (k : ℕ) (e : Event)
    (is : IsBook clock orders code limits b) (d : HasDrawn code limits b j v k e) where
  -- the ticket is above those of the book, and of the task
  pub low : (x : ℕ × Event) → Among x (entries_of b) → x.0 < k
  low x a = d.above.known 0 x (subst (Among x) (sym d.known.known) a)

  pub early : (x : ℕ × Event) → Among x (drawn_of j.task.trace.items) → x.0 < k
  early x a =
      let mine = carried_task j.task.number (drawn_of j.task.trace.items) in
      d.above.traces mine x (subst (Among mine) (sym d.known.tasks_are) (among_right mine b.holder.view.tasks (mine ∷ []) (inl refl))) a

  -- the holder has the entry
  pub drawn_known : book_of (drawn k e v) ≡ entries_of b ++ (k, e) ∷ []
  drawn_known =
      ap (λ n. list_at (add_at n (k, e) v.known) 0) d.known.number ∙ add_here 0 (k, e) v.known ∙ ap (λ l. l ++ (k, e) ∷ []) d.known.known

  pub drawn_own : own_list (drawn k e v) ≡ entries_of b ++ (k, e) ∷ []
  drawn_own = own_more v.own (k, e) (number_of v) d.one ∙ ap (λ l. l ++ (k, e) ∷ []) d.known.entries

  pub drawn_number : number_of (drawn k e v) ≡ 0
  drawn_number = same_number v.own (k, e) ∙ d.known.number

  pub sound_more : IsSound (events_in (entries_of b ++ (k, e) ∷ []))
  sound_more = subst IsSoundPast (sym (past_one (entries_of b) k e)) (is.listed.sound, d.follows)

  pub rises_more : Rises (entries_of b ++ (k, e) ∷ [])
  rises_more = rises_one (entries_of b) (k, e) is.listed.rises low

  pub all_fit : (P : tree.Program) → IsWellTyped P → IsCodeOf P code → FitsProgram P (events_in (entries_of b ++ (k, e) ∷ []))
  all_fit =
      fits_more code (entries_of b) j.task j.place.at j.place.table j.pace d.known.task is.listed.fits k e is.listed.sound d.follows d.own.0 d.answers

  -- ---- what the holder carries

  abbrev mine : Carried
  mine = carried_task j.task.number (drawn_of j.task.trace.items ++ (k, e) ∷ [])

  entry_tasks : with_entry (k, e) v.tasks ≡ b.holder.view.tasks ++ mine ∷ []
  entry_tasks =
      ap (λ cs. with_entry (k, e) cs) d.known.tasks_are
      ∙ entry_last (k, e) b.holder.view.tasks j.task.number (drawn_of j.task.trace.items) d.own.0 d.known.apart

  -- by an entry that makes no child
  pub tasks_own : MakesNone e.action
      → (drawn k e v).tasks ≡ b.holder.view.tasks ++ carried_task j.task.number (drawn_of j.task.trace.items ++ (k, e) ∷ []) ∷ []
  tasks_own none = child_none e.action (with_entry (k, e) v.tasks) none ∙ entry_tasks

  -- by one that makes a child
  pub tasks_forked : (c : ℕ) → MakesChild c e.action
      → (drawn k e v).tasks ≡ carried_task c [] ∷ (b.holder.view.tasks ++ carried_task j.task.number (drawn_of j.task.trace.items ++ (k, e) ∷ []) ∷ [])
  tasks_forked c makes = child_first c e.action (with_entry (k, e) v.tasks) makes ∙ ap (λ (cs : List Carried). carried_task c [] ∷ cs) entry_tasks

  -- ---- the tasks that have ended

  pub ended_more : (trace : List (ℕ × Event)) → Among trace (traces_of b) → IsEndedTrace code (entries_of b ++ (k, e) ∷ []) trace
  ended_more trace a =
      let old = is.ended trace a in
      let t : ℕ = task_of trace in
      let ne : e.task ≢ t = λ same. none≢some (sym d.follows.running ∙ ap (λ n. last_of (past_in (entries_of b)) n) same ∙ old.ended.1) in
      let stays : last_of (e ∷ past_in (entries_of b)) t ≡ Some old.ended.0 =
      last_later (e ∷ []) (past_in (entries_of b)) t (λ x y. elim y [ inl same ↦ subst (λ (z : Event). z.task ≢ t) same ne | inr none ↦ absurd none ]) ∙ old.ended.1 in
      let there : Among (carried_task t trace) v.tasks =
      subst (Among (carried_task t trace)) (sym d.known.tasks_are)
      (among_left (carried_task t trace) b.holder.view.tasks (carried_task j.task.number (drawn_of j.task.trace.items) ∷ [])
      (subst (λ cs. Among (carried_task t trace) cs) (sym is.carried) (given b.first refl))) in
      record {
        ended = (old.ended.0, ap (λ l. last_of l t) (past_one (entries_of b) k e) ∙ stays);
        led = λ P typed of. (let (which, args, s, starts, leads) = old.led P typed of in (
          which,
          args,
          s,
          subst (λ l. StartsAs P l t which args) (sym (events_one (entries_of b) k e)) (starts_more P (events_in (entries_of b)) (e ∷ []) t which args starts),
          leads,
        ));
        trace_is = traced_other (entries_of b) t trace k e old.trace_is ne (λ x y. d.above.traces (carried_task t trace) x there y);
        some = old.some;
      }
    where
      given : (o : Option ℕ) → b.first ≡ o → Among (carried_task (task_of trace) trace) (carried_by b.first (traces_of b))
      given None first = carried_ended b.first (traces_of b) trace first a
      given (Some pace) first = absurd (
          let none : b.traces ≡ [] = (is.is_new pace first).2 in
          subst (λ (ts : List (Listed (ℕ × Entry))). Among trace (traces_of (record b { traces = ts }))) none a)

  -- the root task was given out
  pub first_none : b.first ≡ None
  first_none = go b.first refl
    where
      root_at : (t s : ℕ) → current [] t ≡ Some s → t ≡ 0
      root_at t s = by_eq (λ z. (if z then Some 0 else None) ≡ Some s → t ≡ 0) t 0 (λ same h. same) (λ ne h. absurd (none≢some h))

      go : (o : Option ℕ) → b.first ≡ o → b.first ≡ None
      go None first = first
      go (Some pace) first = absurd (
          let none : entries_of b ≡ [] = (is.is_new pace first).0 in
          let t : ℕ = j.task.number in
          let zero : t ≡ 0 = root_at t j.place.at.number (subst (λ l. current (past_in l) t ≡ Some j.place.at.number) none d.known.task.strand) in
          let root : Carried = carried_task 0 [] in
          let there : Among root b.holder.view.tasks =
          subst (λ cs. Among root cs) (sym is.carried) (subst (λ f. Among root (carried_by f (traces_of b))) (sym first) (inl refl)) in
          let some : 0 < carries 0 b.holder.view.tasks = carries_among root b.holder.view.tasks there in
          let no : carries 0 b.holder.view.tasks ≡ 0 = subst (λ n. carries n b.holder.view.tasks ≡ 0) zero d.known.apart in
          omega (arith, some, no))

  -- what the holder carries was there before the entry
  carried_below : (c : Carried) → Among c b.holder.view.tasks → c.task < next_task (past_in (entries_of b))
  carried_below c a =
      let past : List Event = past_in (entries_of b) in
      let there : Among c (carried_by None (traces_of b)) = subst (λ f. Among c (carried_by f (traces_of b))) first_none (subst (λ cs. Among c cs) is.carried a) in
      let t = map_among (λ (trace : List (ℕ × Event)). carried_task (task_of trace) trace) c (traces_of b) there in
      let old = is.ended t.0 t.1 in
      subst (λ (x : Carried). x.task < next_task past) t.2 (ended_below past is.listed.sound (task_of t.0) old.ended.0 old.ended.1)

  -- so a task that begins is not carried
  pub child_apart : (c : ℕ) → c ≡ next_task (past_in (entries_of b))
      → carries c (b.holder.view.tasks ++ carried_task j.task.number (drawn_of j.task.trace.items ++ (k, e) ∷ []) ∷ []) ≡ 0
  child_apart c next =
      let here = ((linked (past_in (entries_of b)) is.listed.sound).cur j.task.number j.place.at.number d.known.task.strand).0 in
      carries_none c (b.holder.view.tasks ++ mine ∷ [])
      (λ x a same. elim (among_split x b.holder.view.tasks (mine ∷ []) a) [
        | inl old ↦ (let l = carried_below x old in omega (arith, l, next, same))
        | inr new ↦ elim new [
          | inl own ↦ (let t : j.task.number ≡ x.task = ap (λ (y : Carried). y.task) own in omega (arith, here, next, same, t))
          | inr none ↦ absurd none
        ]
      ])

  -- ---- the book after the entry

  -- where the holder carries what it carried, and the traces are those that were there
  pub same_carried : (b' : BookNow) → b'.holder.view.tasks ≡ b.holder.view.tasks → b'.traces ≡ b.traces → b'.first ≡ b.first
      → (b'.holder.view.tasks ≡ carried_by b'.first (traces_of b')) × ((t : ℕ) → carries t b'.holder.view.tasks ≤ 1)
      × ((trace : List (ℕ × Event)) → Among trace (traces_of b') → IsEndedTrace code (entries_of b ++ (k, e) ∷ []) trace)
  same_carried b' tasks traces first = (
    tasks ∙ is.carried ∙ ap (λ ts. carried_by b.first (traces_of (record b { traces = ts }))) (sym traces) ∙ ap (λ f. carried_by f (traces_of b')) (sym first),
    λ t. subst (λ cs. carries t cs ≤ 1) (sym tasks) (is.once t),
    λ trace a. ended_more trace (subst (λ (ts : List (Listed (ℕ × Entry))). Among trace (traces_of (record b { traces = ts }))) traces a),
  )

  pub book_went : (b' : BookNow) → b'.limits ≡ b.limits → b'.holder.clock ≡ b.holder.clock → b'.writer.home ≡ b.writer.home
      → number_of b'.holder.view ≡ 0 → entries_of b' ≡ entries_of b ++ (k, e) ∷ [] → book_of b'.holder.view ≡ entries_of b ++ (k, e) ∷ []
      → length (entries_of b ++ (k, e) ∷ []) ≤ limits.events
      → 2 * limits.events + 1 ≤ length b'.writer.lists.english.order + b'.writer.lists.english.room
      → length b'.lines ≡ next_task (past_in (entries_of b ++ (k, e) ∷ []))
      → ((t : ℕ) (l : LineNow) → slice_get b'.lines t ≡ Some l → IsLineOf code (entries_of b ++ (k, e) ∷ []) t l)
      → AreOrders (events_in (entries_of b ++ (k, e) ∷ [])) b'.writer.lists.english.order b'.writer.lists.hebrew.order
      → b'.creates ≡ create_count (events_in (entries_of b ++ (k, e) ∷ [])) → b'.creates ≤ limits.futures
      → (b'.holder.view.tasks ≡ carried_by b'.first (traces_of b')) × ((t : ℕ) → carries t b'.holder.view.tasks ≤ 1)
      × ((trace : List (ℕ × Event)) → Among trace (traces_of b') → IsEndedTrace code (entries_of b ++ (k, e) ∷ []) trace)
      → IsTold b' → b'.first ≡ b.first → IsBook clock orders code limits b'
  book_went b' limits_are clock_is home number entries known within room tasks lines orders_are creates few carried told first =
      record {
        home = (clock_is ∙ is.home.0, home ∙ is.home.1);
        first_holder = number;
        limits_are = (limits_are ∙ is.limits_are.0, is.limits_are.1);
        within = subst (λ (l : List (ℕ × Event)). length l ≤ limits.events) (sym entries) within;
        small = is.small;
        creates_few = few;
        room = room;
        listed = record {
          sound = subst (λ l. IsSound (events_in l)) (sym entries) sound_more;
          fits = subst (λ l. (P : tree.Program) → IsWellTyped P → IsCodeOf P code → FitsProgram P (events_in l)) (sym entries) all_fit;
          known = known ∙ sym entries;
          rises = subst Rises (sym entries) rises_more;
          tasks = tasks ∙ ap (λ l. next_task (past_in l)) (sym entries);
          lines = subst (λ l. (t : ℕ) (x : LineNow) → slice_get b'.lines t ≡ Some x → IsLineOf code l t x) (sym entries) lines;
          orders = subst (λ l. AreOrders (events_in l) b'.writer.lists.english.order b'.writer.lists.hebrew.order) (sym entries) orders_are;
          creates = creates ∙ ap (λ l. create_count (events_in l)) (sym entries);
        };
        carried = carried.0;
        once = carried.1;
        ended = subst (λ l. (trace : List (ℕ × Event)) → Among trace (traces_of b') → IsEndedTrace code l trace) (sym entries) carried.2;
        counted = told;
        is_new = λ pace f. absurd (none≢some (sym first_none ∙ sym first ∙ f));
      }

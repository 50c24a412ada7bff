-- A task goes on after a get.
use Rattle.std.proofs.Common.{◌≡◌, ℕ, ◌+◌, ◌*◌, ◌<◌, ◌≤◌, List, [], ◌∷◌, ◌++◌, length, refl, sym, ap, ◌∙◌, subst, arith}
use Rattle.std.specs.Prelude.{Option, Some, None, slice_get}
use Rattle.std.proofs.lemmas.List.{length-append}
use Rattle.atomic_table.specs.Seated.{TableId}
use Rattle.fut_base.specs.declared.record.Limits.{Limits}
use Rattle.fut_base.specs.declared.record.Entry.{Entry}
use Rattle.fut_base.specs.declared.record.Value.{Value}
use Rattle.fut_base.specs.declared.event.Event.{Event}
use Rattle.fut_base.specs.declared.event.Action.TheVariants.{Gets}
use Rattle.fut_base.specs.Dag.{Among}
use Rattle.fut_base.specs.Sound.{IsSound, MayFollow, next_task, value_of}
use Rattle.strand_laws.proofs.Held.{is_root}
use Rattle.task_machine.specs.Machine.{create_count}
use Rattle.task_machine.specs.State.{TaskState, ToGet, Answers, effect_of, wish_of}
use Rattle.task_machine.specs.Runs.{StandsAt}
use Rattle.task_types.specs.Typed.{ActionFits, any_future}
use Rattle.fut_syntax.specs.Trees as tree
use Rattle.task_code.specs.Flat.{Compiled, IsCodeOf}
use Rattle.task_code.specs.Tasks.{TaskNow, IsTaskOf, ended_after}
use Rattle.event_clock.specs.declared.view.View.{View}
use Rattle.event_clock.specs.Views.{numbers_of, number_of, own_list, drawn, after_note, without_task, only_task, IsAbove}
use Rattle.event_clock.specs.Seated.{Ticking, Seated}
use Rattle.order_query.specs.Reading.{Writing}
use Rattle.strand_tree.specs.declared.strand.Strand.{Strand}
use Rattle.strand_tree.specs.Placing.{AreOrders, IsStrandOf}
use Rattle.reach_table.specs.Telling.{HasTable}
use Rattle.run_counts.specs.Counted.{Counted}
use Rattle.run_counts.specs.Moves.{gone_on}
use Rattle.run_place.specs.Placed.{book_of, events_in}
use Rattle.run_book.specs.Drawn.{drawn_of, past_in}
use Rattle.run_book.specs.Jobs.{JobNow, Stands, IsTaskIn}
use Rattle.run_book.specs.Lines.{LineNow, Ended}
use Rattle.run_book.specs.Tabling.{AreLines, StandsBy}
use Rattle.run_book.specs.Books.{BookNow, IsBook, IsTold, entries_of, waiting_in}
use Rattle.run_book.proofs.Drawn.{events_one}
use Rattle.run_book.proofs.Knowing.{IsKnown}
use Rattle.run_book.proofs.Handles.{may_follow, get_held}
use Rattle.run_book.proofs.Carrying.{carried_task, without_last, only_last}
use Rattle.run_book.proofs.Feeding.{task_fed}
use Rattle.run_book.proofs.Stranding.{event_at, past_add, strand_add, table_add, has_strands, few_tickets}
use Rattle.run_book.proofs.AllLines.{lines_got}
use Rattle.run_book.proofs.Going.{HasDrawn, low, early, sound_more, all_fit, drawn_known, drawn_own, drawn_number, tasks_own, same_carried, book_went}
use Rattle.run_book.proofs.Forked.{creates_one}
use Rattle.run_book.proofs.Giving.{IsReady}

-- the lines of a book are those of its entries
pub lines_of : (clock : Ticking) (orders : TableId) (code : Compiled) (limits : Limits) (b : BookNow) → IsBook clock orders code limits b
    → AreLines code (entries_of b) b.lines
lines_of clock orders code limits b is = record { all = is.listed.tasks; each = is.listed.lines }

-- a job that is held stands by the book
pub stands_by : (clock : Ticking) (orders : TableId) (code : Compiled) (limits : Limits) (b : BookNow) (j : JobNow) (v : View)
    → IsBook clock orders code limits b → IsKnown code (entries_of b) j b.holder.view.tasks v
    → StandsBy code (entries_of b) b.lines b.writer.lists j.place.at j.place.at.future j.place.table
stands_by clock orders code limits b j v is known =
    record {
      sound = is.listed.sound;
      lines_are = lines_of clock orders code limits b is;
      orders = is.listed.orders;
      strand = known.task.placed.0;
      own_is = refl;
      has = known.task.placed.1;
    }

-- the future that a task wishes to get has a line
pub future_line : (clock : Ticking) (orders : TableId) (code : Compiled) (limits : Limits) (b : BookNow) (j : JobNow) (v : View) (future : ℕ)
    → IsBook clock orders code limits b → IsKnown code (entries_of b) j b.holder.view.tasks v → Stands code j.task (λ P w. w ≡ ToGet future)
    → future < length b.lines
future_line clock orders code limits b j v future is known stands =
    let held = get_held code (entries_of b) j.task j.place.at j.place.table j.pace future is.listed.sound known.task stands in
    let root = is_root (past_in (entries_of b)) is.listed.sound j.task.number future held in
    let low = root.1 in
    let size = is.listed.tasks in
    omega (arith, low, size)

module _ (clock : Ticking) (orders : TableId) (code : Compiled) (limits : Limits) (b : BookNow) (j : JobNow) (v : View) (k x future : ℕ) (value : Value)
    (l : LineNow)
    (is : IsBook clock orders code limits b) (known : IsKnown code (entries_of b) j b.holder.view.tasks v) (one : numbers_of v.own ≡ number_of v ∷ [])
    (there : slice_get b.lines future ≡ Some l) (has : l.value ≡ Some value) (stands : Stands code j.task (λ P w. w ≡ ToGet future))
    (next : x ≡ length b.writer.lists.english.order) where
  abbrev get_of : Event
  get_of = event_at j.task.number j.place.at.number (Gets future value x)

  pub value_is : value_of (past_in (entries_of b)) future ≡ Some value
  value_is = sym (is.listed.lines future l there).value ∙ has

  pub get_follows : MayFollow (past_in (entries_of b)) (event_at j.task.number j.place.at.number (Gets future value x))
  get_follows =
      let strands = has_strands (entries_of b) b.writer.lists.english.order b.writer.lists.hebrew.order is.listed.sound is.listed.orders in
      may_follow code (entries_of b) j.task j.place.at j.place.table j.pace get_of is.listed.sound known.task refl refl refl
      (next ∙ strands.first, value_is) stands

  module _ (below : k < limits.events) (above : IsAbove k v) where
    pub get_drawn : HasDrawn code limits b j v k (event_at j.task.number j.place.at.number (Gets future value x))
    get_drawn = record { known = known; one = one; below = below; above = above; own = (refl, refl); follows = get_follows; answers = stands }

    abbrev after : List (ℕ × Event)
    after = entries_of b ++ (k, event_at j.task.number j.place.at.number (Gets future value x)) ∷ []

    pub get_sound : IsSound (events_in (entries_of b ++ (k, event_at j.task.number j.place.at.number (Gets future value x)) ∷ []))
    get_sound = sound_more clock orders code limits b j v k get_of is get_drawn

    get_lines : AreLines code after b.lines
    get_lines =
        lines_got code (entries_of b) k get_of is.listed.sound get_follows
        (λ last strand table. (
          strand_add (entries_of b) k get_of last.at get_sound strand,
          table_add (entries_of b) k get_of last.at last.table get_sound
              strand table,
        ))
        b.lines (lines_of clock orders code limits b is) future x value refl

    get_told : (b' : BookNow) → entries_of b' ≡ after → b'.lines ≡ b.lines → b'.traces ≡ b.traces → b'.counts ≡ gone_on b.counts → IsTold b'
    get_told b' entries lines traces counts =
        let told = is.counted in
        let events = told.events in
        let longer = ap length entries ∙ length-append (entries_of b) ((k, get_of) ∷ []) in
        let running = told.running in
        let size = ap (λ (ls : List LineNow). length ls) lines in
        let ends = ap length traces in
        let made : b'.counts.events ≡ b.counts.events + 1 = ap (λ (c : Counted). c.events) counts in
        let same : b'.counts.running ≡ b.counts.running = ap (λ (c : Counted). c.running) counts in
        let kept : b'.counts.waiting ≡ b.counts.waiting = ap (λ (c : Counted). c.waiting) counts in
        record {
          events = omega (arith, events, longer, made);
          waiting = kept ∙ told.waiting ∙ ap waiting_in (sym lines);
          running = omega (arith, same, kept, running, size, ends);
          rest = (ap (λ (c : Counted). c.rest.given) counts ∙ told.rest.0, ap (λ (c : Counted). c.rest.taken) counts ∙ told.rest.1);
        }

    get_tasks : (drawn k get_of v).tasks ≡ b.holder.view.tasks ++ carried_task j.task.number (drawn_of j.task.trace.items ++ (k, get_of) ∷ []) ∷ []
    get_tasks = tasks_own clock orders code limits b j v k get_of is get_drawn tt

    -- the book after the get
    pub get_book : (h : Seated) (w : Writing) (counts : Counted) → h.clock ≡ b.holder.clock
        → h.view ≡ after_note j.task.number (drawn k (event_at j.task.number j.place.at.number (Gets future value x)) v) → w.home ≡ b.writer.home
        → AreOrders (events_in (entries_of b ++ (k, event_at j.task.number j.place.at.number (Gets future value x)) ∷ [])) w.lists.english.order
        w.lists.hebrew.order
        → 2 * limits.events + 1 ≤ length w.lists.english.order + w.lists.english.room → counts ≡ gone_on b.counts
        → IsBook clock orders code limits (record b { holder = h; writer = w; counts = counts })
    get_book h w counts clock_is view_is home orders_are room counts_are =
        let new : BookNow = record b { holder = h; writer = w; counts = counts } in
        let entries : own_list h.view ≡ after = ap (λ (u : View). own_list u) view_is ∙ drawn_own clock orders code limits b j v k get_of is get_drawn in
        let knows : book_of h.view ≡ after = ap (λ (u : View). book_of u) view_is ∙ drawn_known clock orders code limits b j v k get_of is get_drawn in
        let number : number_of h.view ≡ 0 = ap (λ (u : View). number_of u) view_is ∙ drawn_number clock orders code limits b j v k get_of is get_drawn in
        let tasks : h.view.tasks ≡ b.holder.view.tasks =
        ap (λ (u : View). u.tasks) view_is ∙ ap (λ cs. without_task j.task.number cs) get_tasks
        ∙ without_last j.task.number b.holder.view.tasks (drawn_of j.task.trace.items ++ (k, get_of) ∷ []) known.apart in
        let few = few_tickets (entries_of b) k is.listed.rises (low clock orders code limits b j v k get_of is get_drawn) in
        let more = length-append (entries_of b) ((k, get_of) ∷ []) in
        let creates : b.creates ≡ create_count (events_in after) =
        is.listed.creates
        ∙ sym (ap (λ (l : List Event). create_count l) (events_one (entries_of b) k get_of) ∙ creates_one (events_in (entries_of b)) get_of ∙ no_more
        (create_count (events_in (entries_of b)))) in
        book_went clock orders code limits b j v k get_of is get_drawn new refl clock_is home number entries knows (omega (arith, few, more, below)) room
        get_lines.all
        get_lines.each orders_are creates is.creates_few (same_carried clock orders code limits b j v k get_of is get_drawn new tasks refl refl)
        (get_told new entries refl refl counts_are) refl
      where
        no_more : (n : ℕ) → n + 0 ≡ n
        no_more n = omega arith

    -- the task after it
    pub get_ready : (task : TaskNow) (at : Strand) (table : List Strand) (pace : ℕ) → task.number ≡ j.task.number → task.which ≡ j.task.which
        → task.spot.ended ≡ j.task.spot.ended
        → drawn_of task.trace.items ≡ drawn_of j.task.trace.items ++ (k, event_at j.task.number j.place.at.number (Gets future value x)) ∷ []
        → ((P : tree.Program) (args : List Value) (s t : TaskState) → IsCodeOf P code → IsTaskOf P code args j.task s → StandsAt s t
        → Answers (wish_of P t) (Gets future value x) → ActionFits any_future P j.task.which t (Gets future value x)
        → IsTaskOf P code args task (effect_of t (Gets future value x)))
        → at.number ≡ x
        → IsStrandOf (events_in (entries_of b ++ (k, event_at j.task.number j.place.at.number (Gets future value x)) ∷ [])) at
        → HasTable (events_in (entries_of b ++ (k, event_at j.task.number j.place.at.number (Gets future value x)) ∷ [])) at.number table → pace ≡ 1
        → IsReady code (entries_of b ++ (k, event_at j.task.number j.place.at.number (Gets future value x)) ∷ []) task at table pace
        (drawn k (event_at j.task.number j.place.at.number (Gets future value x)) v)
    get_ready task at table pace number which ended trace feeds at_is strand table_is pace_is =
        let t = j.task.number in
        let old = drawn_of j.task.trace.items in
        let alone : only_task t (drawn k get_of v).tasks ≡ carried_task t (old ++ (k, get_of) ∷ []) ∷ [] =
        ap (λ cs. only_task t cs) get_tasks ∙ only_last t b.holder.view.tasks (old ++ (k, get_of) ∷ []) known.apart in
        record {
          known = drawn_known clock orders code limits b j v k get_of is get_drawn;
          sound = get_sound;
          fits = all_fit clock orders code limits b j v k get_of is get_drawn;
          holds =
              task_fed code (entries_of b) j.task j.place.at j.place.table j.pace known.task is.listed.fits k get_of task at table pace is.listed.sound
              get_follows
              (low clock orders code limits b j v k get_of is get_drawn) (early clock orders code limits b j v k get_of is get_drawn) refl refl refl stands
              number which
              ended trace feeds at_is strand table_is pace_is;
          carried = subst (λ n. only_task n (drawn k get_of v).tasks ≡ carried_task n (drawn_of task.trace.items) ∷ []) (sym number)
              (subst (λ i. only_task t (drawn k get_of v).tasks ≡ carried_task t i ∷ []) (sym trace) alone);
        }

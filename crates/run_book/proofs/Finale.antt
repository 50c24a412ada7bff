-- What a call answers whose task ended.
use Rattle.std.specs.Prelude.{Some, None, slice_get}
use Rattle.std.proofs.lemmas.List.{map-append}
use Rattle.std.proofs.Common.{◌≡◌, ◌≢◌, ℕ, ◌<◌, ◌≤◌, List, [], ◌∷◌, ◌++◌, length, inl, refl, sym, ap, ◌∙◌, subst, arith}
use Rattle.fut_base.specs.declared.limits.TheConstants.{MOST_LOCAL_STEPS}
use Rattle.fut_base.specs.declared.record.Value.{Value}
use Rattle.fut_base.specs.declared.record.Entry.{Entry}
use Rattle.fut_base.specs.Listed.{Listed}
use Rattle.fut_base.specs.Events.{event_of}
use Rattle.fut_base.specs.declared.record.Limits.{Limits}
use Rattle.fut_base.specs.declared.event.Event.{Event}
use Rattle.fut_base.specs.declared.event.Action.TheVariants.{Ends}
use Rattle.fut_base.specs.Dag.{Among}
use Rattle.fut_base.specs.Sound.{IsSound}
use Rattle.fut_base.proofs.Members.{among_right}
use Rattle.fut_syntax.specs.Trees as tree
use Rattle.atomic_table.specs.Seated.{TableId}
use Rattle.task_machine.specs.State.{TaskState, Wish, ToRead, ToWrite, ToSpawn, ToCreate, ToSync, ToGet, ToEnd, Answers, wish_of}
use Rattle.task_code.specs.Flat.{Compiled, IsCodeOf}
use Rattle.task_code.specs.declared.task.Wish as declared
use Rattle.task_code.specs.declared.task.Wish.TheVariants as wish
use Rattle.task_code.specs.Tasks.{TaskNow, IsTaskOf, IsTold, Wishes}
use Rattle.event_clock.specs.declared.view.View.{View}
use Rattle.event_clock.specs.declared.view.Carried.{Carried}
use Rattle.event_clock.specs.declared.view.Size.{Size}
use Rattle.event_clock.specs.declared.clock.Drawn.TheVariants.{Spent}
use Rattle.event_clock.specs.Views.{MayAskFor, IsAbove, own_list, numbers_of, number_of, carries, drawn, after_note}
use Rattle.event_clock.specs.Rule.{IsPrefix, IsJoin}
use Rattle.event_clock.specs.Seated.{Ticking, Seated, IsDraw}
use Rattle.event_clock.proofs.Lists.{carries_among}
use Rattle.order_query.specs.Reading.{Reading, Writing}
use Rattle.strand_tree.specs.declared.strand.Strand.{Strand}
use Rattle.strand_tree.specs.Placing.{AreOrders, IsStrandOf}
use Rattle.reach_table.specs.Telling.{HasTable}
use Rattle.run_counts.specs.Counted.{Counted, Handed}
use Rattle.run_counts.specs.Moves.{over, turned}
use Rattle.run_place.specs.Placed.{Placed, AreAlike, book_of, events_in}
use Rattle.run_book.specs.Drawn.{drawn_of}
use Rattle.run_book.specs.Jobs.{JobNow, IsJob, MayRelease, Stands, known_to}
use Rattle.run_book.specs.Lines.{LineNow}
use Rattle.run_book.specs.Turns.{parent_of, after_end}
use Rattle.run_book.specs.Waking.{AreFreed, woken_by}
use Rattle.run_book.specs.Books.{BookNow, IsBook, entries_of, wait_for}
use Rattle.run_book.specs.Steps.{AreWoken, HasEnded, WishesEnd}
use Rattle.run_book.proofs.Advancing.{told_at}
use Rattle.run_book.proofs.Asking.{may_ask, event_of_job}
use Rattle.run_book.proofs.Carrying.{carried_task}
use Rattle.run_book.proofs.Going.{HasDrawn, drawn_own}
use Rattle.run_book.proofs.Over.{end_drawn, end_line, end_parent, end_freed, end_few, end_book}
use Rattle.run_book.proofs.Gone.{IsOfCall}
use Rattle.run_book.proofs.Knowing.{IsKnown, job_known}
use Rattle.run_book.proofs.Giving.{IsReady, known_ready, ready_as, ready_carried, ready_orders, ready_strand, ready_job, reader_knew}
use Rattle.run_book.proofs.Stranding.{event_at, few_tickets}
use Rattle.run_book.proofs.Turning.{turned_book, turned_spent}

-- ---- the wish

is_end : (w : declared.Wish) (x : Wish) (value : Value) → IsTold w x → x ≡ ToEnd value → w ≡ wish.End value
is_end (wish.Read cell) x value told is = let e : ToRead cell ≡ ToEnd value = sym told ∙ is in cc
is_end (wish.Write cell v) x value told is = let e : ToWrite cell v ≡ ToEnd value = sym told ∙ is in cc
is_end (wish.Spawn which) x value told is = let e : ToSpawn which told.0 ≡ ToEnd value = sym told.1 ∙ is in cc
is_end (wish.Create which) x value told is = let e : ToCreate which told.0 ≡ ToEnd value = sym told.1 ∙ is in cc
is_end wish.Sync x value told is = let e : ToSync ≡ ToEnd value = sym told ∙ is in cc
is_end (wish.Get future) x value told is = let e : ToGet future ≡ ToEnd value = sym told ∙ is in cc
is_end (wish.End v) x value told is =
    let e : ToEnd v ≡ ToEnd value = sym told ∙ is in
    let same : v ≡ value = cc in
    ap wish.End same
is_end wish.Long x value told is = absurd told

-- a job that wishes to end is told to
pub ends_with : (clock : Ticking) (orders : TableId) (code : Compiled) (j : JobNow) (w : declared.Wish) → IsJob clock orders code j → WishesEnd code j
    → ((P : tree.Program) (args : List Value) (s : TaskState) → IsCodeOf P code → IsTaskOf P code args j.task s → Wishes P MOST_LOCAL_STEPS s w)
    → (value : Value) × (w ≡ wish.End value)
ends_with clock orders code j w is wishes tells =
    let P = is.program.0 in
    let of = is.program.1 in
    let s = is.started P of.typed of in
    let h = wishes P s.0 s.1 of.typed of s.3 in
    (h.2.0, is_end w (wish_of P h.0) h.2.0 (told_at P s.1 h.0 w (tells P s.0 s.1 of s.3) h.1) h.2.1)

-- so it stands there
pub stands_end : (code : Compiled) (task : TaskNow) (value : Value) → Stands code task (λ P w. (v : Value) × (w ≡ ToEnd v))
    → ((P : tree.Program) (args : List Value) (s : TaskState) → IsCodeOf P code → IsTaskOf P code args task s → Wishes P MOST_LOCAL_STEPS s (wish.End value))
    → Stands code task (λ P w. w ≡ ToEnd value)
stands_end code task value is tells = λ P args s typed of x.
    let h = is P args s typed of x in (h.0, h.1, told_at P s h.0 (wish.End value) (tells P args s of x) h.1)

-- ---- the answer

pub has_ended : (code : Compiled) (limits : Limits) (old new : BookNow) (hand after : Handed) (job j : JobNow) (jobs : List JobNow) (v : View) (k : ℕ)
    (e : Event)
    (value : Value) → HasDrawn code limits old j v k e → IsOfCall job j → e.action ≡ Ends value → Stands code job.task (λ P w. w ≡ ToEnd value)
    → entries_of new ≡ entries_of old ++ (k, e) ∷ [] → new.counts.rest.parts ≡ old.counts.rest.parts → AreWoken (wait_for old.lines j.task.number) jobs
    → after ≡ turned (length jobs) hand → HasEnded code limits.events old new hand after job jobs
has_ended code limits old new hand after job j jobs v k e value d same act stands entries parts woken turn =
    let drawn : drawn_of j.task.trace.items ≡ drawn_of job.task.trace.items = ap drawn_of same.task.trace in
    let mine : Carried = carried_task j.task.number (drawn_of j.task.trace.items) in
    let there : Among mine v.tasks = subst (λ cs. Among mine cs) (sym d.known.tasks_are) (among_right mine old.holder.view.tasks (mine ∷ []) (inl refl)) in
    let is : mine ≡ carried_task job.task.number (drawn_of job.task.trace.items) =
    ap (λ n. carried_task n (drawn_of j.task.trace.items)) same.task.number ∙ ap (λ l. carried_task job.task.number l) drawn in
    record {
      event = e;
      made =
          event_of_job code limits.events old new job v k e d.known.known (subst (λ (c : Carried). Among c v.tasks) is there) d.below d.above entries
          (d.own.0 ∙ same.task.number) (d.own.1 ∙ ap (λ (p : Placed). p.at.number) same.place) d.follows
          (λ P args s typed of x. (
          let h = stands P args s typed of x in
          (h.0, h.1, subst (λ a. Answers (wish_of P h.0) a) (sym act) h.2)))
          parts;
      woken = subst (λ n. AreWoken (wait_for old.lines n) jobs) same.task.number woken;
      hand = turn;
    }

-- ---- what is asked on the way

-- what is asked where a task that the holder has goes out again
pub record GoesOut (clock : Ticking) (orders : TableId) (code : Compiled) (h : Seated) (w : Writing) (held : TaskNow) (at : Strand) (table : List Strand)
    (reader : Reading) (pace : ℕ) : Type 0 where
  pub home : (h.clock ≡ clock.id) × (w.home ≡ orders) × (reader.home ≡ orders)
  pub carried : 0 < carries held.number h.view.tasks
  pub orders_are : IsSound (events_in (book_of h.view)) × AreOrders (events_in (book_of h.view)) w.lists.english.order w.lists.hebrew.order
  pub knew : (known : List (ℕ × Event)) × AreAlike known reader.log × IsPrefix known (book_of h.view)
  pub strand : IsStrandOf (events_in (book_of h.view)) at × HasTable (events_in (book_of h.view)) at.number table
  pub job : MayRelease clock orders code held at table pace h.view

module _ (clock : Ticking) (orders : TableId) (code : Compiled) (limits : Limits) (b : BookNow) (j : JobNow) (told : Seated)
    (is : IsBook clock orders code limits b)
    (job : IsJob clock orders code j) (join : IsJoin b.holder.view j.place.pass.view told.view) (own : told.view.own ≡ b.holder.view.own)
    (one : numbers_of told.view.own ≡ number_of told.view ∷ []) (clock_is : told.clock ≡ b.holder.clock) where
  pub known_of : IsKnown code (entries_of b) j b.holder.view.tasks told.view
  known_of = job_known clock orders code limits b j told.view is job join own one

  -- a draw
  pub end_asks : (value : Value) (e : Event) → e ≡ event_at j.task.number j.place.at.number (Ends value) → MayAskFor told.view e
  end_asks value e same =
      let known = known_of in
      let mine : Carried = carried_task j.task.number (drawn_of j.task.trace.items) in
      let there : Among mine told.view.tasks =
      subst (λ cs. Among mine cs) (sym known.tasks_are) (among_right mine b.holder.view.tasks (mine ∷ []) (inl refl)) in
      subst (MayAskFor told.view) (sym same)
      (may_ask told.view (event_at j.task.number j.place.at.number (Ends value)) (subst (λ l. IsSound (events_in l)) (sym known.entries) is.listed.sound)
      known.number (carries_among mine told.view.tasks there) tt)

  -- the job where the draw was turned away
  pub goes_out : (size : Size) (e : Event) (n : ℕ) (drew : Seated) (w : Writing) (held : TaskNow) (at : Strand) (table : List Strand) (reader : Reading)
      (pace : ℕ)
      → IsDraw size e told.view (Spent n) drew.view → drew.clock ≡ told.clock → w ≡ b.writer
      → (held ≡ j.task) × (at ≡ j.place.at) × (table ≡ j.place.table) × (reader ≡ j.place.reader) × (pace ≡ j.pace)
      → GoesOut clock orders code drew w held at table reader pace
  goes_out size e n drew w held at table reader pace draw drew_clock writer same =
      let known = known_of in
      let away : book_of drew.view ≡ book_of told.view = ap (λ (u : View). book_of u) draw.1 in
      let ready : IsReady code (entries_of b) held at table pace drew.view =
      ready_as code (entries_of b) j.task held j.place.at at j.place.table table j.pace pace drew.view
      (known_ready code b j told.view drew.view is.listed known away (ap (λ (u : View). u.tasks) draw.1)) same.0 same.1 same.2 same.4 in
      record {
        home = (
          drew_clock ∙ clock_is ∙ is.home.0,
          ap (λ (x : Writing). x.home) writer ∙ is.home.1,
          ap (λ (r : Reading). r.home) same.3 ∙ job.place.orders_is,
        );
        carried = ready_carried code (entries_of b) held at table pace drew.view ready;
        orders_are =
            subst (λ (x : Writing). IsSound (events_in (book_of drew.view))
            × AreOrders (events_in (book_of drew.view)) x.lists.english.order x.lists.hebrew.order)
            (sym writer) (ready_orders code b drew.view (away ∙ known.known) is.listed);
        knew = reader_knew clock orders j reader drew.view job.place same.3
            (subst (λ l. IsPrefix (known_to j) l) (sym (away ∙ known.known)) known.begins);
        strand = ready_strand code (entries_of b) held at table pace drew.view ready;
        job = ready_job clock orders code (entries_of b) held at table pace drew.view ready;
      }

  -- the book then
  pub spent_book : (size : Size) (e : Event) (n : ℕ) (drew h : Seated) (w : Writing) (traces : List (Listed (ℕ × Entry)))
      → IsDraw size e told.view (Spent n) drew.view → drew.clock ≡ told.clock → h.clock ≡ drew.clock → h.view ≡ after_note j.task.number drew.view
      → w ≡ b.writer → traces ≡ b.traces → IsBook clock orders code limits (record b { holder = h; writer = w; traces = traces })
  spent_book size e n drew h w traces draw drew_clock h_clock view_is writer same =
      subst (λ ts. IsBook clock orders code limits (record b { holder = h; writer = w; traces = ts })) (sym same)
      (turned_book clock orders code limits b j told.view h w is known_of own
      (turned_spent size e b j told drew h n clock_is drew_clock draw h_clock view_is) writer)

  -- there is room for one more event
  pub end_room : (k : ℕ) → k < limits.events → IsAbove k told.view → b.counts.events < limits.events
  end_room k below above =
      let known = known_of in
      let few = few_tickets (entries_of b) k is.listed.rises (λ x a. above.known 0 x (subst (Among x) (sym known.known) a)) in
      let told_of = is.counted.events in
      omega (arith, few, below, told_of)

  -- ---- the end itself, over what the calls on the way say

  module _ (k : ℕ) (value : Value) (stands : Stands code j.task (λ P w. w ≡ ToEnd value)) (below : k < limits.events) (above : IsAbove k told.view)
      (n : ℕ) (number : n ≡ j.task.number) where
    pub went_line : (l : LineNow) × (slice_get b.lines n ≡ Some l) × (l.value ≡ None) × ((p : ℕ) → l.parent ≡ Some p → l.waiters ≡ [])
    went_line =
        subst (λ t. (l : LineNow) × (slice_get b.lines t ≡ Some l) × (l.value ≡ None) × ((p : ℕ) → l.parent ≡ Some p → l.waiters ≡ [])) (sym number)
        (end_line clock orders code limits b j told.view k value is known_of one stands below above)

    pub went_parent : (p : ℕ) → parent_of (slice_get b.lines n) ≡ Some p → (p ≢ n) × ((l : LineNow) × (slice_get b.lines p ≡ Some l) × (0 < l.count))
    went_parent =
        subst (λ t. (p : ℕ) → parent_of (slice_get b.lines t) ≡ Some p → (p ≢ t) × ((l : LineNow) × (slice_get b.lines p ≡ Some l) × (0 < l.count)))
        (sym number)
        (end_parent clock orders code limits b j told.view k value is known_of one stands below above)

    went_wait : (waiting : List JobNow) → waiting ≡ wait_for b.lines n → waiting ≡ wait_for b.lines j.task.number
    went_wait waiting same = same ∙ ap (wait_for b.lines) number

    pub went_few : (waiting : List JobNow) (counts : Counted) → waiting ≡ wait_for b.lines n → counts ≡ over b.counts → length waiting ≤ counts.waiting
    went_few waiting counts same counts_are =
        let few = end_few clock orders code limits b j told.view k value is known_of one stands below above in
        let size : length waiting ≡ length (wait_for b.lines j.task.number) = ap length (went_wait waiting same) in
        let kept : counts.waiting ≡ b.counts.waiting = ap (λ (c : Counted). c.waiting) counts_are in
        omega (arith, few, size, kept)

    pub went_freed : (drew : Seated) (e : Event) (waiting : List JobNow) → drew.view ≡ drawn k e told.view
        → e ≡ event_at j.task.number j.place.at.number (Ends value) → waiting ≡ wait_for b.lines n → AreFreed code (own_list drew.view) waiting
    went_freed drew e waiting view_is same here =
        let d = end_drawn clock orders code limits b j told.view k value is known_of one stands below above in
        let view : drew.view ≡ drawn k (event_at j.task.number j.place.at.number (Ends value)) told.view = view_is ∙ ap (λ x. drawn k x told.view) same in
        let entries = ap (λ (u : View). own_list u) view
        ∙ drawn_own clock orders code limits b j told.view k (event_at j.task.number j.place.at.number (Ends value)) is d in
        subst (λ l. AreFreed code l waiting) (sym entries)
        (subst (AreFreed code (entries_of b ++ (k, event_at j.task.number j.place.at.number (Ends value)) ∷ [])) (sym (went_wait waiting here))
        (end_freed clock orders code limits b j told.view k value is known_of one stands below above))

    pub went_entries : (drew : Seated) (e : Event) → drew.view ≡ drawn k e told.view → e ≡ event_at j.task.number j.place.at.number (Ends value)
        → own_list drew.view ≡ entries_of b ++ (k, event_at j.task.number j.place.at.number (Ends value)) ∷ []
    went_entries drew e view_is same =
        let d = end_drawn clock orders code limits b j told.view k value is known_of one stands below above in
        ap (λ (u : View). own_list u) (view_is ∙ ap (λ x. drawn k x told.view) same)
        ∙ drawn_own clock orders code limits b j told.view k (event_at j.task.number j.place.at.number (Ends value)) is d

    drawn_more : (k : ℕ) (entry : Entry) (xs : List (ℕ × Entry)) → drawn_of (xs ++ (k, entry) ∷ []) ≡ drawn_of xs ++ (k, event_of entry) ∷ []
    drawn_more k entry xs = map-append (λ (p : ℕ × Entry). (p.0, event_of p.1)) xs ((k, entry) ∷ [])

    -- the book after it, in which those that go on are counted as running
    pub went_book : (drew : Seated) (entry : Entry) (task : TaskNow) (at : Strand) (table : List Strand) (fed : Listed (ℕ × Entry))
        (traces : List (Listed (ℕ × Entry))) (lines : List LineNow) (waiting : List JobNow) (counts : Counted) → 0 < b.counts.running → drew.clock ≡ told.clock
        → drew.view ≡ drawn k (event_of entry) told.view → event_of entry ≡ event_at j.task.number j.place.at.number (Ends value) → task ≡ j.task
        → at ≡ j.place.at → table ≡ j.place.table → fed.items ≡ task.trace.items ++ (k, entry) ∷ [] → traces ≡ b.traces ++ fed ∷ []
        → lines ≡ after_end n value (record { at = at; table = table }) b.lines → waiting ≡ wait_for b.lines n → counts ≡ over b.counts
        → IsBook clock orders code limits (record b { holder = drew; lines = lines; traces = traces; counts = woken_by (length waiting) counts })
    went_book drew entry task at table fed traces lines waiting counts some drew_clock view_is same task_is at_is table_is fed_is traces_are lines_are here
        counts_are =
        let e : Event = event_at j.task.number j.place.at.number (Ends value) in
        let trace : drawn_of fed.items ≡ drawn_of j.task.trace.items ++ (k, e) ∷ [] =
        ap drawn_of fed_is ∙ drawn_more k entry task.trace.items ∙ ap (λ (x : TaskNow). drawn_of x.trace.items ++ (k, event_of entry) ∷ []) task_is
        ∙ ap (λ x. drawn_of j.task.trace.items ++ (k, x) ∷ []) same in
        let settled : lines ≡ after_end j.task.number value (record { at = j.place.at; table = j.place.table }) b.lines =
        lines_are ∙ ap (λ t. after_end t value (record { at = at; table = table }) b.lines) number
        ∙ ap (λ x. after_end j.task.number value (record { at = x; table = table }) b.lines) at_is
        ∙ ap (λ x. after_end j.task.number value (record { at = j.place.at; table = x }) b.lines) table_is in
        let told_counts : woken_by (length waiting) counts ≡ woken_by (length (wait_for b.lines j.task.number)) (over b.counts) =
        ap (λ c. woken_by (length waiting) c) counts_are ∙ ap (λ js. woken_by (length js) (over b.counts)) (went_wait waiting here) in
        end_book clock orders code limits b j told.view k value is known_of one stands below above drew traces fed lines (woken_by (length waiting) counts) some
        (drew_clock ∙ clock_is) (view_is ∙ ap (λ x. drawn k x told.view) same) trace traces_are settled told_counts

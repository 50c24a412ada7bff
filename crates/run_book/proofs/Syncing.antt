-- A task goes on after a sync.
use Rattle.std.proofs.Common.{◌≡◌, ℕ, ◌+◌, ◌*◌, ◌<◌, ◌≤◌, List, [], ◌∷◌, ◌++◌, length, take, drop, refl, sym, ap, ◌∙◌, subst, arith}
use Rattle.std.specs.Prelude.{Some, slice_get}
use Rattle.std.proofs.lemmas.List.{length-append, append-nil, take_all, drop_all}
use Rattle.std.proofs.lemmas.Option.{same_Some}
use Rattle.atomic_table.specs.Seated.{TableId}
use Rattle.fut_base.specs.declared.limits.TheConstants.{MOST_LOCAL_STEPS}
use Rattle.fut_base.specs.declared.record.Limits.{Limits}
use Rattle.fut_base.specs.declared.record.Value.{Value}
use Rattle.fut_base.specs.declared.event.Event.{Event}
use Rattle.fut_base.specs.declared.event.Action.TheVariants.{Syncs}
use Rattle.fut_base.specs.Dag.{block_of}
use Rattle.fut_base.specs.Sound.{IsSound, AllEnded, MayFollow}
use Rattle.fut_syntax.specs.Trees as tree
use Rattle.task_machine.specs.Machine.{create_count}
use Rattle.task_machine.specs.State.{TaskState, Wish, ToRead, ToWrite, ToSpawn, ToCreate, ToSync, ToGet, ToEnd, wish_of, effect_of, Answers}
use Rattle.task_machine.specs.Runs.{StandsAt}
use Rattle.task_types.specs.Typed.{ActionFits, any_future}
use Rattle.task_code.specs.declared.task.Wish as declared
use Rattle.task_code.specs.declared.task.Wish.TheVariants as wish
use Rattle.task_code.specs.Flat.{Compiled, IsCodeOf}
use Rattle.task_code.specs.Tasks.{TaskNow, IsTaskOf, Wishes}
use Rattle.task_code.specs.Tasks.{IsTold as IsWishTold}
use Rattle.event_clock.specs.declared.view.View.{View}
use Rattle.event_clock.specs.Views.{numbers_of, number_of, own_list, drawn, after_note, without_task, only_task, IsAbove}
use Rattle.event_clock.specs.Seated.{Ticking, Seated}
use Rattle.order_query.specs.Reading.{Writing}
use Rattle.strand_tree.specs.declared.strand.Strand.{Strand}
use Rattle.strand_tree.specs.Placing.{AreOrders, IsStrandOf}
use Rattle.reach_table.specs.Telling.{HasTable}
use Rattle.run_counts.specs.Counted.{Counted}
use Rattle.run_counts.specs.Moves.{gone_on}
use Rattle.run_place.specs.Placed.{book_of, events_in}
use Rattle.run_book.specs.Drawn.{drawn_of, past_in}
use Rattle.run_book.specs.Jobs.{JobNow, IsStarted, Stands}
use Rattle.run_book.specs.Lines.{LineNow, unended, IsLineOf}
use Rattle.run_book.specs.Turns.{change_at}
use Rattle.run_book.specs.Tabling.{AreLines}
use Rattle.run_book.specs.Books.{BookNow, IsBook, IsTold, entries_of, waiting_in}
use Rattle.run_book.proofs.Drawn.{events_one}
use Rattle.run_book.proofs.Knowing.{IsKnown}
use Rattle.run_book.proofs.Advancing.{told_at}
use Rattle.run_book.proofs.Handles.{may_follow}
use Rattle.run_book.proofs.Carrying.{carried_task, without_last, only_last}
use Rattle.run_book.proofs.Feeding.{task_fed}
use Rattle.run_book.proofs.Blocks.{none_unended, not_all_ended, stands_task}
use Rattle.run_book.proofs.Stranding.{event_at, strand_add, table_add, has_strands, few_tickets}
use Rattle.run_book.proofs.AllLines.{lines_synced}
use Rattle.run_book.proofs.Going.{HasDrawn, low, early, sound_more, all_fit, drawn_known, drawn_own, drawn_number, tasks_own, same_carried, book_went}
use Rattle.run_book.proofs.Forked.{creates_one}
use Rattle.run_book.proofs.Giving.{IsReady}
use Rattle.run_book.proofs.Getting.{lines_of}
use Rattle.run_book.proofs.Changing.{length_changed, waiting_changed}

-- a task begins a new block
abbrev pub with_no_block : LineNow → LineNow
with_no_block l = record l { block = []; room = 0 }

-- where no child of a task's line runs, all children of its block have ended; and where one runs, not all have
pub all_ended : (code : Compiled) (book : List (ℕ × Event)) (t : ℕ) (l : LineNow) → IsLineOf code book t l → l.count ≡ 0
    → AllEnded (past_in book) (block_of (past_in book) t)
all_ended code book t l is none = none_unended (past_in book) (block_of (past_in book) t) (ap (λ b. unended (past_in book) b) (sym is.block) ∙ sym is.count ∙ none)

pub one_runs : (code : Compiled) (book : List (ℕ × Event)) (t : ℕ) (l : LineNow) → IsLineOf code book t l → 0 < l.count
    → AllEnded (past_in book) (block_of (past_in book) t) → ⊥
one_runs code book t l is some all =
    let count : l.count ≡ unended (past_in book) (block_of (past_in book) t) = is.count ∙ ap (λ b. unended (past_in book) b) is.block in
    not_all_ended (past_in book) (block_of (past_in book) t) (omega (arith, some, count)) all

-- a task that the holder has has a line
pub has_line : (clock : Ticking) (orders : TableId) (code : Compiled) (limits : Limits) (b : BookNow) (j : JobNow) (v : View)
    → IsBook clock orders code limits b → IsKnown code (entries_of b) j b.holder.view.tasks v → j.task.number < length b.lines
has_line clock orders code limits b j v is known =
    let low = stands_task (past_in (entries_of b)) is.listed.sound j.task.number j.place.at.number known.task.strand in
    let size = is.listed.tasks in
    omega (arith, low, size)

module _ (clock : Ticking) (orders : TableId) (code : Compiled) (limits : Limits) (b : BookNow) (j : JobNow) (v : View) (k x : ℕ) (l : LineNow)
    (is : IsBook clock orders code limits b) (known : IsKnown code (entries_of b) j b.holder.view.tasks v) (one : numbers_of v.own ≡ number_of v ∷ [])
    (there : slice_get b.lines j.task.number ≡ Some l) (none : l.count ≡ 0) (stands : Stands code j.task (λ P w. w ≡ ToSync))
    (next : x ≡ length b.writer.lists.english.order) where
  abbrev sync_of : Event
  sync_of = event_at j.task.number j.place.at.number (Syncs x)

  pub block_ended : AllEnded (past_in (entries_of b)) (block_of (past_in (entries_of b)) j.task.number)
  block_ended = all_ended code (entries_of b) j.task.number l (is.listed.lines j.task.number l there) none

  pub sync_follows : MayFollow (past_in (entries_of b)) (event_at j.task.number j.place.at.number (Syncs x))
  sync_follows =
      let strands = has_strands (entries_of b) b.writer.lists.english.order b.writer.lists.hebrew.order is.listed.sound is.listed.orders in
      may_follow code (entries_of b) j.task j.place.at j.place.table j.pace sync_of is.listed.sound known.task refl refl refl (next ∙ strands.first, block_ended) stands

  module _ (below : k < limits.events) (above : IsAbove k v) where
    pub sync_drawn : HasDrawn code limits b j v k (event_at j.task.number j.place.at.number (Syncs x))
    sync_drawn = record { known = known; one = one; below = below; above = above; own = (refl, refl); follows = sync_follows; answers = stands }

    abbrev after : List (ℕ × Event)
    after = entries_of b ++ (k, event_at j.task.number j.place.at.number (Syncs x)) ∷ []

    pub sync_sound : IsSound (events_in (entries_of b ++ (k, event_at j.task.number j.place.at.number (Syncs x)) ∷ []))
    sync_sound = sound_more clock orders code limits b j v k sync_of is sync_drawn

    sync_lines : AreLines code after (change_at j.task.number with_no_block b.lines)
    sync_lines =
        lines_synced code (entries_of b) k sync_of is.listed.sound sync_follows
        (λ last strand table. (strand_add (entries_of b) k sync_of last.at sync_sound strand, table_add (entries_of b) k sync_of last.at last.table sync_sound strand table))
        b.lines (lines_of clock orders code limits b is) x refl (λ m e. ap (λ (y : LineNow). y.count) (same_Some m l (sym e ∙ there)) ∙ none)

    sync_told : (b' : BookNow) → entries_of b' ≡ after → b'.lines ≡ change_at j.task.number with_no_block b.lines → b'.traces ≡ b.traces
        → b'.counts ≡ gone_on b.counts → IsTold b'
    sync_told b' entries lines traces counts =
        let told = is.counted in
        let events = told.events in
        let longer = ap length entries ∙ length-append (entries_of b) ((k, sync_of) ∷ []) in
        let waits = waiting_changed j.task.number with_no_block b.lines l there in
        let now = ap waiting_in lines in
        let size = ap (λ (ls : List LineNow). length ls) lines ∙ length_changed j.task.number with_no_block b.lines in
        let running = told.running in
        let waiting = told.waiting in
        let ends = ap length traces in
        let made : b'.counts.events ≡ b.counts.events + 1 = ap (λ (c : Counted). c.events) counts in
        let same : b'.counts.running ≡ b.counts.running = ap (λ (c : Counted). c.running) counts in
        let kept : b'.counts.waiting ≡ b.counts.waiting = ap (λ (c : Counted). c.waiting) counts in
        record {
          events = omega (arith, events, longer, made);
          waiting = omega (arith, kept, waiting, waits, now);
          running = omega (arith, same, kept, running, size, ends);
          rest = (ap (λ (c : Counted). c.rest.given) counts ∙ told.rest.0, ap (λ (c : Counted). c.rest.taken) counts ∙ told.rest.1);
        }

    sync_tasks : (drawn k sync_of v).tasks ≡ b.holder.view.tasks ++ carried_task j.task.number (drawn_of j.task.trace.items ++ (k, sync_of) ∷ []) ∷ []
    sync_tasks = tasks_own clock orders code limits b j v k sync_of is sync_drawn tt

    -- the book after the sync
    pub sync_book : (h : Seated) (w : Writing) (lines : List LineNow) (counts : Counted) → h.clock ≡ b.holder.clock
        → h.view ≡ after_note j.task.number (drawn k (event_at j.task.number j.place.at.number (Syncs x)) v) → w.home ≡ b.writer.home
        → AreOrders (events_in (entries_of b ++ (k, event_at j.task.number j.place.at.number (Syncs x)) ∷ [])) w.lists.english.order w.lists.hebrew.order
        → 2 * limits.events + 1 ≤ length w.lists.english.order + w.lists.english.room → lines ≡ change_at j.task.number with_no_block b.lines
        → counts ≡ gone_on b.counts → IsBook clock orders code limits (record b { holder = h; writer = w; lines = lines; counts = counts })
    sync_book h w lines counts clock_is view_is home orders_are room lines_are counts_are =
        let new : BookNow = record b { holder = h; writer = w; lines = lines; counts = counts } in
        let entries : own_list h.view ≡ after = ap (λ (u : View). own_list u) view_is ∙ drawn_own clock orders code limits b j v k sync_of is sync_drawn in
        let knows : book_of h.view ≡ after = ap (λ (u : View). book_of u) view_is ∙ drawn_known clock orders code limits b j v k sync_of is sync_drawn in
        let number : number_of h.view ≡ 0 = ap (λ (u : View). number_of u) view_is ∙ drawn_number clock orders code limits b j v k sync_of is sync_drawn in
        let tasks : h.view.tasks ≡ b.holder.view.tasks =
        ap (λ (u : View). u.tasks) view_is ∙ ap (λ cs. without_task j.task.number cs) sync_tasks
        ∙ without_last j.task.number b.holder.view.tasks (drawn_of j.task.trace.items ++ (k, sync_of) ∷ []) known.apart in
        let few = few_tickets (entries_of b) k is.listed.rises (low clock orders code limits b j v k sync_of is sync_drawn) in
        let more = length-append (entries_of b) ((k, sync_of) ∷ []) in
        let creates : b.creates ≡ create_count (events_in after) =
        is.listed.creates
        ∙ sym (ap (λ (l : List Event). create_count l) (events_one (entries_of b) k sync_of) ∙ creates_one (events_in (entries_of b)) sync_of ∙ no_more (create_count (events_in (entries_of b)))) in
        let all : AreLines code after lines = subst (λ ls. AreLines code after ls) (sym lines_are) sync_lines in
        book_went clock orders code limits b j v k sync_of is sync_drawn new refl clock_is home number entries knows (omega (arith, few, more, below)) room all.all
        all.each orders_are creates is.creates_few (same_carried clock orders code limits b j v k sync_of is sync_drawn new tasks refl refl) (sync_told new entries lines_are refl counts_are)
        refl
      where
        no_more : (n : ℕ) → n + 0 ≡ n
        no_more n = omega arith

    -- the task after it
    pub sync_ready : (task : TaskNow) (at : Strand) (table : List Strand) (pace : ℕ) → task.number ≡ j.task.number → task.which ≡ j.task.which
        → task.spot.ended ≡ j.task.spot.ended
        → drawn_of task.trace.items ≡ drawn_of j.task.trace.items ++ (k, event_at j.task.number j.place.at.number (Syncs x)) ∷ []
        → ((P : tree.Program) (args : List Value) (s t : TaskState) → IsCodeOf P code → IsTaskOf P code args j.task s → StandsAt s t
        → Answers (wish_of P t) (Syncs x) → ActionFits any_future P j.task.which t (Syncs x)
        → IsTaskOf P code args task (effect_of t (Syncs x)))
        → at.number ≡ x
        → IsStrandOf (events_in (entries_of b ++ (k, event_at j.task.number j.place.at.number (Syncs x)) ∷ [])) at
        → HasTable (events_in (entries_of b ++ (k, event_at j.task.number j.place.at.number (Syncs x)) ∷ [])) at.number table → pace ≡ 1
        → IsReady code (entries_of b ++ (k, event_at j.task.number j.place.at.number (Syncs x)) ∷ []) task at table pace
        (drawn k (event_at j.task.number j.place.at.number (Syncs x)) v)
    sync_ready task at table pace number which ended trace feeds at_is strand table_is pace_is =
        let t = j.task.number in
        let old = drawn_of j.task.trace.items in
        let alone : only_task t (drawn k sync_of v).tasks ≡ carried_task t (old ++ (k, sync_of) ∷ []) ∷ [] =
        ap (λ cs. only_task t cs) sync_tasks ∙ only_last t b.holder.view.tasks (old ++ (k, sync_of) ∷ []) known.apart in
        record {
          known = drawn_known clock orders code limits b j v k sync_of is sync_drawn;
          sound = sync_sound;
          fits = all_fit clock orders code limits b j v k sync_of is sync_drawn;
          holds =
              task_fed code (entries_of b) j.task j.place.at j.place.table j.pace known.task is.listed.fits k sync_of task at table pace is.listed.sound sync_follows
              (low clock orders code limits b j v k sync_of is sync_drawn) (early clock orders code limits b j v k sync_of is sync_drawn) refl refl refl stands number which
              ended trace feeds at_is strand table_is pace_is;
          carried = subst (λ n. only_task n (drawn k sync_of v).tasks ≡ carried_task n (drawn_of task.trace.items) ∷ []) (sym number)
              (subst (λ i. only_task t (drawn k sync_of v).tasks ≡ carried_task t i ∷ []) (sym trace) alone);
        }

-- a task that stands at a sync told that it does
module _ (code : Compiled) (book : List (ℕ × Event)) (task : TaskNow) (program : (P : tree.Program) × IsCodeOf P code) (started : IsStarted code book task)
    (stands : Stands code task (λ P w. w ≡ ToSync)) where
  abbrev Tells : declared.Wish → Type 0
  Tells w = (P : tree.Program) (args : List Value) (s : TaskState) → IsCodeOf P code → IsTaskOf P code args task s → Wishes P MOST_LOCAL_STEPS s w

  told : (w : declared.Wish) → Tells w → (u : Wish) × IsWishTold w u × (u ≡ ToSync)
  told w tells =
      let P = program.0 in
      let of = program.1 in
      let s = started P of.typed of in
      let at = stands P s.0 s.1 of.typed of s.3 in
      (wish_of P at.0, told_at P s.1 at.0 w (tells P s.0 s.1 of s.3) at.1, at.2)

  pub tells_sync : (w : declared.Wish) → Tells w → w ≡ wish.Sync
  tells_sync (wish.Read cell) tells = absurd (let t = told (wish.Read cell) tells in let e : ToRead cell ≡ ToSync = sym t.1 ∙ t.2 in cc)
  tells_sync (wish.Write cell value) tells = absurd (let t = told (wish.Write cell value) tells in let e : ToWrite cell value ≡ ToSync = sym t.1 ∙ t.2 in cc)
  tells_sync (wish.Spawn which) tells = absurd (let t = told (wish.Spawn which) tells in let e : ToSpawn which t.1.0 ≡ ToSync = sym t.1.1 ∙ t.2 in cc)
  tells_sync (wish.Create which) tells = absurd (let t = told (wish.Create which) tells in let e : ToCreate which t.1.0 ≡ ToSync = sym t.1.1 ∙ t.2 in cc)
  tells_sync wish.Sync tells = refl
  tells_sync (wish.Get future) tells = absurd (let t = told (wish.Get future) tells in let e : ToGet future ≡ ToSync = sym t.1 ∙ t.2 in cc)
  tells_sync (wish.End value) tells = absurd (let t = told (wish.End value) tells in let e : ToEnd value ≡ ToSync = sym t.1 ∙ t.2 in cc)
  tells_sync wish.Long tells = absurd (told wish.Long tells).1

-- a slice of all items that came back as it was
pub came_back : (size : ℕ) (items lent : List LineNow) → lent ≡ items → length items ≤ size → take size (lent ++ drop (length lent) items) ≡ items
came_back size items lent same few =
    subst (λ (ls : List LineNow). take size (ls ++ drop (length ls) items) ≡ items) (sym same)
    (ap (λ (ls : List LineNow). take size (items ++ ls)) (drop_all (length items) items (let n = length items in omega arith))
    ∙ ap (λ (ls : List LineNow). take size ls) (append-nil items) ∙ take_all size items few)

-- Jobs that waited go on.
use Rattle.std.proofs.Common.{◌≡◌, ℕ, ◌+◌, ◌-◌, ◌<◌, ◌≤◌, List, [], ◌∷◌, ◌++◌, length, inl, inr, subst, ap, sym, refl, ◌∙◌, arith}
use Rattle.std.specs.Prelude.{Option, Some, None}
use Rattle.std.specs.Option.{option_to_list}
use Rattle.std.proofs.lemmas.List.{append_assoc, length-append}
use Rattle.atomic_table.specs.Seated.{TableId}
use Rattle.fut_base.specs.declared.record.Limits.{Limits}
use Rattle.fut_base.specs.declared.event.Event.{Event}
use Rattle.fut_base.specs.Dag.{Among}
use Rattle.fut_base.specs.Sound.{IsSound}
use Rattle.strand_tree.specs.declared.strand.Strand.{Strand}
use Rattle.strand_tree.specs.Placing.{AreOrders, IsStrandOf}
use Rattle.reach_table.specs.Telling.{HasTable}
use Rattle.task_code.specs.Flat.{Compiled}
use Rattle.task_code.specs.Tasks.{TaskNow}
use Rattle.event_clock.specs.declared.view.View.{View}
use Rattle.event_clock.specs.Views.{own_list, numbers_of, number_of, list_at, carries, without_task, after_note}
use Rattle.event_clock.specs.Rule.{IsJoin, IsPrefix}
use Rattle.event_clock.specs.Seated.{Ticking, Seated}
use Rattle.order_query.specs.Reading.{Reading, Writing}
use Rattle.run_counts.specs.Counted.{Counted, Handed}
use Rattle.run_counts.specs.Moves.{turned, woken}
use Rattle.run_place.specs.Placed.{AreAlike, book_of, events_in}
use Rattle.run_book.specs.Drawn.{drawn_of, past_in}
use Rattle.run_book.specs.Jobs.{JobNow, IsJob, IsTaskIn, MayRelease, MayWait, IsFree, Stands, known_to}
use Rattle.run_book.specs.Books.{BookNow, IsBook, entries_of}
use Rattle.run_book.specs.Steps.{IsWoken, AreWoken}
use Rattle.run_book.specs.Waking.{IsFreed, AreFreed, IsFirstFreed, AreOfBook, IsHolderStill, woken_by, handed, IsFirstWoken}
use Rattle.run_book.proofs.Knowing.{IsKnown, job_known}
use Rattle.run_book.proofs.Carrying.{without_last}
use Rattle.run_book.proofs.Giving.{IsReady, known_ready, ready_as, ready_carried, ready_orders, ready_strand, ready_job, reader_knew}
use Rattle.run_book.proofs.Turning.{held_book}

-- a task whose wish is free may go on with a pace of 0
pub woken_task : (code : Compiled) (book : List (ℕ × Event)) (task : TaskNow) (at : Strand) (table : List Strand) (pace : ℕ)
    → IsTaskIn code book task at table pace
    → Stands code task (λ P w. MayWait w × IsFree (past_in book) task.number w) → IsTaskIn code book task at table 0
woken_task code book task at table pace is free =
    record {
      program = is.program;
      running = is.running;
      unended = is.unended;
      started = is.started;
      trace = is.trace;
      strand = is.strand;
      placed = is.placed;
      few = omega arith;
      paced = λ zero. free;
    }

module _ (clock : Ticking) (orders : TableId) (code : Compiled) (limits : Limits) (b : BookNow) (j : JobNow) (view : View)
    (is : IsBook clock orders code limits b)
    (job : IsJob clock orders code j) (join : IsJoin b.holder.view j.place.pass.view view) (own : view.own ≡ b.holder.view.own)
    (one : numbers_of view.own ≡ number_of view ∷ []) where
  woken_known : IsKnown code (entries_of b) j b.holder.view.tasks view
  woken_known = job_known clock orders code limits b j view is job join own one

  pub woken_ready : IsFreed code (entries_of b) j → IsReady code (entries_of b) j.task j.place.at j.place.table 0 view
  woken_ready freed =
      let ready = known_ready code b j view view is.listed woken_known refl refl in
      record {
        known = ready.known;
        sound = ready.sound;
        fits = ready.fits;
        holds = woken_task code (entries_of b) j.task j.place.at j.place.table j.pace ready.holds freed.1;
        carried = ready.carried;
      }

  -- after the job went out the holder is as it was
  pub woken_still : (h : Seated) → h.clock ≡ b.holder.clock → view.late ≡ b.holder.view.late → h.view ≡ after_note j.task.number view → IsHolderStill b.holder h
  woken_still h clock_is late view_is =
      let known = woken_known in
      record {
        clock = clock_is;
        own = ap (λ (v : View). v.own) view_is ∙ own;
        late = ap (λ (v : View). v.late) view_is ∙ late;
        known = ap (λ (v : View). list_at v.known 0) view_is ∙ known.known ∙ sym is.listed.known;
        tasks =
            ap (λ (v : View). v.tasks) view_is ∙ ap (λ cs. without_task j.task.number cs) known.tasks_are
            ∙ without_last j.task.number b.holder.view.tasks (drawn_of j.task.trace.items) known.apart;
      }

-- a holder that is as it was is that of a book
pub still_book : (clock : Ticking) (orders : TableId) (code : Compiled) (limits : Limits) (b : BookNow) (h : Seated) (w : Writing)
    → IsBook clock orders code limits b → IsHolderStill b.holder h → w ≡ b.writer → IsBook clock orders code limits (record b { holder = h; writer = w })
still_book clock orders code limits b h w is still writer =
    held_book clock orders code limits b h w is still.clock still.own (still.known ∙ is.listed.known) still.tasks writer

pub still_of_book : (clock : Ticking) (orders : TableId) (code : Compiled) (limits : Limits) (old new : Seated) (w v : Writing)
    → AreOfBook clock orders code limits old w → IsHolderStill old new → v ≡ w → AreOfBook clock orders code limits new v
still_of_book clock orders code limits old new w v of still writer = (
  record of.0 { holder = new; writer = v },
  still_book clock orders code limits of.0 new v of.1 (subst (λ x. IsHolderStill x new) (sym of.2) still) (writer ∙ sym of.3),
  refl,
  refl,
)

pub still_self : (h : Seated) → IsHolderStill h h
still_self h = record { clock = refl; own = refl; late = refl; known = refl; tasks = refl }

pub still_then : (a b c : Seated) → IsHolderStill a b → IsHolderStill b c → IsHolderStill a c
still_then a b c first then_is =
    record {
      clock = then_is.clock ∙ first.clock;
      own = then_is.own ∙ first.own;
      late = then_is.late ∙ first.late;
      known = then_is.known ∙ first.known;
      tasks = then_is.tasks ∙ first.tasks;
    }

-- what is asked where a job that waited goes out, after the holder was told what it knows
pub record MayGoOut (clock : Ticking) (orders : TableId) (code : Compiled) (h : Seated) (w : Writing) (j : JobNow) (view : View) (held : TaskNow) (at : Strand)
    (table : List Strand) (reader : Reading) (pace : ℕ) : Type 0 where
  pub home : (h.clock ≡ clock.id) × (w.home ≡ orders) × (reader.home ≡ orders)
  pub carried : 0 < carries held.number view.tasks
  pub orders_are : IsSound (events_in (book_of view)) × AreOrders (events_in (book_of view)) w.lists.english.order w.lists.hebrew.order
  pub knew : (known : List (ℕ × Event)) × AreAlike known reader.log × IsPrefix known (book_of view)
  pub strand : IsStrandOf (events_in (book_of view)) at × HasTable (events_in (book_of view)) at.number table
  pub job : MayRelease clock orders code held at table pace view
  pub still : (new : Seated) → new.clock ≡ h.clock → view.late ≡ h.view.late → new.view ≡ after_note held.number view → IsHolderStill h new

book_with : (clock : Ticking) (orders : TableId) (code : Compiled) (limits : Limits) (h : Seated) (w : Writing) (of : AreOfBook clock orders code limits h w)
    → IsBook clock orders code limits (record of.0 { holder = h; writer = w })
book_with clock orders code limits h w of =
    subst (λ x. IsBook clock orders code limits (record of.0 { holder = h; writer = x })) of.3
    (subst (λ x. IsBook clock orders code limits (record of.0 { holder = x })) of.2 of.1)

pub home_of_book : (clock : Ticking) (orders : TableId) (code : Compiled) (limits : Limits) (h : Seated) (w : Writing) → AreOfBook clock orders code limits h w
    → (h.clock ≡ clock.id) × (w.home ≡ orders)
home_of_book clock orders code limits h w of = (book_with clock orders code limits h w of).home

pub may_go_out : (clock : Ticking) (orders : TableId) (code : Compiled) (limits : Limits) (h : Seated) (w : Writing) (j : JobNow) (view : View) (held : TaskNow)
    (at : Strand) (table : List Strand) (reader : Reading) (pace : ℕ) → AreOfBook clock orders code limits h w → IsJob clock orders code j
    → IsJoin h.view j.place.pass.view view → view.own ≡ h.view.own → numbers_of view.own ≡ number_of view ∷ [] → IsFreed code (own_list h.view) j
    → (held ≡ j.task) × (at ≡ j.place.at) × (table ≡ j.place.table) × (reader ≡ j.place.reader) × (pace ≡ 0)
    → MayGoOut clock orders code h w j view held at table reader pace
may_go_out clock orders code limits h w j view held at table reader pace of job join own one freed same =
    let b : BookNow = record of.0 { holder = h; writer = w } in
    let is : IsBook clock orders code limits b = book_with clock orders code limits h w of in
    let known = woken_known clock orders code limits b j view is job join own one in
    let ready : IsReady code (entries_of b) held at table pace view =
    ready_as code (entries_of b) j.task held j.place.at at j.place.table table 0 pace view (woken_ready clock orders code limits b j view is job join own
    one freed)
    same.0 same.1 same.2 same.4 in
    record {
      home = (is.home.0, is.home.1, ap (λ (r : Reading). r.home) same.3 ∙ job.place.orders_is);
      carried = ready_carried code (entries_of b) held at table pace view ready;
      orders_are = ready_orders code b view known.known is.listed;
      knew = reader_knew clock orders j reader view job.place same.3 (subst (λ l. IsPrefix (known_to j) l) (sym known.known) known.begins);
      strand = ready_strand code (entries_of b) held at table pace view ready;
      job = ready_job clock orders code (entries_of b) held at table pace view ready;
      still = λ new clock_is late view_is.
          woken_still clock orders code limits b j view is job join own one new clock_is late
          (view_is ∙ ap (λ (t : TaskNow). after_note t.number view) same.0);
    }

-- ---- one after the other

-- so many of these jobs went on, and stand behind the others
pub record HaveWoken (code : Compiled) (book : List (ℕ × Event)) (n : ℕ) (all jobs : List JobNow) : Type 0 where
  pub before : List JobNow
  pub rest : List JobNow
  pub done : List JobNow
  pub all_are : all ≡ before ++ rest
  pub many : length before ≡ n
  pub jobs_are : jobs ≡ rest ++ done
  pub went : AreWoken before done
  pub freed : AreFreed code book rest

pub none_yet : (code : Compiled) (book : List (ℕ × Event)) (all : List JobNow) → AreFreed code book all → HaveWoken code book 0 all all
none_yet code book all freed =
    record { before = []; rest = all; done = []; all_are = refl; many = refl; jobs_are = sym (append_none all); went = tt; freed = freed }
  where
    append_none : (xs : List JobNow) → xs ++ [] ≡ xs
    append_none [] = refl
    append_none (x ∷ xs) = ap (λ ys. x ∷ ys) (append_none xs)

woken_more : (js ks : List JobNow) (j k : JobNow) → AreWoken js ks → IsWoken j k → AreWoken (js ++ j ∷ []) (ks ++ k ∷ [])
woken_more [] [] j k all one = (one, tt)
woken_more [] (y ∷ ks) j k all one = absurd all
woken_more (x ∷ js) [] j k all one = absurd all
woken_more (x ∷ js) (y ∷ ks) j k all one = (all.0, woken_more js ks j k all.1 one)

pub woken_length : (js ks : List JobNow) → AreWoken js ks → length ks ≡ length js
woken_length [] [] all = refl
woken_length [] (y ∷ ks) all = absurd all
woken_length (x ∷ js) [] all = absurd all
woken_length (x ∷ js) (y ∷ ks) all = let rest = woken_length js ks all.1 in omega (arith, rest)

-- there is a first one, where not all went on
pub first_freed : (code : Compiled) (book : List (ℕ × Event)) (n : ℕ) (all jobs : List JobNow) → HaveWoken code book n all jobs → n < length all
    → IsFirstFreed code book jobs
first_freed code book n all jobs is low = subst (IsFirstFreed code book) (sym is.jobs_are) (go is.rest refl is.freed)
  where
    go : (rest : List JobNow) → is.rest ≡ rest → AreFreed code book rest → IsFirstFreed code book (rest ++ is.done)
    go [] none freed = absurd (
        let whole = ap length is.all_are ∙ length-append is.before is.rest in
        let zero : length is.rest ≡ 0 = ap length none in
        let many = is.many in
        omega (arith, low, whole, zero, many))
    go (j ∷ rest) some freed = freed.0

pub one_more_woken : (code : Compiled) (book : List (ℕ × Event)) (n : ℕ) (all jobs new : List JobNow) → HaveWoken code book n all jobs → n < length all
    → IsFirstWoken jobs new → HaveWoken code book (n + 1) all new
one_more_woken code book n all jobs new is low first = go is.rest refl is.freed (subst (λ js. IsFirstWoken js new) is.jobs_are first)
  where
    go : (rest : List JobNow) → is.rest ≡ rest → AreFreed code book rest → IsFirstWoken (is.rest ++ is.done) new → HaveWoken code book (n + 1) all new
    go [] none freed woke = absurd (
        let whole = ap length is.all_are ∙ length-append is.before is.rest in
        let zero : length is.rest ≡ 0 = ap length none in
        let many = is.many in
        omega (arith, low, whole, zero, many))
    go (j ∷ rest) some freed woke =
        let now : IsFirstWoken (j ∷ (rest ++ is.done)) new = subst (λ (js : List JobNow). IsFirstWoken (js ++ is.done) new) some woke in
        let last = length-append is.before (j ∷ []) in
        let many = is.many in
        record {
          before = is.before ++ j ∷ [];
          rest = rest;
          done = is.done ++ now.0 ∷ [];
          all_are = is.all_are ∙ ap (λ (js : List JobNow). is.before ++ js) some ∙ sym (append_assoc is.before (j ∷ []) rest);
          many = omega (arith, last, many);
          jobs_are = now.2 ∙ append_assoc rest is.done (now.0 ∷ []);
          went = woken_more is.before is.done j now.0 is.went now.1;
          freed = freed.1;
        }

-- all went on
pub all_woken : (code : Compiled) (book : List (ℕ × Event)) (all jobs : List JobNow) → HaveWoken code book (length all) all jobs → AreWoken all jobs
all_woken code book all jobs is = go is.rest refl
  where
    append_none : (xs : List JobNow) → xs ++ [] ≡ xs
    append_none [] = refl
    append_none (x ∷ xs) = ap (λ ys. x ∷ ys) (append_none xs)

    go : (rest : List JobNow) → is.rest ≡ rest → AreWoken all jobs
    go [] none =
        let before : is.before ≡ all = sym (is.all_are ∙ ap (λ (js : List JobNow). is.before ++ js) none ∙ append_none is.before) in
        let done : is.done ≡ jobs = sym (is.jobs_are ∙ ap (λ (js : List JobNow). js ++ is.done) none) in
        subst (λ js. AreWoken js jobs) before (subst (AreWoken is.before) done is.went)
    go (j ∷ rest) some = absurd (
        let whole = ap length is.all_are ∙ length-append is.before is.rest in
        let more = ap length some in
        let many = is.many in
        omega (arith, whole, more, many))

pub woken_none : (c : Counted) → c ≡ woken_by 0 c
woken_none c =
    let r : c.running ≡ c.running + 0 = omega arith in
    let w : c.waiting ≡ c.waiting - 0 = omega arith in
    let g : c.given ≡ c.given + 0 = omega arith in
    ap (λ n. record c { running = n }) r ∙ ap (λ n. record c { running = c.running + 0; waiting = n }) w
    ∙ ap (λ n. record c { running = c.running + 0; waiting = c.waiting - 0; given = n }) g

pub woken_next : (n : ℕ) (c : Counted) → woken (woken_by n c) ≡ woken_by (n + 1) c
woken_next n c =
    let r : (c.running + n) + 1 ≡ c.running + (n + 1) = omega arith in
    let w : (c.waiting - n) - 1 ≡ c.waiting - (n + 1) = omega arith in
    let g : (c.given + n) + 1 ≡ c.given + (n + 1) = omega arith in
    ap (λ m. record c { running = m; waiting = (c.waiting - n) - 1; given = (c.given + n) + 1 }) r
    ∙ ap (λ m. record c { running = c.running + (n + 1); waiting = m; given = (c.given + n) + 1 }) w
    ∙ ap (λ m. record c { running = c.running + (n + 1); waiting = c.waiting - (n + 1); given = m }) g

pub handed_none : (h : Handed) → h ≡ handed 0 h
handed_none h = let g : h.given ≡ h.given + 0 = omega arith in ap (λ n. record h { given = n }) g

pub handed_next : (n : ℕ) (h : Handed) → handed 1 (handed n h) ≡ handed (n + 1) h
handed_next n h = let g : (h.given + n) + 1 ≡ h.given + (n + 1) = omega arith in ap (λ m. record h { given = m }) g

-- a worker whose job came in, and to which then so many went out
pub turned_by : (n m : ℕ) (h : Handed) → m ≡ n → handed n (turned 0 h) ≡ turned m h
turned_by n m h same = let g : (h.given + 0) + n ≡ h.given + m = omega (arith, same) in ap (λ x. record { given = x; taken = h.taken + 1 }) g

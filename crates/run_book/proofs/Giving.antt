-- The book's holder gives a task out.
use Rattle.std.specs.Prelude.{Some}
use Rattle.std.proofs.Common.{◌≡◌, ℕ, ◌<◌, ◌≤◌, List, [], ◌∷◌, ◌++◌, inl, refl, sym, ap, ◌∙◌, subst, arith}
use Rattle.atomic_table.specs.Seated.{TableId}
use Rattle.fut_base.specs.declared.event.Event.{Event}
use Rattle.fut_base.specs.Sound.{IsSound, current}
use Rattle.fut_syntax.specs.Trees as tree
use Rattle.fut_check.specs.Items.{IsWellTyped}
use Rattle.strand_tree.specs.declared.strand.Strand.{Strand}
use Rattle.strand_tree.specs.Placing.{AreOrders, IsStrandOf}
use Rattle.reach_table.specs.Telling.{HasTable}
use Rattle.task_code.specs.Flat.{Compiled, IsCodeOf}
use Rattle.task_code.specs.Tasks.{TaskNow}
use Rattle.event_clock.specs.declared.view.View.{View}
use Rattle.event_clock.specs.declared.view.Carried.{Carried}
use Rattle.event_clock.specs.Views.{carries, only_task, without_task}
use Rattle.event_clock.specs.Seated.{Ticking}
use Rattle.event_clock.proofs.Lists.{carries_among, carries_cut}
use Rattle.event_clock.specs.Rule.{IsPrefix}
use Rattle.order_query.specs.Reading.{Reading}
use Rattle.run_place.specs.Placed.{IsPlace, AreAlike, book_of, events_in}
use Rattle.run_book.specs.Drawn.{drawn_of, past_in}
use Rattle.run_book.specs.Jobs.{JobNow, FitsProgram, IsStarted, IsTraceBy, IsFree, MayWait, Stands, IsTaskIn, MayRelease, known_to}
use Rattle.run_book.specs.Books.{BookNow, IsListed, entries_of}
use Rattle.run_book.proofs.Knowing.{IsKnown}
use Rattle.run_book.proofs.Carrying.{carried_task, only_last}

-- a holder with this view has the task, of which this holds by what the holder knows
pub record IsReady (code : Compiled) (book : List (ℕ × Event)) (task : TaskNow) (at : Strand) (table : List Strand) (pace : ℕ) (view : View) : Type 0 where
  pub known : book_of view ≡ book
  pub sound : IsSound (events_in book)
  pub fits : (P : tree.Program) → IsWellTyped P → IsCodeOf P code → FitsProgram P (events_in book)
  pub holds : IsTaskIn code book task at table pace
  pub carried : only_task task.number view.tasks ≡ carried_task task.number (drawn_of task.trace.items) ∷ []

-- it carries the task
pub ready_carried : (code : Compiled) (book : List (ℕ × Event)) (task : TaskNow) (at : Strand) (table : List Strand) (pace : ℕ) (view : View)
    → IsReady code book task at table pace view → 0 < carries task.number view.tasks
ready_carried code book task at table pace view is =
    let mine = carried_task task.number (drawn_of task.trace.items) in
    let cut = carries_cut task.number task.number view.tasks in
    let some : 0 < carries task.number (only_task task.number view.tasks) =
    subst (λ cs. 0 < carries task.number cs) (sym is.carried) (carries_among mine (mine ∷ []) (inl refl)) in
    omega (arith, cut, some)

-- its strand and its table are those of what is known
pub ready_strand : (code : Compiled) (book : List (ℕ × Event)) (task : TaskNow) (at : Strand) (table : List Strand) (pace : ℕ) (view : View)
    → IsReady code book task at table pace view → IsStrandOf (events_in (book_of view)) at × HasTable (events_in (book_of view)) at.number table
ready_strand code book task at table pace view is =
    subst (λ l. IsStrandOf (events_in l) at × HasTable (events_in l) at.number table) (sym is.known) is.holds.placed

-- with a note of the holder it is a job
pub ready_job : (clock : Ticking) (orders : TableId) (code : Compiled) (book : List (ℕ × Event)) (task : TaskNow) (at : Strand) (table : List Strand) (pace : ℕ)
    (view : View) → IsReady code book task at table pace view → MayRelease clock orders code task at table pace view
ready_job clock orders code book task at table pace view is = λ reader place. record {
  program = is.holds.program;
  running = is.holds.running;
  unended = is.holds.unended;
  carried = is.carried;
  fits = subst (λ l. (P : tree.Program) → IsWellTyped P → IsCodeOf P code → FitsProgram P (events_in l)) (sym is.known) is.fits;
  started = subst (λ l. IsStarted code l task) (sym is.known) is.holds.started;
  trace = subst (λ l. IsTraceBy l task.number (drawn_of task.trace.items)) (sym is.known) is.holds.trace;
  place = place;
  strand = subst (λ l. current (past_in l) task.number ≡ Some at.number) (sym is.known) is.holds.strand;
  few = is.holds.few;
  paced = subst (λ l. pace ≡ 0 → Stands code task (λ P w. MayWait w × IsFree (past_in l) task.number w)) (sym is.known) is.holds.paced;
}

-- the lists of a writer are the orders of what is known
pub ready_orders : (code : Compiled) (b : BookNow) (view : View) → book_of view ≡ entries_of b → IsListed code b
    → IsSound (events_in (book_of view)) × AreOrders (events_in (book_of view)) b.writer.lists.english.order b.writer.lists.hebrew.order
ready_orders code b view known is =
    subst (λ l. IsSound (events_in l) × AreOrders (events_in l) b.writer.lists.english.order b.writer.lists.hebrew.order) (sym known) (is.sound, is.orders)

-- a job's task is ready when the holder was told what the job knows, also where the holder drew nothing
pub known_ready : (code : Compiled) (b : BookNow) (j : JobNow) (view after : View) → IsListed code b → IsKnown code (entries_of b) j b.holder.view.tasks view
    → book_of after ≡ book_of view → after.tasks ≡ view.tasks → IsReady code (entries_of b) j.task j.place.at j.place.table j.pace after
known_ready code b j view after listed is known tasks =
    record {
      known = known ∙ is.known;
      sound = listed.sound;
      fits = listed.fits;
      holds = is.task;
      carried =
          ap (λ cs. only_task j.task.number cs) (tasks ∙ is.tasks_are)
          ∙ only_last j.task.number b.holder.view.tasks (drawn_of j.task.trace.items) is.apart;
    }

-- parts that are equal are ready, too
pub ready_as : (code : Compiled) (book : List (ℕ × Event)) (task held : TaskNow) (at stands : Strand) (table reach : List Strand) (pace kept : ℕ) (view : View)
    → IsReady code book task at table pace view → held ≡ task → stands ≡ at → reach ≡ table → kept ≡ pace → IsReady code book held stands reach kept view
ready_as code book task held at stands table reach pace kept view is a b c d =
    subst (λ x. IsReady code book x stands reach kept view) (sym a)
    (subst (λ x. IsReady code book task x reach kept view) (sym b)
    (subst (λ x. IsReady code book task at x kept view) (sym c) (subst (λ x. IsReady code book task at table x view) (sym d) is)))

-- what a job's reader knew is a beginning of what the holder knows
pub reader_knew : (clock : Ticking) (orders : TableId) (j : JobNow) (reader : Reading) (view : View) → IsPlace clock orders j.place → reader ≡ j.place.reader
    → IsPrefix (known_to j) (book_of view) → (known : List (ℕ × Event)) × AreAlike known reader.log × IsPrefix known (book_of view)
reader_knew clock orders j reader view is same begins =
    (known_to j, subst (λ (r : Reading). AreAlike (known_to j) r.log) (sym same) is.alike, begins)

-- A job that the book's holder has, and how it is given out.
use Rattle.std.proofs.Common.{◌≡◌, ℕ, ◌<◌, List, [], ◌∷◌, ◌++◌, refl, sym, ap, ◌∙◌, subst}
use Rattle.atomic_table.specs.Seated.{TableId}
use Rattle.fut_base.specs.declared.record.Limits.{Limits}
use Rattle.fut_base.specs.declared.event.Event.{Event}
use Rattle.fut_base.specs.Sound.{IsSound}
use Rattle.task_code.specs.Flat.{Compiled}
use Rattle.task_code.specs.Tasks.{TaskNow}
use Rattle.event_clock.specs.declared.view.View.{View}
use Rattle.event_clock.specs.Views.{carries, numbers_of, number_of, without_task, after_note}
use Rattle.event_clock.specs.Rule.{IsJoin, IsPrefix}
use Rattle.event_clock.specs.Seated.{Ticking, Seated}
use Rattle.order_query.specs.Reading.{Reading, Writing}
use Rattle.strand_tree.specs.declared.strand.Strand.{Strand}
use Rattle.strand_tree.specs.Placing.{AreOrders, IsStrandOf}
use Rattle.reach_table.specs.Telling.{HasTable}
use Rattle.run_place.specs.Placed.{AreAlike, book_of, events_in}
use Rattle.run_book.specs.Jobs.{JobNow, IsJob, MayRelease, known_to}
use Rattle.run_book.specs.Books.{BookNow, IsBook, entries_of}
use Rattle.run_book.proofs.Knowing.{IsKnown, job_known}
use Rattle.run_book.proofs.Giving.{IsReady, ready_as, known_ready, ready_carried, ready_strand, ready_job, ready_orders, reader_knew}
use Rattle.run_book.proofs.Turning.{turned_book}

-- the parts of a job that the holder of a book has: the holder has this view now, and the parts are those of the job
pub record HasJob (clock : Ticking) (orders : TableId) (code : Compiled) (limits : Limits) (b : BookNow) (j : JobNow) (v : View)
    (task : TaskNow) (at : Strand) (reach : List Strand) (pace : ℕ) (reader : Reading) : Type 0 where
  pub is : IsBook clock orders code limits b
  pub job : IsJob clock orders code j
  pub known : IsKnown code (entries_of b) j b.holder.view.tasks v
  pub begins : IsPrefix (known_to j) (book_of v)
  pub own : v.own ≡ b.holder.view.own
  pub same : (task ≡ j.task) × (at ≡ j.place.at) × (reach ≡ j.place.table) × (pace ≡ j.pace) × (reader ≡ j.place.reader)

pub has_job : (clock : Ticking) (orders : TableId) (code : Compiled) (limits : Limits) (b : BookNow) (j : JobNow) (v : View)
    (task : TaskNow) (at : Strand) (reach : List Strand) (pace : ℕ) (reader : Reading)
    → IsBook clock orders code limits b → IsJob clock orders code j → IsJoin b.holder.view j.place.pass.view v → v.own ≡ b.holder.view.own
    → numbers_of v.own ≡ number_of v ∷ [] → (task ≡ j.task) × (pace ≡ j.pace) → (at ≡ j.place.at) × (reach ≡ j.place.table) × (reader ≡ j.place.reader)
    → HasJob clock orders code limits b j v task at reach pace reader
has_job clock orders code limits b j v task at reach pace reader is job told own one tasks places =
    record {
      is = is;
      job = job;
      known = job_known clock orders code limits b j v is job told own one;
      begins = told.second 0;
      own = own;
      same = (tasks.0, places.0, places.1, tasks.1, places.2);
    }

module _ {clock : Ticking} {orders : TableId} {code : Compiled} {limits : Limits} {b : BookNow} {j : JobNow} {v : View} {task : TaskNow} {at : Strand}
    {reach : List Strand} {pace : ℕ} {reader : Reading} (h : HasJob clock orders code limits b j v task at reach pace reader) where
  -- it is ready, also where the holder knows and carries the same by another view
  pub held_ready : (u : View) → book_of u ≡ book_of v → u.tasks ≡ v.tasks → IsReady code (entries_of b) task at reach pace u
  held_ready u book tasks =
      ready_as code (entries_of b) j.task task j.place.at at j.place.table reach j.pace pace u (known_ready code b j v u h.is.listed h.known book tasks)
      h.same.0 h.same.1 h.same.2 h.same.3

  pub held_carried : (u : View) → book_of u ≡ book_of v → u.tasks ≡ v.tasks → 0 < carries task.number u.tasks
  held_carried u book tasks = ready_carried code (entries_of b) task at reach pace u (held_ready u book tasks)

  pub held_strand : (u : View) → book_of u ≡ book_of v → u.tasks ≡ v.tasks
      → IsStrandOf (events_in (book_of u)) at × HasTable (events_in (book_of u)) at.number reach
  held_strand u book tasks = ready_strand code (entries_of b) task at reach pace u (held_ready u book tasks)

  pub held_job : (u : View) → book_of u ≡ book_of v → u.tasks ≡ v.tasks → MayRelease clock orders code task at reach pace u
  held_job u book tasks = ready_job clock orders code (entries_of b) task at reach pace u (held_ready u book tasks)

  pub held_knew : (u : View) → book_of u ≡ book_of v
      → (known : List (ℕ × Event)) × AreAlike known reader.log × IsPrefix known (book_of u)
  held_knew u book = reader_knew clock orders j reader u h.job.place h.same.4 (subst (λ l. IsPrefix (known_to j) l) (sym book) h.begins)

  pub held_orders : (u : View) → book_of u ≡ book_of v
      → IsSound (events_in (book_of u)) × AreOrders (events_in (book_of u)) b.writer.lists.english.order b.writer.lists.hebrew.order
  held_orders u book = ready_orders code b u (book ∙ h.known.known) h.is.listed

  -- the book when it was given out with no event, by a view that has what the holder had
  pub given_book : (out : Seated) (w : Writing) (u : View) → u.own ≡ v.own → u.known ≡ v.known → u.tasks ≡ v.tasks → out.clock ≡ b.holder.clock
      → out.view ≡ after_note task.number u → w ≡ b.writer → IsBook clock orders code limits (record b { holder = out; writer = w })
  given_book out w u own known tasks clock_is view_is writer =
      let number : task.number ≡ j.task.number = ap (λ (t : TaskNow). t.number) h.same.0 in
      turned_book clock orders code limits b j v out w h.is h.known h.own
      (record {
        clock = clock_is;
        own = ap (λ (x : View). x.own) view_is ∙ own;
        known = ap (λ (x : View). x.known) view_is ∙ known;
        tasks = ap (λ (x : View). x.tasks) view_is ∙ ap (λ cs. without_task task.number cs) tasks ∙ ap (λ n. without_task n v.tasks) number;
      })
      writer

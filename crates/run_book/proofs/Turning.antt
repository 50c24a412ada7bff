-- The book after a call in which no event was made.
use Rattle.std.proofs.Common.{◌≡◌, ℕ, ◌+◌, ◌*◌, ◌<◌, ◌≤◌, List, [], ◌∷◌, ◌++◌, length, refl, sym, ap, ◌∙◌, subst}
use Rattle.std.specs.Prelude.{◌↔◌, Some, slice_get}
use Rattle.std.proofs.lemmas.List.{append-nil}
use Rattle.atomic_table.specs.Seated.{TableId}
use Rattle.fut_base.specs.declared.event.Event.{Event}
use Rattle.fut_base.specs.declared.record.Limits.{Limits}
use Rattle.fut_base.specs.declared.record.Finish.TheVariants as finish
use Rattle.fut_base.specs.Dag.{Among}
use Rattle.fut_base.specs.Sound.{IsSound, next_task}
use Rattle.fut_syntax.specs.Trees as tree
use Rattle.fut_check.specs.Items.{IsWellTyped}
use Rattle.task_machine.specs.Machine.{create_count}
use Rattle.task_code.specs.Flat.{Compiled, IsCodeOf}
use Rattle.strand_tree.specs.Placing.{AreOrders}
use Rattle.event_clock.specs.declared.view.View.{View}
use Rattle.event_clock.specs.declared.view.Carried.{Carried}
use Rattle.event_clock.specs.declared.view.Size.{Size}
use Rattle.event_clock.specs.declared.clock.Drawn.TheVariants.{Spent}
use Rattle.event_clock.specs.Views.{first_entries, first_number, own_list, list_at, carries, without_task, after_note, noted, turned_away}
use Rattle.event_clock.specs.Rule.{IsPrefix, IsJoin, Rises}
use Rattle.event_clock.specs.Seated.{Ticking, Seated, IsDraw}
use Rattle.event_clock.proofs.Lists.{prefix_self}
use Rattle.order_query.specs.declared.view.Insert.{Insert}
use Rattle.order_query.specs.Logs.{StartsWith}
use Rattle.order_query.specs.Reading.{Writing}
use Rattle.run_counts.specs.Counted.{Handed}
use Rattle.run_place.specs.Placed.{Placed, book_of, events_in}
use Rattle.run_book.specs.Drawn.{drawn_of, past_in}
use Rattle.run_book.specs.Jobs.{JobNow, FitsProgram, IsFree, Stands}
use Rattle.run_book.specs.Lines.{LineNow, IsLineOf}
use Rattle.run_book.specs.Books.{BookNow, IsBook, IsEndedTrace, carried_by, traces_of, entries_of}
use Rattle.run_book.specs.Steps.{IsBack, IsSameTask, IsSpent, IsRefused}
use Rattle.run_book.proofs.Knowing.{IsKnown}
use Rattle.run_book.proofs.Carrying.{without_last}

-- a book whose holder has the same entries, knows them, and carries the same tasks
pub held_book : (clock : Ticking) (orders : TableId) (code : Compiled) (limits : Limits) (b : BookNow) (h : Seated) (w : Writing)
    → IsBook clock orders code limits b → h.clock ≡ b.holder.clock → h.view.own ≡ b.holder.view.own → book_of h.view ≡ entries_of b
    → h.view.tasks ≡ b.holder.view.tasks → w ≡ b.writer → IsBook clock orders code limits (record b { holder = h; writer = w })
held_book clock orders code limits b h w is clock_is own known tasks writer =
    let same : own_list h.view ≡ entries_of b = ap first_entries own in
    record {
      home = (clock_is ∙ is.home.0, ap (λ (x : Writing). x.home) writer ∙ is.home.1);
      first_holder = ap first_number own ∙ is.first_holder;
      limits_are = is.limits_are;
      within = subst (λ l. length l ≤ limits.events) (sym same) is.within;
      small = is.small;
      creates_few = is.creates_few;
      room = subst (λ (x : Writing). 2 * limits.events + 1 ≤ length x.lists.english.order + x.lists.english.room) (sym writer) is.room;
      listed = record {
        sound = subst (λ l. IsSound (events_in l)) (sym same) is.listed.sound;
        fits = subst (λ l. (P : tree.Program) → IsWellTyped P → IsCodeOf P code → FitsProgram P (events_in l)) (sym same) is.listed.fits;
        known = known ∙ sym same;
        rises = subst Rises (sym same) is.listed.rises;
        tasks = is.listed.tasks ∙ ap (λ l. next_task (past_in l)) (sym same);
        lines = subst (λ l. (t : ℕ) (x : LineNow) → slice_get b.lines t ≡ Some x → IsLineOf code l t x) (sym same) is.listed.lines;
        orders =
            subst (λ (x : Writing). AreOrders (events_in (own_list h.view)) x.lists.english.order x.lists.hebrew.order) (sym writer)
            (subst (λ l. AreOrders (events_in l) b.writer.lists.english.order b.writer.lists.hebrew.order) (sym same) is.listed.orders);
        creates = is.listed.creates ∙ ap (λ l. create_count (events_in l)) (sym same);
      };
      carried = tasks ∙ is.carried;
      once = λ t. subst (λ cs. carries t cs ≤ 1) (sym tasks) (is.once t);
      ended = λ trace a. subst (λ l. IsEndedTrace code l trace) (sym same) (is.ended trace a);
      counted = record { events = is.counted.events ∙ ap length (sym same); waiting = is.counted.waiting; running = is.counted.running; rest = is.counted.rest };
      is_new = λ pace e. let n = is.is_new pace e in (same ∙ n.0, n.1, n.2);
    }

-- a holder that was told what a job knows, drew nothing, and gave the job's task out again
pub record HasTurned (b : BookNow) (j : JobNow) (told : View) (h : Seated) : Type 0 where
  pub clock : h.clock ≡ b.holder.clock
  pub own : h.view.own ≡ told.own
  pub known : h.view.known ≡ told.known
  pub tasks : h.view.tasks ≡ without_task j.task.number told.tasks

pub turned_book : (clock : Ticking) (orders : TableId) (code : Compiled) (limits : Limits) (b : BookNow) (j : JobNow) (told : View) (h : Seated) (w : Writing)
    → IsBook clock orders code limits b → IsKnown code (entries_of b) j b.holder.view.tasks told → told.own ≡ b.holder.view.own → HasTurned b j told h
    → w ≡ b.writer → IsBook clock orders code limits (record b { holder = h; writer = w })
turned_book clock orders code limits b j told h w is known own turned writer =
    held_book clock orders code limits b h w is turned.clock (turned.own ∙ own) (ap (λ k. list_at k 0) turned.known ∙ known.known)
    (turned.tasks ∙ ap (λ cs. without_task j.task.number cs) known.tasks_are
    ∙ without_last j.task.number b.holder.view.tasks (drawn_of j.task.trace.items) known.apart)
    writer

-- where the draw was turned away, and where there was none
pub turned_spent : (size : Size) (e : Event) (b : BookNow) (j : JobNow) (told drew h : Seated) (t : ℕ) → told.clock ≡ b.holder.clock → drew.clock ≡ told.clock
    → IsDraw size e told.view (Spent t) drew.view → h.clock ≡ drew.clock → h.view ≡ after_note j.task.number drew.view → HasTurned b j told.view h
turned_spent size e b j told drew h t told_clock drew_clock draw clock_is view_is =
    let away : h.view ≡ after_note j.task.number (turned_away told.view) = view_is ∙ ap (λ v. after_note j.task.number v) draw.1 in
    record {
      clock = clock_is ∙ drew_clock ∙ told_clock;
      own = ap (λ (v : View). v.own) away;
      known = ap (λ (v : View). v.known) away;
      tasks = ap (λ (v : View). v.tasks) away;
    }

pub turned_none : (b : BookNow) (j : JobNow) (told h : Seated) → told.clock ≡ b.holder.clock → h.clock ≡ told.clock → h.view ≡ after_note j.task.number told.view
    → HasTurned b j told.view h
turned_none b j told h told_clock clock_is view_is =
    record {
      clock = clock_is ∙ told_clock;
      own = ap (λ (v : View). v.own) view_is;
      known = ap (λ (v : View). v.known) view_is;
      tasks = ap (λ (v : View). v.tasks) view_is;
    }

-- a job that was held, of which the task is as it was but for room and local steps, and then given out with the same strand, table and pace
pub given_back : (first held back : JobNow) (v after told : View) → IsSameTask first.task held.task → held.place ≡ first.place → held.pace ≡ first.pace
    → IsJoin v held.place.pass.view told → after.known ≡ told.known → IsSameTask held.task back.task → back.place.at ≡ held.place.at
    → back.place.table ≡ held.place.table → back.pace ≡ held.pace → back.place.pass.view ≡ noted held.task.number after
    → StartsWith back.place.reader.log held.place.reader.log → IsBack first back
given_back first held back v after told same place pace join known task at table kept pass reader =
    let known_is : back.place.pass.view.known ≡ told.known = ap (λ (x : View). x.known) pass ∙ known in
    record {
      task = record { number = task.number ∙ same.number; which = task.which ∙ same.which; trace = task.trace ∙ same.trace };
      strand = at ∙ ap (λ (p : Placed). p.at) place;
      table = table ∙ ap (λ (p : Placed). p.table) place;
      pace = kept ∙ pace;
      pass = λ n.
          subst (λ (p : Placed). IsPrefix (list_at p.pass.view.known n) (list_at back.place.pass.view.known n)) place
          (subst (λ k. IsPrefix (list_at held.place.pass.view.known n) (list_at k n)) (sym known_is) (join.second n));
      reader = subst (λ (p : Placed). StartsWith back.place.reader.log p.reader.log) place reader;
    }

starts_self : (log : List Insert) → StartsWith log log
starts_self log = ([], sym (append-nil log))

-- a job that was not held
pub kept_back : (first back : JobNow) → IsSameTask first.task back.task → back.place ≡ first.place → back.pace ≡ first.pace → IsBack first back
kept_back first back same place pace =
    record {
      task = same;
      strand = ap (λ (p : Placed). p.at) place;
      table = ap (λ (p : Placed). p.table) place;
      pace = pace;
      pass = λ n. subst (λ (p : Placed). IsPrefix (list_at first.place.pass.view.known n) (list_at p.pass.view.known n)) (sym place) (prefix_self (list_at first.place.pass.view.known n));
      reader = subst (λ (p : Placed). StartsWith p.reader.log first.place.reader.log) (sym place) (starts_self first.place.reader.log);
    }

-- what the call answers then
pub spent_arm : (code : Compiled) (limits : Limits) (size : Size) (e : Event) (b : BookNow) (t n : ℕ) (told drew h : Seated) (w : Writing) (hand : Handed)
    (job back : JobNow) → b.limits ≡ limits → told.view.own ≡ b.holder.view.own → IsDraw size e told.view (Spent n) drew.view
    → h.view ≡ after_note t drew.view → IsBack job back → Stands code job.task (λ P w. IsFree (past_in (entries_of b)) job.task.number w)
    → IsSpent code limits.events b (record b { holder = h; writer = w }) hand hand job back (finish.Events b.limits.events)
spent_arm code limits size e b t n told drew h w hand job back limits_are own draw view_is is free =
    let away : h.view ≡ after_note t (turned_away told.view) = view_is ∙ ap (λ v. after_note t v) draw.1 in
    record {
      finish_is = ap (λ (x : Limits). finish.Events x.events) limits_are;
      still = record { entries = ap (λ (v : View). own_list v) away ∙ ap first_entries own; counts = refl; hand = refl };
      back_is = is;
      late = ap (λ (v : View). v.late) away;
      free = free;
    }

pub refused_arm : (b : BookNow) (t : ℕ) (told h : Seated) (w : Writing) (hand : Handed) (job back : JobNow) → told.view.own ≡ b.holder.view.own
    → h.view ≡ after_note t told.view → IsBack job back → IsRefused b (record b { holder = h; writer = w }) hand hand job back
refused_arm b t told h w hand job back own view_is is =
    record { still = record { entries = ap (λ (v : View). own_list v) view_is ∙ ap first_entries own; counts = refl; hand = refl }; back_is = is }

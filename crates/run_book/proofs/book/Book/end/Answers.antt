use Rattle.std.specs.Prelude.{Some, None, slice_get}
use Rattle.std.specs.Vec.{with_items}
use Rattle.std.proofs.lemmas.List.{with_items_is}
use Rattle.std.proofs.Common.{◌≡◌, ◌≢◌, ℕ, ◌<◌, ◌≤◌, [], ◌∷◌, ◌++◌, length, subst, ap, sym, refl, ◌∙◌, arith}
use Rattle.fut_base.specs.Events.{event_of}
use Rattle.fut_base.specs.declared.event.Action.TheVariants.{Ends}
use Rattle.task_machine.specs.State.{ToEnd}
use Rattle.task_code.specs.Flat.{IsCodeOf}
use Rattle.task_code.specs.Tasks.{TaskNow, IsTaskOf, IsSomeTask}
use Rattle.event_clock.specs.declared.view.View.{View}
use Rattle.event_clock.specs.Views.{after_note, noted, first_entries}
use Rattle.event_clock.specs.Seated.{Ticking}
use Rattle.order_query.specs.Logs.{StartsWith}
use Rattle.order_query.specs.Reading.{Reading}
use Rattle.fut_base.specs.declared.record.Finish.TheVariants as finish
use Rattle.run_book.specs.Drawn.{past_in}
use Rattle.run_book.specs.Waking.{woken_by, handed}
use Rattle.run_book.specs.Lines.{LineNow}
use Rattle.run_book.specs.Turns.{parent_of, after_end}
use Rattle.strand_tree.specs.declared.strand.Strand.{Strand}
use Rattle.run_counts.specs.Counted.{Counted}
use Rattle.run_book.specs.Jobs.{JobNow, IsFree, Stands, known_to}
use Rattle.run_book.specs.Books.{BookNow, IsBook, entries_of, wait_for}
use Rattle.run_book.specs.Steps.{IsSameTask, IsBack, IsSpent, AreWoken, WishesEnd, IsRefused, HasEnded}
use Rattle.run_book.proofs.Advancing.{HasAdvanced, is_some_task, job_advanced, HasRoomNow, job_reserved, stands_advanced, stands_same}
use Rattle.run_book.proofs.Turning.{given_back, kept_back, spent_arm}
use Rattle.run_book.proofs.Parking.{stands_as}
use Rattle.run_book.proofs.Stranding.{event_at}
use Rattle.run_book.proofs.Waking.{still_book, woken_length, turned_by}
use Rattle.run_book.proofs.Over.{end_drawn}
use Rattle.run_book.proofs.Finale.{ends_with, stands_end, has_ended, known_of, end_asks, goes_out, spent_book, end_room, went_line, went_parent}
use Rattle.run_book.proofs.Finale.{went_few, went_freed, went_entries, went_book}
use Rattle.run_book.proofs.book.Book.end.Goals as goal

pub advance-requires-clause-running : goal.advance-requires-clause-running
advance-requires-clause-running g c =
    c.job.invariant.running

pub advance-requires-clause-task : goal.advance-requires-clause-task
advance-requires-clause-task g c =
    subst (λ k. IsSomeTask k c.job.inside.task) (sym c.requires.run.2) (is_some_task g.J.Run.clock g.J.Run.orders g.J.Run.code _ c.job.invariant)

pub advance-requires-clause-most : goal.advance-requires-clause-most
advance-requires-clause-most g c =
    omega arith

pub unreachable-requires : goal.unreachable-requires
unreachable-requires g c =
    let old : JobNow = record { task = c.job.inside.task; place = c.job.inside.place; pace = c.job.inside.pace } in
    let view : old ≡ c.args.job = c.job.view_is in
    let w = ends_with g.J.Run.clock g.J.Run.orders g.J.Run.code old c.advance.result c.job.invariant
    (subst (WishesEnd g.J.Run.code) (sym view) c.requires.wish) (λ P args s of x.
    c.advance.ensures.wish P args s (subst (IsCodeOf P) (sym c.requires.run.2) of)
    (subst (λ k. IsTaskOf P k args c.job.inside.task s) (sym c.requires.run.2) x)) in
    c.in_default.not-End w.0 w.1

pub unreachable-unreachable : goal.unreachable-unreachable
unreachable-unreachable g c =
    c.unreachable.result

pub invariant_of-job : goal.invariant_of-job
invariant_of-job g c =
    let old : JobNow = record { task = c.job.inside.task; place = c.job.inside.place; pace = c.job.inside.pace } in
    let e = c.advance.ensures in
    let adv : HasAdvanced g.J.Run.code c.job.inside.task c.advance.new.self =
    subst (λ k. HasAdvanced k c.job.inside.task c.advance.new.self) c.requires.run.2
    (record { number = e.task.0; which = e.task.1; running = e.task.2; trace = e.trace; state = e.state; still = c.in-End.ensures.stops }) in
    job_advanced g.J.Run.clock g.J.Run.orders g.J.Run.code old c.advance.new.self c.job.invariant adv

pub same-self : goal.same-self
same-self g c =
    refl

pub returns-then-running-eq0 : goal.returns-then-running-eq0
returns-then-running-eq0 g c =
    let old : JobNow = record { task = c.job.inside.task; place = c.job.inside.place; pace = c.job.inside.pace } in
    let aj : JobNow = record { task = c.advance.new.self; place = c.job.inside.place; pace = c.job.inside.pace } in
    let e = c.advance.ensures in
    let view : old ≡ c.args.job = c.job.view_is in
    let same_a : IsSameTask c.args.job.task c.advance.new.self =
    record {
      number = e.task.0 ∙ ap (λ (j : JobNow). j.task.number) view;
      which = e.task.1 ∙ ap (λ (j : JobNow). j.task.which) view;
      trace = ap (λ t. t.items) e.trace ∙ ap (λ (j : JobNow). j.task.trace.items) view;
    } in
    let place = ap (λ (j : JobNow). j.place) view in
    let pace = ap (λ (j : JobNow). j.pace) view in
    record {
      still = record { entries = refl; counts = refl; hand = refl };
      back_is = kept_back c.args.job aj same_a place pace;
    }

pub invariant_of-job-in_default-reserve : goal.invariant_of-job-in_default-reserve
invariant_of-job-in_default-reserve g c =
    let old : JobNow = record { task = c.job.inside.task; place = c.job.inside.place; pace = c.job.inside.pace } in
    let e = c.advance.ensures in
    let adv : HasAdvanced g.J.Run.code c.job.inside.task c.advance.new.self =
    subst (λ k. HasAdvanced k c.job.inside.task c.advance.new.self) c.requires.run.2
    (record { number = e.task.0; which = e.task.1; running = e.task.2; trace = e.trace; state = e.state; still = c.in-End.ensures.stops }) in
    job_advanced g.J.Run.clock g.J.Run.orders g.J.Run.code old c.advance.new.self c.job.invariant adv

pub invariant_of-self : goal.invariant_of-self
invariant_of-self g c =
    let b : BookNow = record {
      limits = c.self.inside.limits;
      holder = c.self.inside.holder;
      writer = c.self.inside.writer;
      lines = c.self.inside.lines.items;
      traces = c.self.inside.traces.items;
      creates = c.self.inside.creates;
      counts = c.self.inside.counts;
      first = c.self.inside.first;
    } in
    subst (λ ts. IsBook g.J.Run.clock g.J.Run.orders g.J.Run.code g.J.Run.limits (record b { traces = ts })) (sym c.reserve.ensures.items) c.self.invariant

pub returns-in_default-reserve : goal.returns-in_default-reserve
returns-in_default-reserve g c =
    let b : BookNow = record {
      limits = c.self.inside.limits;
      holder = c.self.inside.holder;
      writer = c.self.inside.writer;
      lines = c.self.inside.lines.items;
      traces = c.self.inside.traces.items;
      creates = c.self.inside.creates;
      counts = c.self.inside.counts;
      first = c.self.inside.first;
    } in
    let old : JobNow = record { task = c.job.inside.task; place = c.job.inside.place; pace = c.job.inside.pace } in
    let aj : JobNow = record { task = c.advance.new.self; place = c.job.inside.place; pace = c.job.inside.pace } in
    let e = c.advance.ensures in
    let view : old ≡ c.args.job = c.job.view_is in
    let same_a : IsSameTask c.args.job.task c.advance.new.self =
    record {
      number = e.task.0 ∙ ap (λ (j : JobNow). j.task.number) view;
      which = e.task.1 ∙ ap (λ (j : JobNow). j.task.which) view;
      trace = ap (λ t. t.items) e.trace ∙ ap (λ (j : JobNow). j.task.trace.items) view;
    } in
    let place = ap (λ (j : JobNow). j.place) view in
    let pace = ap (λ (j : JobNow). j.pace) view in
    subst (λ old_book. IsRefused old_book (record b { traces = c.reserve.new.self.items }) c.args.hand.now c.args.hand.now c.args.job aj) c.self.view_is
    (record {
      still = record { entries = refl; counts = refl; hand = refl };
      back_is = kept_back c.args.job aj same_a place pace;
    })

pub invariant_of-job-in_default-reserve-2 : goal.invariant_of-job-in_default-reserve-2
invariant_of-job-in_default-reserve-2 g c =
    let old : JobNow = record { task = c.job.inside.task; place = c.job.inside.place; pace = c.job.inside.pace } in
    let aj : JobNow = record { task = c.advance.new.self; place = c.job.inside.place; pace = c.job.inside.pace } in
    let e = c.advance.ensures in
    let adv : HasAdvanced g.J.Run.code c.job.inside.task c.advance.new.self =
    subst (λ k. HasAdvanced k c.job.inside.task c.advance.new.self) c.requires.run.2
    (record { number = e.task.0; which = e.task.1; running = e.task.2; trace = e.trace; state = e.state; still = c.in-End.ensures.stops }) in
    let is_aj = job_advanced g.J.Run.clock g.J.Run.orders g.J.Run.code old c.advance.new.self c.job.invariant adv in
    let r = c.reserve-2.ensures in
    let room : HasRoomNow c.advance.new.self c.reserve-2.new.self =
    record { number = r.task.0; which = r.task.1; spot = r.task.2; held = r.task.3; trace = r.trace } in
    job_reserved g.J.Run.clock g.J.Run.orders g.J.Run.code aj c.reserve-2.new.self is_aj room

pub invariant_of-self-in_default-reserve-2 : goal.invariant_of-self-in_default-reserve-2
invariant_of-self-in_default-reserve-2 g c =
    let b : BookNow = record {
      limits = c.self.inside.limits;
      holder = c.self.inside.holder;
      writer = c.self.inside.writer;
      lines = c.self.inside.lines.items;
      traces = c.self.inside.traces.items;
      creates = c.self.inside.creates;
      counts = c.self.inside.counts;
      first = c.self.inside.first;
    } in
    subst (λ ts. IsBook g.J.Run.clock g.J.Run.orders g.J.Run.code g.J.Run.limits (record b { traces = ts })) (sym c.reserve.ensures.items) c.self.invariant

pub returns-in_default-reserve-2 : goal.returns-in_default-reserve-2
returns-in_default-reserve-2 g c =
    let b : BookNow = record {
      limits = c.self.inside.limits;
      holder = c.self.inside.holder;
      writer = c.self.inside.writer;
      lines = c.self.inside.lines.items;
      traces = c.self.inside.traces.items;
      creates = c.self.inside.creates;
      counts = c.self.inside.counts;
      first = c.self.inside.first;
    } in
    let old : JobNow = record { task = c.job.inside.task; place = c.job.inside.place; pace = c.job.inside.pace } in
    let hj : JobNow = record { task = c.reserve-2.new.self; place = c.job.inside.place; pace = c.job.inside.pace } in
    let e = c.advance.ensures in
    let r = c.reserve-2.ensures in
    let view : old ≡ c.args.job = c.job.view_is in
    let same_h : IsSameTask c.args.job.task c.reserve-2.new.self =
    record {
      number = r.task.0 ∙ e.task.0 ∙ ap (λ (j : JobNow). j.task.number) view;
      which = r.task.1 ∙ e.task.1 ∙ ap (λ (j : JobNow). j.task.which) view;
      trace = r.trace ∙ ap (λ t. t.items) e.trace ∙ ap (λ (j : JobNow). j.task.trace.items) view;
    } in
    let place = ap (λ (j : JobNow). j.place) view in
    let pace = ap (λ (j : JobNow). j.pace) view in
    subst (λ old_book. IsRefused old_book (record b { traces = c.reserve.new.self.items }) c.args.hand.now c.args.hand.now c.args.job hj) c.self.view_is
    (record {
      still = record { entries = refl; counts = refl; hand = refl };
      back_is = kept_back c.args.job hj same_h place pace;
    })

pub invariant_of-job-2 : goal.invariant_of-job-2
invariant_of-job-2 g c =
    let old : JobNow = record { task = c.job.inside.task; place = c.job.inside.place; pace = c.job.inside.pace } in
    let aj : JobNow = record { task = c.advance.new.self; place = c.job.inside.place; pace = c.job.inside.pace } in
    let e = c.advance.ensures in
    let adv : HasAdvanced g.J.Run.code c.job.inside.task c.advance.new.self =
    subst (λ k. HasAdvanced k c.job.inside.task c.advance.new.self) c.requires.run.2
    (record { number = e.task.0; which = e.task.1; running = e.task.2; trace = e.trace; state = e.state; still = c.in-End.ensures.stops }) in
    let is_aj = job_advanced g.J.Run.clock g.J.Run.orders g.J.Run.code old c.advance.new.self c.job.invariant adv in
    let r = c.reserve-2.ensures in
    let room : HasRoomNow c.advance.new.self c.reserve-2.new.self =
    record { number = r.task.0; which = r.task.1; spot = r.task.2; held = r.task.3; trace = r.trace } in
    job_reserved g.J.Run.clock g.J.Run.orders g.J.Run.code aj c.reserve-2.new.self is_aj room

pub hold-held-requires : goal.hold-held-requires
hold-held-requires g c =
    record { run = (c.requires.run.0, c.self.invariant.home.0) }

pub draw-requires : goal.draw-requires
draw-requires g c =
    let b : BookNow = record {
      limits = c.self.inside.limits;
      holder = c.self.inside.holder;
      writer = c.self.inside.writer;
      lines = c.self.inside.lines.items;
      traces = c.self.inside.traces.items;
      creates = c.self.inside.creates;
      counts = c.self.inside.counts;
      first = c.self.inside.first;
    } in
    let hj : JobNow = record { task = c.reserve-2.new.self; place = c.job.inside.place; pace = c.job.inside.pace } in
    let told = c.hold-held.new.holder in
    let h = c.hold-held.ensures in
    let here : event_of c.entry_of-entry.result ≡ event_at c.reserve-2.new.self.number c.job.inside.place.at.number (Ends c.in-End.value) =
    c.entry_of-entry.ensures ∙ ap (λ (t : TaskNow). event_at t.number c.hold-held.result.at.number (Ends c.in-End.value)) h.task.0
    ∙ ap (λ (s : Strand). event_at c.reserve-2.new.self.number s.number (Ends c.in-End.value)) h.place.0 in
    record {
      clock = c.hold-held.ensures.clock ∙ c.self.invariant.home.0 ∙ ap (λ (x : Ticking). x.id) (sym c.requires.run.0);
      asks = end_asks g.J.Run.clock g.J.Run.orders g.J.Run.code g.J.Run.limits b hj told c.self.invariant
          c.hold-held.ensures.was h.told h.own.0 h.one h.clock c.in-End.value (event_of c.entry_of-entry.result) here;
    }

pub release-requires : goal.release-requires
release-requires g c =
    let b : BookNow = record {
      limits = c.self.inside.limits;
      holder = c.self.inside.holder;
      writer = c.self.inside.writer;
      lines = c.self.inside.lines.items;
      traces = c.self.inside.traces.items;
      creates = c.self.inside.creates;
      counts = c.self.inside.counts;
      first = c.self.inside.first;
    } in
    let hj : JobNow = record { task = c.reserve-2.new.self; place = c.job.inside.place; pace = c.job.inside.pace } in
    let told = c.hold-held.new.holder in
    let h = c.hold-held.ensures in
    let out = goes_out g.J.Run.clock g.J.Run.orders g.J.Run.code g.J.Run.limits b hj told c.self.invariant
    c.hold-held.ensures.was h.told h.own.0 h.one h.clock
    c.args.clock.now.size (event_of c.entry_of-entry.result) c.in_default-draw.field-0 c.draw.new.holder c.self.inside.writer
    c.hold-held.result.task c.hold-held.result.at c.hold-held.result.reach c.hold-held.result.reader c.hold-held.result.pace c.in_default-draw.ensures.drawn
    c.draw.ensures.clock refl (h.task.0, h.place.0, h.place.1, h.place.2, h.task.1) in
    record {
      run = (c.requires.run.0, c.requires.run.1);
      home = out.home;
      carried = out.carried;
      orders = out.orders_are;
      knew = out.knew;
      strand = out.strand;
      job = out.job;
    }

pub invariant_of-self-in_default-draw : goal.invariant_of-self-in_default-draw
invariant_of-self-in_default-draw g c =
    let b : BookNow = record {
      limits = c.self.inside.limits;
      holder = c.self.inside.holder;
      writer = c.self.inside.writer;
      lines = c.self.inside.lines.items;
      traces = c.self.inside.traces.items;
      creates = c.self.inside.creates;
      counts = c.self.inside.counts;
      first = c.self.inside.first;
    } in
    let hj : JobNow = record { task = c.reserve-2.new.self; place = c.job.inside.place; pace = c.job.inside.pace } in
    let told = c.hold-held.new.holder in
    let h = c.hold-held.ensures in
    spent_book g.J.Run.clock g.J.Run.orders g.J.Run.code g.J.Run.limits b hj told c.self.invariant
    c.hold-held.ensures.was h.told h.own.0 h.one h.clock
    c.args.clock.now.size (event_of c.entry_of-entry.result) c.in_default-draw.field-0 c.draw.new.holder
    c.release.new.holder c.release.new.writer c.reserve.new.self.items c.in_default-draw.ensures.drawn c.draw.ensures.clock c.release.ensures.holder.1
    (c.release.ensures.holder.0 ∙ ap (λ (t : TaskNow). after_note t.number c.draw.new.holder.view) h.task.0) c.release.ensures.writer c.reserve.ensures.items

pub returns-in_default-draw : goal.returns-in_default-draw
returns-in_default-draw g c =
    let b : BookNow = record {
      limits = c.self.inside.limits;
      holder = c.self.inside.holder;
      writer = c.self.inside.writer;
      lines = c.self.inside.lines.items;
      traces = c.self.inside.traces.items;
      creates = c.self.inside.creates;
      counts = c.self.inside.counts;
      first = c.self.inside.first;
    } in
    let old : JobNow = record { task = c.job.inside.task; place = c.job.inside.place; pace = c.job.inside.pace } in
    let hj : JobNow = record { task = c.reserve-2.new.self; place = c.job.inside.place; pace = c.job.inside.pace } in
    let e = c.advance.ensures in
    let r = c.reserve-2.ensures in
    let view : old ≡ c.args.job = c.job.view_is in
    let same_h : IsSameTask c.args.job.task c.reserve-2.new.self =
    record {
      number = r.task.0 ∙ e.task.0 ∙ ap (λ (j : JobNow). j.task.number) view;
      which = r.task.1 ∙ e.task.1 ∙ ap (λ (j : JobNow). j.task.which) view;
      trace = r.trace ∙ ap (λ t. t.items) e.trace ∙ ap (λ (j : JobNow). j.task.trace.items) view;
    } in
    let place = ap (λ (j : JobNow). j.place) view in
    let pace = ap (λ (j : JobNow). j.pace) view in
    let h = c.hold-held.ensures in
    let wishes = subst (WishesEnd g.J.Run.code) (sym view) c.requires.wish in
    let first = stands_end g.J.Run.code c.job.inside.task c.in-End.value wishes (λ P args s of x.
    c.in-End.ensures.wish P args s (subst (IsCodeOf P) (sym c.requires.run.2) of)
    (subst (λ k. IsTaskOf P k args c.job.inside.task s) (sym c.requires.run.2) x)) in
    let stands_first : Stands g.J.Run.code c.args.job.task (λ P w. w ≡ ToEnd c.in-End.value) =
    subst (λ (j : JobNow). Stands g.J.Run.code j.task (λ P w. w ≡ ToEnd c.in-End.value)) view first in
    let past = past_in (entries_of b) in
    let free = stands_as g.J.Run.code c.args.job.task (λ P w. w ≡ ToEnd c.in-End.value) (λ P w. IsFree past c.args.job.task.number w)
    (λ P w is. subst (λ v. IsFree past c.args.job.task.number v) (sym is) tt) stands_first in
    let task_back = c.release.ensures.task.0 ∙ h.task.0 in
    let draw = c.in_default-draw.ensures.drawn in
    let back : IsBack c.args.job c.release.result = given_back c.args.job hj c.release.result b.holder.view c.draw.new.holder.view c.hold-held.new.holder.view
    same_h place pace h.told (ap (λ (u : View). u.known) draw.1)
    (record {
      number = ap (λ (t : TaskNow). t.number) task_back;
      which = ap (λ (t : TaskNow). t.which) task_back;
      trace = ap (λ (t : TaskNow). t.trace.items) task_back;
    })
    (c.release.ensures.place.0 ∙ h.place.0) (c.release.ensures.place.1 ∙ h.place.1) (c.release.ensures.task.1 ∙ h.task.1)
    (c.release.ensures.pass ∙ ap (λ (t : TaskNow). noted t.number c.draw.new.holder.view) h.task.0)
    (subst (λ (x : Reading). StartsWith c.release.result.place.reader.log x.log) h.place.2 c.release.ensures.reader) in
    subst (λ old_book. IsSpent g.J.Run.code g.J.Run.limits.events old_book
    (record b { holder = c.release.new.holder; writer = c.release.new.writer; traces = c.reserve.new.self.items })
    c.args.hand.now c.args.hand.now c.args.job c.release.result
    (finish.Events c.self.inside.limits.events)) c.self.view_is
    (subst (λ ts. IsSpent g.J.Run.code g.J.Run.limits.events b
    (record b { holder = c.release.new.holder; writer = c.release.new.writer; traces = ts }) c.args.hand.now c.args.hand.now c.args.job c.release.result
    (finish.Events c.self.inside.limits.events)) (sym c.reserve.ensures.items)
    (spent_arm g.J.Run.code g.J.Run.limits c.args.clock.now.size (event_of c.entry_of-entry.result) b c.hold-held.result.task.number c.in_default-draw.field-0
    c.hold-held.new.holder c.draw.new.holder c.release.new.holder c.release.new.writer c.args.hand.now c.args.job c.release.result c.self.invariant.limits_are.0
    h.own.0 draw c.release.ensures.holder.0 back free))

pub feed-requires : goal.feed-requires
feed-requires g c =
    subst (λ (t : TaskNow). 1 ≤ t.trace.spare) (sym c.hold-held.ensures.task.0) c.in-Ok-reserve.ensures.room

pub end-requires : goal.end-requires
end-requires g c =
    let b : BookNow = record {
      limits = c.self.inside.limits;
      holder = c.self.inside.holder;
      writer = c.self.inside.writer;
      lines = c.self.inside.lines.items;
      traces = c.self.inside.traces.items;
      creates = c.self.inside.creates;
      counts = c.self.inside.counts;
      first = c.self.inside.first;
    } in
    let hj : JobNow = record { task = c.reserve-2.new.self; place = c.job.inside.place; pace = c.job.inside.pace } in
    let told = c.hold-held.new.holder in
    let h = c.hold-held.ensures in
    let d = c.in-At.ensures.drawn in
    let below : c.in-At.ticket < g.J.Run.limits.events =
    subst (λ n. c.in-At.ticket < n) (ap (λ (x : Ticking). x.size.bound) c.requires.run.0 ∙ c.self.invariant.limits_are.1) d.0 in
    let some : 0 < c.self.inside.counts.running =
    (let runs = c.running.ensures in let test = c.if-running-eq0.false in omega (arith, runs, test)) in
    record {
      room = end_room g.J.Run.clock g.J.Run.orders g.J.Run.code g.J.Run.limits b hj told c.self.invariant
          c.hold-held.ensures.was h.told h.own.0 h.one h.clock c.in-At.ticket below d.1;
      running = some;
    }

pub push-requires : goal.push-requires
push-requires g c =
    c.in-Ok.ensures.spare

pub settle-waiting-requires : goal.settle-waiting-requires
settle-waiting-requires g c =
    let b : BookNow = record {
      limits = c.self.inside.limits;
      holder = c.self.inside.holder;
      writer = c.self.inside.writer;
      lines = c.self.inside.lines.items;
      traces = c.self.inside.traces.items;
      creates = c.self.inside.creates;
      counts = c.self.inside.counts;
      first = c.self.inside.first;
    } in
    let old : JobNow = record { task = c.job.inside.task; place = c.job.inside.place; pace = c.job.inside.pace } in
    let hj : JobNow = record { task = c.reserve-2.new.self; place = c.job.inside.place; pace = c.job.inside.pace } in
    let e = c.advance.ensures in
    let adv : HasAdvanced g.J.Run.code c.job.inside.task c.advance.new.self =
    subst (λ k. HasAdvanced k c.job.inside.task c.advance.new.self) c.requires.run.2
    (record { number = e.task.0; which = e.task.1; running = e.task.2; trace = e.trace; state = e.state; still = c.in-End.ensures.stops }) in
    let r = c.reserve-2.ensures in
    let room : HasRoomNow c.advance.new.self c.reserve-2.new.self =
    record { number = r.task.0; which = r.task.1; spot = r.task.2; held = r.task.3; trace = r.trace } in
    let view : old ≡ c.args.job = c.job.view_is in
    let told = c.hold-held.new.holder in
    let h = c.hold-held.ensures in
    let wishes = subst (WishesEnd g.J.Run.code) (sym view) c.requires.wish in
    let first = stands_end g.J.Run.code c.job.inside.task c.in-End.value wishes (λ P args s of x.
    c.in-End.ensures.wish P args s (subst (IsCodeOf P) (sym c.requires.run.2) of)
    (subst (λ k. IsTaskOf P k args c.job.inside.task s) (sym c.requires.run.2) x)) in
    let stands : Stands g.J.Run.code c.reserve-2.new.self (λ P w. w ≡ ToEnd c.in-End.value) =
    stands_same g.J.Run.code c.advance.new.self c.reserve-2.new.self (λ P w. w ≡ ToEnd c.in-End.value) room
    (stands_advanced g.J.Run.code (known_to old) c.job.inside.task c.advance.new.self (λ P w. w ≡ ToEnd c.in-End.value) adv c.job.invariant.started first) in
    let d = c.in-At.ensures.drawn in
    let below : c.in-At.ticket < g.J.Run.limits.events =
    subst (λ n. c.in-At.ticket < n) (ap (λ (x : Ticking). x.size.bound) c.requires.run.0 ∙ c.self.invariant.limits_are.1) d.0 in
    let number : c.number-number.result ≡ c.reserve-2.new.self.number =
    c.number-number.ensures ∙ c.feed.ensures.task.0 ∙ ap (λ (t : TaskNow). t.number) h.task.0 in
    let same : c.as_mut_slice.result.now ≡ c.self.inside.lines.items = c.as_mut_slice.ensures.value in
    record {
      line =
          subst (λ ls. (l : LineNow) × (slice_get ls c.number-number.result ≡ Some l) × (l.value ≡ None)
          × ((p : ℕ) → l.parent ≡ Some p → l.waiters ≡ [])) (sym same)
          (went_line g.J.Run.clock g.J.Run.orders g.J.Run.code g.J.Run.limits b hj told c.self.invariant
          c.hold-held.ensures.was h.told h.own.0 h.one h.clock
          c.in-At.ticket c.in-End.value stands below d.1 c.number-number.result number);
      parent =
          subst (λ ls. (p : ℕ) → parent_of (slice_get ls c.number-number.result) ≡ Some p
          → (p ≢ c.number-number.result) × ((l : LineNow) × (slice_get ls p ≡ Some l) × (0 < l.count))) (sym same)
          (went_parent g.J.Run.clock g.J.Run.orders g.J.Run.code g.J.Run.limits b hj told c.self.invariant
          c.hold-held.ensures.was h.told h.own.0 h.one h.clock
          c.in-At.ticket c.in-End.value stands below d.1 c.number-number.result number);
    }

pub wake_all-requires : goal.wake_all-requires
wake_all-requires g c =
    let b : BookNow = record {
      limits = c.self.inside.limits;
      holder = c.self.inside.holder;
      writer = c.self.inside.writer;
      lines = c.self.inside.lines.items;
      traces = c.self.inside.traces.items;
      creates = c.self.inside.creates;
      counts = c.self.inside.counts;
      first = c.self.inside.first;
    } in
    let old : JobNow = record { task = c.job.inside.task; place = c.job.inside.place; pace = c.job.inside.pace } in
    let hj : JobNow = record { task = c.reserve-2.new.self; place = c.job.inside.place; pace = c.job.inside.pace } in
    let e = c.advance.ensures in
    let adv : HasAdvanced g.J.Run.code c.job.inside.task c.advance.new.self =
    subst (λ k. HasAdvanced k c.job.inside.task c.advance.new.self) c.requires.run.2
    (record { number = e.task.0; which = e.task.1; running = e.task.2; trace = e.trace; state = e.state; still = c.in-End.ensures.stops }) in
    let r = c.reserve-2.ensures in
    let room : HasRoomNow c.advance.new.self c.reserve-2.new.self =
    record { number = r.task.0; which = r.task.1; spot = r.task.2; held = r.task.3; trace = r.trace } in
    let view : old ≡ c.args.job = c.job.view_is in
    let told = c.hold-held.new.holder in
    let h = c.hold-held.ensures in
    let wishes = subst (WishesEnd g.J.Run.code) (sym view) c.requires.wish in
    let first = stands_end g.J.Run.code c.job.inside.task c.in-End.value wishes (λ P args s of x.
    c.in-End.ensures.wish P args s (subst (IsCodeOf P) (sym c.requires.run.2) of)
    (subst (λ k. IsTaskOf P k args c.job.inside.task s) (sym c.requires.run.2) x)) in
    let stands : Stands g.J.Run.code c.reserve-2.new.self (λ P w. w ≡ ToEnd c.in-End.value) =
    stands_same g.J.Run.code c.advance.new.self c.reserve-2.new.self (λ P w. w ≡ ToEnd c.in-End.value) room
    (stands_advanced g.J.Run.code (known_to old) c.job.inside.task c.advance.new.self (λ P w. w ≡ ToEnd c.in-End.value) adv c.job.invariant.started first) in
    let d = c.in-At.ensures.drawn in
    let below : c.in-At.ticket < g.J.Run.limits.events =
    subst (λ n. c.in-At.ticket < n) (ap (λ (x : Ticking). x.size.bound) c.requires.run.0 ∙ c.self.invariant.limits_are.1) d.0 in
    let number : c.number-number.result ≡ c.reserve-2.new.self.number =
    c.number-number.ensures ∙ c.feed.ensures.task.0 ∙ ap (λ (t : TaskNow). t.number) h.task.0 in
    let same : c.as_mut_slice.result.now ≡ c.self.inside.lines.items = c.as_mut_slice.ensures.value in
    let settled = c.settle-waiting.ensures.lines
    ∙ ap (λ ls. after_end c.number-number.result c.in-End.value (record { at = c.hold-held.result.at; table = c.hold-held.result.reach }) ls) same in
    let waited = c.settle-waiting.ensures.jobs ∙ ap (λ ls. wait_for ls c.number-number.result) same in
    let some : 0 < c.self.inside.counts.running =
    (let runs = c.running.ensures in let test = c.if-running-eq0.false in omega (arith, runs, test)) in
    let here : event_of c.entry_of-entry.result ≡ event_at c.reserve-2.new.self.number c.job.inside.place.at.number (Ends c.in-End.value) =
    c.entry_of-entry.ensures ∙ ap (λ (t : TaskNow). event_at t.number c.hold-held.result.at.number (Ends c.in-End.value)) h.task.0
    ∙ ap (λ (s : Strand). event_at c.reserve-2.new.self.number s.number (Ends c.in-End.value)) h.place.0 in
    record {
      run = (c.requires.run.0, c.requires.run.1);
      book = (
        record b {
          holder = c.draw.new.holder;
          lines = c.settle-waiting.new.lines;
          traces = c.push.new.self.items;
          counts = woken_by (length c.settle-waiting.result.items) c.end.new.self;
        },
        went_book g.J.Run.clock g.J.Run.orders g.J.Run.code g.J.Run.limits b hj told c.self.invariant
            c.hold-held.ensures.was h.told h.own.0 h.one h.clock
            c.in-At.ticket c.in-End.value stands below d.1 c.number-number.result number c.draw.new.holder c.entry_of-entry.result
            c.hold-held.result.task c.hold-held.result.at c.hold-held.result.reach c.into_trace.result c.push.new.self.items c.settle-waiting.new.lines
            c.settle-waiting.result.items c.end.new.self some c.draw.ensures.clock d.2 here h.task.0 h.place.0 h.place.1
            (ap (λ t. t.items) c.into_trace.ensures ∙ c.feed.ensures.trace)
            (c.push.ensures.items ∙ ap (λ ts. ts ++ c.into_trace.result ∷ []) c.reserve.ensures.items)
            settled waited c.end.ensures.counts,
        refl,
        refl,
      );
      freed = went_freed g.J.Run.clock g.J.Run.orders g.J.Run.code g.J.Run.limits b hj told c.self.invariant
          c.hold-held.ensures.was h.told h.own.0 h.one h.clock
          c.in-At.ticket c.in-End.value stands below d.1 c.number-number.result number
          c.draw.new.holder (event_of c.entry_of-entry.result) c.settle-waiting.result.items d.2 here waited;
      counted = went_few g.J.Run.clock g.J.Run.orders g.J.Run.code g.J.Run.limits b hj told c.self.invariant
          c.hold-held.ensures.was h.told h.own.0 h.one h.clock
          c.in-At.ticket c.in-End.value stands below d.1 c.number-number.result number
          c.settle-waiting.result.items c.end.new.self waited c.end.ensures.counts;
    }

pub invariant_of-self-2 : goal.invariant_of-self-2
invariant_of-self-2 g c =
    let b : BookNow = record {
      limits = c.self.inside.limits;
      holder = c.self.inside.holder;
      writer = c.self.inside.writer;
      lines = c.self.inside.lines.items;
      traces = c.self.inside.traces.items;
      creates = c.self.inside.creates;
      counts = c.self.inside.counts;
      first = c.self.inside.first;
    } in
    let old : JobNow = record { task = c.job.inside.task; place = c.job.inside.place; pace = c.job.inside.pace } in
    let hj : JobNow = record { task = c.reserve-2.new.self; place = c.job.inside.place; pace = c.job.inside.pace } in
    let e = c.advance.ensures in
    let adv : HasAdvanced g.J.Run.code c.job.inside.task c.advance.new.self =
    subst (λ k. HasAdvanced k c.job.inside.task c.advance.new.self) c.requires.run.2
    (record { number = e.task.0; which = e.task.1; running = e.task.2; trace = e.trace; state = e.state; still = c.in-End.ensures.stops }) in
    let r = c.reserve-2.ensures in
    let room : HasRoomNow c.advance.new.self c.reserve-2.new.self =
    record { number = r.task.0; which = r.task.1; spot = r.task.2; held = r.task.3; trace = r.trace } in
    let view : old ≡ c.args.job = c.job.view_is in
    let told = c.hold-held.new.holder in
    let h = c.hold-held.ensures in
    let wishes = subst (WishesEnd g.J.Run.code) (sym view) c.requires.wish in
    let first = stands_end g.J.Run.code c.job.inside.task c.in-End.value wishes (λ P args s of x.
    c.in-End.ensures.wish P args s (subst (IsCodeOf P) (sym c.requires.run.2) of)
    (subst (λ k. IsTaskOf P k args c.job.inside.task s) (sym c.requires.run.2) x)) in
    let stands : Stands g.J.Run.code c.reserve-2.new.self (λ P w. w ≡ ToEnd c.in-End.value) =
    stands_same g.J.Run.code c.advance.new.self c.reserve-2.new.self (λ P w. w ≡ ToEnd c.in-End.value) room
    (stands_advanced g.J.Run.code (known_to old) c.job.inside.task c.advance.new.self (λ P w. w ≡ ToEnd c.in-End.value) adv c.job.invariant.started first) in
    let d = c.in-At.ensures.drawn in
    let below : c.in-At.ticket < g.J.Run.limits.events =
    subst (λ n. c.in-At.ticket < n) (ap (λ (x : Ticking). x.size.bound) c.requires.run.0 ∙ c.self.invariant.limits_are.1) d.0 in
    let number : c.number-number.result ≡ c.reserve-2.new.self.number =
    c.number-number.ensures ∙ c.feed.ensures.task.0 ∙ ap (λ (t : TaskNow). t.number) h.task.0 in
    let same : c.as_mut_slice.result.now ≡ c.self.inside.lines.items = c.as_mut_slice.ensures.value in
    let settled = c.settle-waiting.ensures.lines
    ∙ ap (λ ls. after_end c.number-number.result c.in-End.value (record { at = c.hold-held.result.at; table = c.hold-held.result.reach }) ls) same in
    let waited = c.settle-waiting.ensures.jobs ∙ ap (λ ls. wait_for ls c.number-number.result) same in
    let some : 0 < c.self.inside.counts.running =
    (let runs = c.running.ensures in let test = c.if-running-eq0.false in omega (arith, runs, test)) in
    let here : event_of c.entry_of-entry.result ≡ event_at c.reserve-2.new.self.number c.job.inside.place.at.number (Ends c.in-End.value) =
    c.entry_of-entry.ensures ∙ ap (λ (t : TaskNow). event_at t.number c.hold-held.result.at.number (Ends c.in-End.value)) h.task.0
    ∙ ap (λ (s : Strand). event_at c.reserve-2.new.self.number s.number (Ends c.in-End.value)) h.place.0 in
    let lines_is = with_items_is c.self.inside.lines c.settle-waiting.new.lines
    (let kept = c.settle-waiting.auto.lines in let whole = c.as_mut_slice.ensures.len in omega (arith, kept, whole)) in
    let after : BookNow = record b {
      holder = c.draw.new.holder;
      lines = c.settle-waiting.new.lines;
      traces = c.push.new.self.items;
      counts = woken_by (length c.settle-waiting.result.items) c.end.new.self;
    } in
    subst (λ ls. IsBook g.J.Run.clock g.J.Run.orders g.J.Run.code g.J.Run.limits (record b {
      holder = c.wake_all.new.holder;
      writer = c.wake_all.new.writer;
      lines = ls;
      traces = c.push.new.self.items;
      counts = c.wake_all.new.counts;
    })) (sym lines_is)
    (subst (λ k. IsBook g.J.Run.clock g.J.Run.orders g.J.Run.code g.J.Run.limits (record b {
      holder = c.wake_all.new.holder;
      writer = c.wake_all.new.writer;
      lines = c.settle-waiting.new.lines;
      traces = c.push.new.self.items;
      counts = k;
    })) (sym c.wake_all.ensures.counts)
    (still_book g.J.Run.clock g.J.Run.orders g.J.Run.code g.J.Run.limits after c.wake_all.new.holder c.wake_all.new.writer
    (went_book g.J.Run.clock g.J.Run.orders g.J.Run.code g.J.Run.limits b hj told c.self.invariant
    c.hold-held.ensures.was h.told h.own.0 h.one h.clock
    c.in-At.ticket c.in-End.value stands below d.1 c.number-number.result number c.draw.new.holder c.entry_of-entry.result
    c.hold-held.result.task c.hold-held.result.at c.hold-held.result.reach c.into_trace.result c.push.new.self.items c.settle-waiting.new.lines
    c.settle-waiting.result.items c.end.new.self some c.draw.ensures.clock d.2 here h.task.0 h.place.0 h.place.1
    (ap (λ t. t.items) c.into_trace.ensures ∙ c.feed.ensures.trace)
    (c.push.ensures.items ∙ ap (λ ts. ts ++ c.into_trace.result ∷ []) c.reserve.ensures.items)
    settled waited c.end.ensures.counts) c.wake_all.ensures.holder c.wake_all.ensures.writer))

pub returns : goal.returns
returns g c =
    let b : BookNow = record {
      limits = c.self.inside.limits;
      holder = c.self.inside.holder;
      writer = c.self.inside.writer;
      lines = c.self.inside.lines.items;
      traces = c.self.inside.traces.items;
      creates = c.self.inside.creates;
      counts = c.self.inside.counts;
      first = c.self.inside.first;
    } in
    let old : JobNow = record { task = c.job.inside.task; place = c.job.inside.place; pace = c.job.inside.pace } in
    let hj : JobNow = record { task = c.reserve-2.new.self; place = c.job.inside.place; pace = c.job.inside.pace } in
    let e = c.advance.ensures in
    let adv : HasAdvanced g.J.Run.code c.job.inside.task c.advance.new.self =
    subst (λ k. HasAdvanced k c.job.inside.task c.advance.new.self) c.requires.run.2
    (record { number = e.task.0; which = e.task.1; running = e.task.2; trace = e.trace; state = e.state; still = c.in-End.ensures.stops }) in
    let r = c.reserve-2.ensures in
    let room : HasRoomNow c.advance.new.self c.reserve-2.new.self =
    record { number = r.task.0; which = r.task.1; spot = r.task.2; held = r.task.3; trace = r.trace } in
    let view : old ≡ c.args.job = c.job.view_is in
    let told = c.hold-held.new.holder in
    let h = c.hold-held.ensures in
    let wishes = subst (WishesEnd g.J.Run.code) (sym view) c.requires.wish in
    let first = stands_end g.J.Run.code c.job.inside.task c.in-End.value wishes (λ P args s of x.
    c.in-End.ensures.wish P args s (subst (IsCodeOf P) (sym c.requires.run.2) of)
    (subst (λ k. IsTaskOf P k args c.job.inside.task s) (sym c.requires.run.2) x)) in
    let stands : Stands g.J.Run.code c.reserve-2.new.self (λ P w. w ≡ ToEnd c.in-End.value) =
    stands_same g.J.Run.code c.advance.new.self c.reserve-2.new.self (λ P w. w ≡ ToEnd c.in-End.value) room
    (stands_advanced g.J.Run.code (known_to old) c.job.inside.task c.advance.new.self (λ P w. w ≡ ToEnd c.in-End.value) adv c.job.invariant.started first) in
    let d = c.in-At.ensures.drawn in
    let below : c.in-At.ticket < g.J.Run.limits.events =
    subst (λ n. c.in-At.ticket < n) (ap (λ (x : Ticking). x.size.bound) c.requires.run.0 ∙ c.self.invariant.limits_are.1) d.0 in
    let number : c.number-number.result ≡ c.reserve-2.new.self.number =
    c.number-number.ensures ∙ c.feed.ensures.task.0 ∙ ap (λ (t : TaskNow). t.number) h.task.0 in
    let same : c.as_mut_slice.result.now ≡ c.self.inside.lines.items = c.as_mut_slice.ensures.value in
    let waited = c.settle-waiting.ensures.jobs ∙ ap (λ ls. wait_for ls c.number-number.result) same in
    let here : event_of c.entry_of-entry.result ≡ event_at c.reserve-2.new.self.number c.job.inside.place.at.number (Ends c.in-End.value) =
    c.entry_of-entry.ensures ∙ ap (λ (t : TaskNow). event_at t.number c.hold-held.result.at.number (Ends c.in-End.value)) h.task.0
    ∙ ap (λ (s : Strand). event_at c.reserve-2.new.self.number s.number (Ends c.in-End.value)) h.place.0 in
    let place = ap (λ (j : JobNow). j.place) view in
    let pace = ap (λ (j : JobNow). j.pace) view in
    let same_h : IsSameTask c.args.job.task c.reserve-2.new.self =
    record {
      number = r.task.0 ∙ e.task.0 ∙ ap (λ (j : JobNow). j.task.number) view;
      which = r.task.1 ∙ e.task.1 ∙ ap (λ (j : JobNow). j.task.which) view;
      trace = r.trace ∙ ap (λ t. t.items) e.trace ∙ ap (λ (j : JobNow). j.task.trace.items) view;
    } in
    let stands_first : Stands g.J.Run.code c.args.job.task (λ P w. w ≡ ToEnd c.in-End.value) =
    subst (λ (j : JobNow). Stands g.J.Run.code j.task (λ P w. w ≡ ToEnd c.in-End.value)) view first in
    let known = known_of g.J.Run.clock g.J.Run.orders g.J.Run.code g.J.Run.limits b hj told c.self.invariant
    c.hold-held.ensures.was h.told h.own.0 h.one h.clock in
    let made = end_drawn g.J.Run.clock g.J.Run.orders g.J.Run.code g.J.Run.limits b hj told.view c.in-At.ticket c.in-End.value
    c.self.invariant known h.one stands below d.1 in
    let new : BookNow = record b {
      holder = c.wake_all.new.holder;
      writer = c.wake_all.new.writer;
      lines = (with_items c.self.inside.lines c.settle-waiting.new.lines).items;
      traces = c.push.new.self.items;
      counts = c.wake_all.new.counts;
    } in
    let entries = ap first_entries c.wake_all.ensures.holder.own
    ∙ went_entries g.J.Run.clock g.J.Run.orders g.J.Run.code g.J.Run.limits b hj told c.self.invariant
    c.hold-held.ensures.was h.told h.own.0 h.one h.clock
    c.in-At.ticket c.in-End.value stands below d.1 c.number-number.result number
    c.draw.new.holder (event_of c.entry_of-entry.result) d.2 here in
    let parts = ap (λ (x : Counted). x.rest.parts)
    (c.wake_all.ensures.counts ∙ ap (λ x. woken_by (length c.settle-waiting.result.items) x) c.end.ensures.counts) in
    let all = waited ∙ ap (wait_for c.self.inside.lines.items) number in
    let woke = subst (λ js. AreWoken js c.wake_all.result.items) all c.wake_all.ensures.jobs in
    let size = woken_length c.settle-waiting.result.items c.wake_all.result.items c.wake_all.ensures.jobs in
    let turn = c.wake_all.ensures.hand ∙ ap (λ x. handed (length c.settle-waiting.result.items) x) c.end.ensures.hand
    ∙ turned_by (length c.settle-waiting.result.items) (length c.wake_all.result.items) c.args.hand.now size in
    subst (λ old_book. HasEnded g.J.Run.code g.J.Run.limits.events old_book new c.args.hand.now c.wake_all.new.hand c.args.job
    c.wake_all.result.items) c.self.view_is
    (has_ended g.J.Run.code g.J.Run.limits b new c.args.hand.now c.wake_all.new.hand c.args.job hj c.wake_all.result.items told.view c.in-At.ticket
    (event_at c.reserve-2.new.self.number c.job.inside.place.at.number (Ends c.in-End.value)) c.in-End.value made
    (record { task = same_h; place = place; pace = pace }) refl stands_first entries parts woke turn)

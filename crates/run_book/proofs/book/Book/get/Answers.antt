use Rattle.std.proofs.Common.{◌≡◌, ℕ, ◌+◌, ◌*◌, ◌<◌, ◌≤◌, List, [], ◌∷◌, ◌++◌, length, refl, sym, ap, ◌∙◌, subst, arith}
use Rattle.std.specs.Prelude.{Some, None, IsSome, slice_get, true}
use Rattle.std.specs.Option.{is_some}
use Rattle.std.proofs.lemmas.Option.{slice_get_read}
use Rattle.order_list.specs.Sides.{Lists}
use Rattle.fut_base.specs.declared.record.Value.{Value}
use Rattle.fut_base.specs.declared.record.Finish.TheVariants as finish
use Rattle.fut_base.specs.declared.event.Event.{Event}
use Rattle.fut_base.specs.declared.event.Action.TheVariants.{Gets}
use Rattle.fut_base.specs.Events.{event_of, action_of}
use Rattle.fut_base.specs.Dag.{Among}
use Rattle.fut_base.specs.Sound.{IsSound, value_of}
use Rattle.fut_syntax.specs.Trees as tree
use Rattle.task_machine.specs.State.{TaskState, ToGet}
use Rattle.task_code.specs.declared.task.Spot.{Spot}
use Rattle.task_code.specs.Flat.{IsCodeOf}
use Rattle.task_code.specs.Tasks.{TaskNow, IsTaskOf, IsSomeTask, Wishes, ended_after}
use Rattle.event_clock.specs.declared.view.View.{View}
use Rattle.event_clock.specs.Views.{drawn, turned_away, after_note, own_list, first_entries, IsAbove, MayAskFor}
use Rattle.event_clock.specs.Rule.{IsPrefix}
use Rattle.event_clock.specs.Seated.{Ticking}
use Rattle.event_clock.proofs.Lists.{prefix_more}
use Rattle.order_query.specs.Reading.{Reading, Writing}
use Rattle.strand_tree.specs.declared.strand.Strand.{Strand}
use Rattle.strand_tree.specs.Placing.{AreOrders, Belongs, Extends}
use Rattle.reach_table.specs.Telling.{AllKnown}
use Rattle.run_place.specs.Placed.{book_of, events_in}
use Rattle.run_book.specs.Drawn.{drawn_of, past_in}
use Rattle.run_book.specs.Jobs.{JobNow, IsBarred, Stands, known_to}
use Rattle.run_book.specs.Lines.{LineNow}
use Rattle.run_book.specs.Tabling.{end_in, IsKnownEnd, TablesGet}
use Rattle.run_book.specs.Books.{BookNow, IsBook, entries_of, jobs_in}
use Rattle.run_book.specs.Steps.{IsBack, IsRefused, IsSpent, HasGone, WishesGet}
use Rattle.run_book.proofs.Stranding.{event_at, few_tickets, stands_in, has_room, HasRoom}
use Rattle.run_book.proofs.Tables.{known_table, known_end}
use Rattle.run_book.proofs.Placing.{AreRoomy, roomy_add, stand_got, HasStrand}
use Rattle.run_book.proofs.Lining.{spawned_past}
use Rattle.run_book.proofs.Handles.{get_held}
use Rattle.run_book.proofs.Advancing.{is_some_task, job_advanced, job_reserved}
use Rattle.run_book.proofs.Giving.{IsReady, ready_carried, ready_strand, ready_job, reader_knew}
use Rattle.run_book.proofs.Turning.{kept_back, spent_arm, refused_arm}
use Rattle.run_book.proofs.Parking.{free_get, barred_get, pace_is_one, has_waited}
use Rattle.run_book.proofs.Queueing.{held_not_spawned, no_parent}
use Rattle.run_book.proofs.Asking.{may_ask}
use Rattle.run_book.proofs.Going.{HasDrawn, drawn_own}
use Rattle.run_book.proofs.Gone.{has_gone}
use Rattle.run_book.proofs.Fetching.{wishes_get, tells_get, has_advanced, room_of, stands_moved, of_call, still_room, feeds_as, trace_fed, back_held}
use Rattle.run_book.proofs.Holding.{has_job, held_ready, held_carried, held_strand, held_job, held_knew, held_orders, given_book}
use Rattle.run_book.proofs.Getting.{stands_by, future_line, get_drawn, get_sound, get_book, get_ready}
use Rattle.run_book.proofs.book.Book.get.Goals as goal

pub advance-requires-clause-running : goal.advance-requires-clause-running
advance-requires-clause-running g c =
    c.job.invariant.running

pub advance-requires-clause-task : goal.advance-requires-clause-task
advance-requires-clause-task g c =
    subst (λ k. IsSomeTask k c.job.inside.task) (sym c.requires.run.2) (is_some_task g.J.Run.clock g.J.Run.orders g.J.Run.code _ c.job.invariant)

pub advance-requires-clause-most : goal.advance-requires-clause-most
advance-requires-clause-most g c =
    omega arith

pub unreachable-requires : goal.unreachable-requires
unreachable-requires g c =
    let code = g.J.Run.code in
    let wishes : Stands code c.job.inside.task (λ P w. (future : ℕ) × (w ≡ ToGet future)) =
    subst (λ (x : JobNow). WishesGet code x) (sym c.job.view_is) c.requires.wish in
    let tells = subst (λ k. (P : tree.Program) (args : List Value) (s : TaskState) → IsCodeOf P k → IsTaskOf P k args c.job.inside.task s → Wishes P 1000000
    s c.advance.result)
    c.requires.run.2 c.advance.ensures.wish in
    let k = tells_get code _ c.job.inside.task c.job.invariant.program c.job.invariant.started wishes c.advance.result tells in
    absurd (c.in_default.not-Get k.0 k.1)

pub unreachable-unreachable : goal.unreachable-unreachable
unreachable-unreachable g c =
    let code = g.J.Run.code in
    let wishes : Stands code c.job.inside.task (λ P w. (future : ℕ) × (w ≡ ToGet future)) =
    subst (λ (x : JobNow). WishesGet code x) (sym c.job.view_is) c.requires.wish in
    let tells = subst (λ k. (P : tree.Program) (args : List Value) (s : TaskState) → IsCodeOf P k → IsTaskOf P k args c.job.inside.task s → Wishes P 1000000
    s c.advance.result)
    c.requires.run.2 c.advance.ensures.wish in
    let k = tells_get code _ c.job.inside.task c.job.invariant.program c.job.invariant.started wishes c.advance.result tells in
    absurd (c.in_default.not-Get k.0 k.1)

pub invariant_of-job : goal.invariant_of-job
invariant_of-job g c =
    let code = g.J.Run.code in
    let e = c.in-Get.ensures in
    let adv = has_advanced code c.args.code.now c.job.inside.task c.advance.new.self c.requires.run.2 e.task e.trace e.state e.stops in
    job_advanced g.J.Run.clock g.J.Run.orders code (record { task = c.job.inside.task; place = c.job.inside.place; pace = c.job.inside.pace })
    c.advance.new.self c.job.invariant adv

pub same-self : goal.same-self
same-self g c =
    refl

pub returns-then-running-eq0 : goal.returns-then-running-eq0
returns-then-running-eq0 g c =
    let code = g.J.Run.code in
    let e = c.in-Get.ensures in
    let adv = has_advanced code c.args.code.now c.job.inside.task c.advance.new.self c.requires.run.2 e.task e.trace e.state e.stops in
    let old = c.job.view_is in
    record {
      still = record { entries = refl; counts = refl; hand = refl };
      back_is = kept_back c.args.job (record { task = c.advance.new.self; place = c.job.inside.place; pace = c.job.inside.pace })
          (record {
            number = adv.number ∙ ap (λ (x : JobNow). x.task.number) old;
            which = adv.which ∙ ap (λ (x : JobNow). x.task.which) old;
            trace = ap (λ y. y.items) adv.trace ∙ ap (λ (x : JobNow). x.task.trace.items) old;
          })
          (ap (λ (x : JobNow). x.place) old) (ap (λ (x : JobNow). x.pace) old);
    }

pub invariant_of-job-in_default-reserve : goal.invariant_of-job-in_default-reserve
invariant_of-job-in_default-reserve g c =
    let code = g.J.Run.code in
    let e = c.in-Get.ensures in
    let adv = has_advanced code c.args.code.now c.job.inside.task c.advance.new.self c.requires.run.2 e.task e.trace e.state e.stops in
    let r = c.reserve.ensures in
    let room = room_of c.advance.new.self c.reserve.new.self r.task r.trace in
    job_reserved g.J.Run.clock g.J.Run.orders code (record { task = c.advance.new.self; place = c.job.inside.place; pace = c.job.inside.pace })
    c.reserve.new.self
    (job_advanced g.J.Run.clock g.J.Run.orders code (record { task = c.job.inside.task; place = c.job.inside.place; pace = c.job.inside.pace })
    c.advance.new.self c.job.invariant adv) room

pub same-self-in_default-reserve : goal.same-self-in_default-reserve
same-self-in_default-reserve g c =
    refl

pub returns-in_default-reserve : goal.returns-in_default-reserve
returns-in_default-reserve g c =
    let code = g.J.Run.code in
    let e = c.in-Get.ensures in
    let adv = has_advanced code c.args.code.now c.job.inside.task c.advance.new.self c.requires.run.2 e.task e.trace e.state e.stops in
    let r = c.reserve.ensures in
    let room = room_of c.advance.new.self c.reserve.new.self r.task r.trace in
    let call = of_call code c.args.job c.job.inside.task c.advance.new.self c.reserve.new.self c.job.inside.place c.job.inside.pace adv room c.job.view_is in
    record {
      still = record { entries = refl; counts = refl; hand = refl };
      back_is = kept_back c.args.job (record { task = c.reserve.new.self; place = c.job.inside.place; pace = c.job.inside.pace }) call.task call.place
          call.pace;
    }

pub invariant_of-job-2 : goal.invariant_of-job-2
invariant_of-job-2 g c =
    let code = g.J.Run.code in
    let e = c.in-Get.ensures in
    let adv = has_advanced code c.args.code.now c.job.inside.task c.advance.new.self c.requires.run.2 e.task e.trace e.state e.stops in
    let r = c.reserve.ensures in
    let room = room_of c.advance.new.self c.reserve.new.self r.task r.trace in
    job_reserved g.J.Run.clock g.J.Run.orders code (record { task = c.advance.new.self; place = c.job.inside.place; pace = c.job.inside.pace })
    c.reserve.new.self
    (job_advanced g.J.Run.clock g.J.Run.orders code (record { task = c.job.inside.task; place = c.job.inside.place; pace = c.job.inside.pace })
    c.advance.new.self c.job.invariant adv) room

pub hold-held-requires : goal.hold-held-requires
hold-held-requires g c =
    record { run = (c.requires.run.0, c.self.invariant.home.0) }

pub index-requires : goal.index-requires
index-requires g c =
    let code = g.J.Run.code in
    let future = c.in-Get.future in
    let e = c.in-Get.ensures in
    let adv = has_advanced code c.args.code.now c.job.inside.task c.advance.new.self c.requires.run.2 e.task e.trace e.state e.stops in
    let r = c.reserve.ensures in
    let room = room_of c.advance.new.self c.reserve.new.self r.task r.trace in
    let first = wishes_get code c.args.code.now c.job.inside.task 1000000 future c.requires.run.2 refl e.wish in
    let stands = stands_moved code _ c.job.inside.task c.advance.new.self c.reserve.new.self (λ P w. w ≡ ToGet future) adv room c.job.invariant.started
    first in
    let t = c.hold-held.ensures in
    let h = has_job g.J.Run.clock g.J.Run.orders g.J.Run.code g.J.Run.limits _ _ c.hold-held.new.holder.view _ _ _ _ _ c.self.invariant t.was t.told t.own.0
    t.one t.task t.place in
    let b : BookNow = record {
      limits = c.self.inside.limits;
      holder = c.self.inside.holder;
      writer = c.self.inside.writer;
      lines = c.self.inside.lines.items;
      traces = c.self.inside.traces.items;
      creates = c.self.inside.creates;
      counts = c.self.inside.counts;
      first = c.self.inside.first;
    } in
    let is : IsBook g.J.Run.clock g.J.Run.orders g.J.Run.code g.J.Run.limits b = c.self.invariant in
    let j : JobNow = record { task = c.reserve.new.self; place = c.job.inside.place; pace = c.job.inside.pace } in
    let v = c.hold-held.new.holder.view in
    let low = future_line g.J.Run.clock g.J.Run.orders g.J.Run.code g.J.Run.limits b j v future is h.known stands in
    omega (arith, low, c.self.inside.lines.ok.0)

pub release-job-requires-clause-run : goal.release-job-requires-clause-run
release-job-requires-clause-run g c =
    (c.requires.run.0, c.requires.run.1)

pub release-job-requires-clause-home : goal.release-job-requires-clause-home
release-job-requires-clause-home g c =
    let t = c.hold-held.ensures in
    (t.clock ∙ c.self.invariant.home.0, c.self.invariant.home.1, ap (λ (y : Reading). y.home) t.place.2 ∙ t.was.place.orders_is)

pub release-job-requires-clause-carried : goal.release-job-requires-clause-carried
release-job-requires-clause-carried g c =
    let t = c.hold-held.ensures in
    let h = has_job g.J.Run.clock g.J.Run.orders g.J.Run.code g.J.Run.limits _ _ c.hold-held.new.holder.view _ _ _ _ _ c.self.invariant t.was t.told t.own.0
    t.one t.task t.place in
    held_carried h c.hold-held.new.holder.view refl refl

pub release-job-requires-clause-orders : goal.release-job-requires-clause-orders
release-job-requires-clause-orders g c =
    let t = c.hold-held.ensures in
    let h = has_job g.J.Run.clock g.J.Run.orders g.J.Run.code g.J.Run.limits _ _ c.hold-held.new.holder.view _ _ _ _ _ c.self.invariant t.was t.told t.own.0
    t.one t.task t.place in
    held_orders h c.hold-held.new.holder.view refl

pub release-job-requires-clause-knew : goal.release-job-requires-clause-knew
release-job-requires-clause-knew g c =
    let t = c.hold-held.ensures in
    let h = has_job g.J.Run.clock g.J.Run.orders g.J.Run.code g.J.Run.limits _ _ c.hold-held.new.holder.view _ _ _ _ _ c.self.invariant t.was t.told t.own.0
    t.one t.task t.place in
    held_knew h c.hold-held.new.holder.view refl

pub release-job-requires-clause-strand : goal.release-job-requires-clause-strand
release-job-requires-clause-strand g c =
    let t = c.hold-held.ensures in
    let h = has_job g.J.Run.clock g.J.Run.orders g.J.Run.code g.J.Run.limits _ _ c.hold-held.new.holder.view _ _ _ _ _ c.self.invariant t.was t.told t.own.0
    t.one t.task t.place in
    held_strand h c.hold-held.new.holder.view refl refl

pub release-job-requires-clause-job : goal.release-job-requires-clause-job
release-job-requires-clause-job g c =
    let t = c.hold-held.ensures in
    let h = has_job g.J.Run.clock g.J.Run.orders g.J.Run.code g.J.Run.limits _ _ c.hold-held.new.holder.view _ _ _ _ _ c.self.invariant t.was t.told t.own.0
    t.one t.task t.place in
    held_job h c.hold-held.new.holder.view refl refl

pub invariant_of-self : goal.invariant_of-self
invariant_of-self g c =
    let t = c.hold-held.ensures in
    let h = has_job g.J.Run.clock g.J.Run.orders g.J.Run.code g.J.Run.limits _ _ c.hold-held.new.holder.view _ _ _ _ _ c.self.invariant t.was t.told t.own.0
    t.one t.task t.place in
    given_book h c.release-job.new.holder c.release-job.new.writer c.hold-held.new.holder.view refl refl refl (c.release-job.ensures.holder.1 ∙ t.clock)
    c.release-job.ensures.holder.0 c.release-job.ensures.writer

pub wait_for-requires-clause-line : goal.wait_for-requires-clause-line
wait_for-requires-clause-line g c =
    let code = g.J.Run.code in
    let future = c.in-Get.future in
    let e = c.in-Get.ensures in
    let adv = has_advanced code c.args.code.now c.job.inside.task c.advance.new.self c.requires.run.2 e.task e.trace e.state e.stops in
    let r = c.reserve.ensures in
    let room = room_of c.advance.new.self c.reserve.new.self r.task r.trace in
    let first = wishes_get code c.args.code.now c.job.inside.task 1000000 future c.requires.run.2 refl e.wish in
    let stands = stands_moved code _ c.job.inside.task c.advance.new.self c.reserve.new.self (λ P w. w ≡ ToGet future) adv room c.job.invariant.started
    first in
    let t = c.hold-held.ensures in
    let h = has_job g.J.Run.clock g.J.Run.orders g.J.Run.code g.J.Run.limits _ _ c.hold-held.new.holder.view _ _ _ _ _ c.self.invariant t.was t.told t.own.0
    t.one t.task t.place in
    let b : BookNow = record {
      limits = c.self.inside.limits;
      holder = c.self.inside.holder;
      writer = c.self.inside.writer;
      lines = c.self.inside.lines.items;
      traces = c.self.inside.traces.items;
      creates = c.self.inside.creates;
      counts = c.self.inside.counts;
      first = c.self.inside.first;
    } in
    let is : IsBook g.J.Run.clock g.J.Run.orders g.J.Run.code g.J.Run.limits b = c.self.invariant in
    let j : JobNow = record { task = c.reserve.new.self; place = c.job.inside.place; pace = c.job.inside.pace } in
    let v = c.hold-held.new.holder.view in
    let l = c.index.result.now in
    let low = future_line g.J.Run.clock g.J.Run.orders g.J.Run.code g.J.Run.limits b j v future is h.known stands in
    let there : slice_get b.lines future ≡ Some l = slice_get_read b.lines (length b.lines) future l refl low c.index.ensures in
    let line = is.listed.lines future l there in
    let none : l.value ≡ None = sym c.value.ensures ∙ c.in_default-value.is in (
      l,
      there,
      none,
      no_parent code (entries_of b) j.task.number future l line
          (λ p s. held_not_spawned (past_in (entries_of b)) is.listed.sound j.task.number future p
          (get_held code (entries_of b) j.task j.place.at j.place.table j.pace future is.listed.sound h.known.task stands)
          (spawned_past (entries_of b) p future s)),
    )

pub wait_for-requires-clause-job : goal.wait_for-requires-clause-job
wait_for-requires-clause-job g c =
    let code = g.J.Run.code in
    let future = c.in-Get.future in
    let e = c.in-Get.ensures in
    let adv = has_advanced code c.args.code.now c.job.inside.task c.advance.new.self c.requires.run.2 e.task e.trace e.state e.stops in
    let r = c.reserve.ensures in
    let room = room_of c.advance.new.self c.reserve.new.self r.task r.trace in
    let first = wishes_get code c.args.code.now c.job.inside.task 1000000 future c.requires.run.2 refl e.wish in
    let stands = stands_moved code _ c.job.inside.task c.advance.new.self c.reserve.new.self (λ P w. w ≡ ToGet future) adv room c.job.invariant.started
    first in
    let t = c.hold-held.ensures in
    let h = has_job g.J.Run.clock g.J.Run.orders g.J.Run.code g.J.Run.limits _ _ c.hold-held.new.holder.view _ _ _ _ _ c.self.invariant t.was t.told t.own.0
    t.one t.task t.place in
    let b : BookNow = record {
      limits = c.self.inside.limits;
      holder = c.self.inside.holder;
      writer = c.self.inside.writer;
      lines = c.self.inside.lines.items;
      traces = c.self.inside.traces.items;
      creates = c.self.inside.creates;
      counts = c.self.inside.counts;
      first = c.self.inside.first;
    } in
    let is : IsBook g.J.Run.clock g.J.Run.orders g.J.Run.code g.J.Run.limits b = c.self.invariant in
    let j : JobNow = record { task = c.reserve.new.self; place = c.job.inside.place; pace = c.job.inside.pace } in
    let v = c.hold-held.new.holder.view in
    let l = c.index.result.now in
    let low = future_line g.J.Run.clock g.J.Run.orders g.J.Run.code g.J.Run.limits b j v future is h.known stands in
    let there : slice_get b.lines future ≡ Some l = slice_get_read b.lines (length b.lines) future l refl low c.index.ensures in
    let line = is.listed.lines future l there in
    let none : l.value ≡ None = sym c.value.ensures ∙ c.in_default-value.is in
    let not_yet : value_of (past_in (entries_of b)) future ≡ None = sym line.value ∙ none in (
      c.release-job.ensures.task.1 ∙ t.task.1
          ∙ pace_is_one code (entries_of b) j.task j.place.at j.place.table j.pace h.known.task
          (barred_get code j.task (past_in (entries_of b)) j.task.number future not_yet stands),
      subst (λ (y : TaskNow). Stands code y (λ P w. w ≡ ToGet future)) (sym (c.release-job.ensures.task.0 ∙ t.task.0)) stands,
    )

pub returns-in_default-value : goal.returns-in_default-value
returns-in_default-value g c =
    let code = g.J.Run.code in
    let future = c.in-Get.future in
    let e = c.in-Get.ensures in
    let adv = has_advanced code c.args.code.now c.job.inside.task c.advance.new.self c.requires.run.2 e.task e.trace e.state e.stops in
    let r = c.reserve.ensures in
    let room = room_of c.advance.new.self c.reserve.new.self r.task r.trace in
    let first = wishes_get code c.args.code.now c.job.inside.task 1000000 future c.requires.run.2 refl e.wish in
    let stands = stands_moved code _ c.job.inside.task c.advance.new.self c.reserve.new.self (λ P w. w ≡ ToGet future) adv room c.job.invariant.started
    first in
    let wishes : Stands code c.args.job.task (λ P w. w ≡ ToGet future) =
    subst (λ (x : JobNow). Stands code x.task (λ P w. w ≡ ToGet future)) c.job.view_is first in
    let call = of_call code c.args.job c.job.inside.task c.advance.new.self c.reserve.new.self c.job.inside.place c.job.inside.pace adv room c.job.view_is in
    let t = c.hold-held.ensures in
    let h = has_job g.J.Run.clock g.J.Run.orders g.J.Run.code g.J.Run.limits _ _ c.hold-held.new.holder.view _ _ _ _ _ c.self.invariant t.was t.told t.own.0
    t.one t.task t.place in
    let b : BookNow = record {
      limits = c.self.inside.limits;
      holder = c.self.inside.holder;
      writer = c.self.inside.writer;
      lines = c.self.inside.lines.items;
      traces = c.self.inside.traces.items;
      creates = c.self.inside.creates;
      counts = c.self.inside.counts;
      first = c.self.inside.first;
    } in
    let is : IsBook g.J.Run.clock g.J.Run.orders g.J.Run.code g.J.Run.limits b = c.self.invariant in
    let j : JobNow = record { task = c.reserve.new.self; place = c.job.inside.place; pace = c.job.inside.pace } in
    let v = c.hold-held.new.holder.view in
    let held = c.hold-held.result in
    let l = c.index.result.now in
    let low = future_line g.J.Run.clock g.J.Run.orders g.J.Run.code g.J.Run.limits b j v future is h.known stands in
    let there : slice_get b.lines future ≡ Some l = slice_get_read b.lines (length b.lines) future l refl low c.index.ensures in
    let line = is.listed.lines future l there in
    let none : l.value ≡ None = sym c.value.ensures ∙ c.in_default-value.is in
    let not_yet : value_of (past_in (entries_of b)) future ≡ None = sym line.value ∙ none in
    let q = c.release-job.ensures in
    let back : IsBack c.args.job c.release-job.result =
    back_held c.args.job j c.release-job.result held.task held.at held.reach held.pace held.reader b.holder.view v v call t.told refl t.task.0 t.place.0
    t.place.1 t.task.1 t.place.2
    q.task.0 q.task.1 q.place.0 q.place.1 q.pass q.reader in
    let seen = c.self.view_is in
    has_waited code g.J.Run.limits.events c.args.self.now (record b { holder = c.release-job.new.holder; writer = c.release-job.new.writer })
    c.wait_for.new.self c.args.hand.now
    c.wait_for.new.hand c.args.job c.release-job.result c.wait_for.result c.wait_for.ensures back
    (ap (λ (y : View). own_list y) c.release-job.ensures.holder.0 ∙ ap first_entries t.own.0 ∙ ap (λ (y : BookNow). entries_of y) seen)
    (ap (λ (y : BookNow). jobs_in y.lines) seen) (ap (λ (y : BookNow). y.counts) seen)
    (subst (λ (y : BookNow). Stands code c.args.job.task (λ P w. IsBarred (past_in (entries_of y)) c.args.job.task.number w)) seen
    (barred_get code c.args.job.task (past_in (entries_of b)) c.args.job.task.number future not_yet wishes))

pub table_after_get-requires : goal.table_after_get-requires
table_after_get-requires g c =
    let code = g.J.Run.code in
    let future = c.in-Get.future in
    let e = c.in-Get.ensures in
    let first = wishes_get code c.args.code.now c.job.inside.task 1000000 future c.requires.run.2 refl e.wish in
    let t = c.hold-held.ensures in
    let h = has_job g.J.Run.clock g.J.Run.orders g.J.Run.code g.J.Run.limits _ _ c.hold-held.new.holder.view _ _ _ _ _ c.self.invariant t.was t.told t.own.0
    t.one t.task t.place in
    let b : BookNow = record {
      limits = c.self.inside.limits;
      holder = c.self.inside.holder;
      writer = c.self.inside.writer;
      lines = c.self.inside.lines.items;
      traces = c.self.inside.traces.items;
      creates = c.self.inside.creates;
      counts = c.self.inside.counts;
      first = c.self.inside.first;
    } in
    let is : IsBook g.J.Run.clock g.J.Run.orders g.J.Run.code g.J.Run.limits b = c.self.invariant in
    let j : JobNow = record { task = c.reserve.new.self; place = c.job.inside.place; pace = c.job.inside.pace } in
    let v = c.hold-held.new.holder.view in
    let held = c.hold-held.result in
    let K : Lists → List LineNow → List Strand → Type 0 = λ ls ns reach. AllKnown (length ls.english.order) reach × IsKnownEnd (length ls.english.order)
    (end_in ns future) in
    let en = b.writer.lists.english.order in
    let he = b.writer.lists.hebrew.order in
    let by = stands_by g.J.Run.clock g.J.Run.orders g.J.Run.code g.J.Run.limits b j v is h.known in
    let base : K b.writer.lists b.lines j.place.table = (
      known_table (entries_of b) en he j.place.at.number j.place.table by.sound by.orders by.has,
      known_end code (entries_of b) b.lines en he future by.sound
          by.orders by.lines_are,
    ) in
    record {
      known = subst (λ (y : Lists). K y c.as_slice.result.now held.reach) (sym c.lists.ensures)
          (subst (λ (y : List LineNow). K b.writer.lists y held.reach) (sym c.as_slice.ensures.value)
          (subst (λ (y : List Strand). K b.writer.lists b.lines y) (sym t.place.1) base));
    }

pub release-requires-clause-run : goal.release-requires-clause-run
release-requires-clause-run g c =
    (c.requires.run.0, c.requires.run.1)

pub release-requires-clause-home : goal.release-requires-clause-home
release-requires-clause-home g c =
    let t = c.hold-held.ensures in
    (t.clock ∙ c.self.invariant.home.0, c.self.invariant.home.1, ap (λ (y : Reading). y.home) t.place.2 ∙ t.was.place.orders_is)

pub release-requires-clause-carried : goal.release-requires-clause-carried
release-requires-clause-carried g c =
    let t = c.hold-held.ensures in
    let h = has_job g.J.Run.clock g.J.Run.orders g.J.Run.code g.J.Run.limits _ _ c.hold-held.new.holder.view _ _ _ _ _ c.self.invariant t.was t.told t.own.0
    t.one t.task t.place in
    held_carried h c.hold-held.new.holder.view refl refl

pub release-requires-clause-orders : goal.release-requires-clause-orders
release-requires-clause-orders g c =
    let t = c.hold-held.ensures in
    let h = has_job g.J.Run.clock g.J.Run.orders g.J.Run.code g.J.Run.limits _ _ c.hold-held.new.holder.view _ _ _ _ _ c.self.invariant t.was t.told t.own.0
    t.one t.task t.place in
    held_orders h c.hold-held.new.holder.view refl

pub release-requires-clause-knew : goal.release-requires-clause-knew
release-requires-clause-knew g c =
    let t = c.hold-held.ensures in
    let h = has_job g.J.Run.clock g.J.Run.orders g.J.Run.code g.J.Run.limits _ _ c.hold-held.new.holder.view _ _ _ _ _ c.self.invariant t.was t.told t.own.0
    t.one t.task t.place in
    held_knew h c.hold-held.new.holder.view refl

pub release-requires-clause-strand : goal.release-requires-clause-strand
release-requires-clause-strand g c =
    let t = c.hold-held.ensures in
    let h = has_job g.J.Run.clock g.J.Run.orders g.J.Run.code g.J.Run.limits _ _ c.hold-held.new.holder.view _ _ _ _ _ c.self.invariant t.was t.told t.own.0
    t.one t.task t.place in
    held_strand h c.hold-held.new.holder.view refl refl

pub release-requires-clause-job : goal.release-requires-clause-job
release-requires-clause-job g c =
    let t = c.hold-held.ensures in
    let h = has_job g.J.Run.clock g.J.Run.orders g.J.Run.code g.J.Run.limits _ _ c.hold-held.new.holder.view _ _ _ _ _ c.self.invariant t.was t.told t.own.0
    t.one t.task t.place in
    held_job h c.hold-held.new.holder.view refl refl

pub invariant_of-self-in_default-table_after_get : goal.invariant_of-self-in_default-table_after_get
invariant_of-self-in_default-table_after_get g c =
    let t = c.hold-held.ensures in
    let h = has_job g.J.Run.clock g.J.Run.orders g.J.Run.code g.J.Run.limits _ _ c.hold-held.new.holder.view _ _ _ _ _ c.self.invariant t.was t.told t.own.0
    t.one t.task t.place in
    given_book h c.release.new.holder c.release.new.writer c.hold-held.new.holder.view refl refl refl (c.release.ensures.holder.1 ∙ t.clock)
    c.release.ensures.holder.0 c.release.ensures.writer

pub returns-in_default-table_after_get : goal.returns-in_default-table_after_get
returns-in_default-table_after_get g c =
    let code = g.J.Run.code in
    let future = c.in-Get.future in
    let e = c.in-Get.ensures in
    let adv = has_advanced code c.args.code.now c.job.inside.task c.advance.new.self c.requires.run.2 e.task e.trace e.state e.stops in
    let r = c.reserve.ensures in
    let room = room_of c.advance.new.self c.reserve.new.self r.task r.trace in
    let first = wishes_get code c.args.code.now c.job.inside.task 1000000 future c.requires.run.2 refl e.wish in
    let call = of_call code c.args.job c.job.inside.task c.advance.new.self c.reserve.new.self c.job.inside.place c.job.inside.pace adv room c.job.view_is in
    let t = c.hold-held.ensures in
    let b : BookNow = record {
      limits = c.self.inside.limits;
      holder = c.self.inside.holder;
      writer = c.self.inside.writer;
      lines = c.self.inside.lines.items;
      traces = c.self.inside.traces.items;
      creates = c.self.inside.creates;
      counts = c.self.inside.counts;
      first = c.self.inside.first;
    } in
    let j : JobNow = record { task = c.reserve.new.self; place = c.job.inside.place; pace = c.job.inside.pace } in
    let v = c.hold-held.new.holder.view in
    let held = c.hold-held.result in
    let q = c.release.ensures in
    let back : IsBack c.args.job c.release.result =
    back_held c.args.job j c.release.result held.task held.at held.reach held.pace held.reader b.holder.view v v call t.told refl t.task.0 t.place.0
    t.place.1 t.task.1 t.place.2
    q.task.0 q.task.1 q.place.0 q.place.1 q.pass q.reader in
    subst (λ (y : BookNow). IsRefused y (record b { holder = c.release.new.holder; writer = c.release.new.writer }) c.args.hand.now c.args.hand.now
    c.args.job c.release.result)
    c.self.view_is
    (refused_arm b held.task.number c.hold-held.new.holder c.release.new.holder c.release.new.writer c.args.hand.now c.args.job c.release.result t.own.0
    c.release.ensures.holder.0 back)

pub draw-requires-clause-clock : goal.draw-requires-clause-clock
draw-requires-clause-clock g c =
    let t = c.hold-held.ensures in
    t.clock ∙ c.self.invariant.home.0 ∙ sym (ap (λ (y : Ticking). y.id) c.requires.run.0)

pub draw-requires-clause-asks : goal.draw-requires-clause-asks
draw-requires-clause-asks g c =
    let t = c.hold-held.ensures in
    let h = has_job g.J.Run.clock g.J.Run.orders g.J.Run.code g.J.Run.limits _ _ c.hold-held.new.holder.view _ _ _ _ _ c.self.invariant t.was t.told t.own.0
    t.one t.task t.place in
    let b : BookNow = record {
      limits = c.self.inside.limits;
      holder = c.self.inside.holder;
      writer = c.self.inside.writer;
      lines = c.self.inside.lines.items;
      traces = c.self.inside.traces.items;
      creates = c.self.inside.creates;
      counts = c.self.inside.counts;
      first = c.self.inside.first;
    } in
    let is : IsBook g.J.Run.clock g.J.Run.orders g.J.Run.code g.J.Run.limits b = c.self.invariant in
    let v = c.hold-held.new.holder.view in
    let held = c.hold-held.result in
    let event : Event = event_at held.task.number held.at.number (Gets c.in-Get.future c.in-Some.value c.next_strand.result) in
    subst (λ y. MayAskFor v y) (sym c.entry_of-entry.ensures)
    (may_ask v event (subst (λ y. IsSound (events_in y)) (sym h.known.entries) is.listed.sound) h.known.number (held_carried h v refl refl) tt)

pub release-requires-in_default-draw-clause-run : goal.release-requires-in_default-draw-clause-run
release-requires-in_default-draw-clause-run g c =
    (c.requires.run.0, c.requires.run.1)

pub release-requires-in_default-draw-clause-home : goal.release-requires-in_default-draw-clause-home
release-requires-in_default-draw-clause-home g c =
    let t = c.hold-held.ensures in
    (c.draw.ensures.clock ∙ t.clock ∙ c.self.invariant.home.0, c.self.invariant.home.1, ap (λ (y : Reading). y.home) t.place.2 ∙ t.was.place.orders_is)

pub release-requires-in_default-draw-clause-carried : goal.release-requires-in_default-draw-clause-carried
release-requires-in_default-draw-clause-carried g c =
    let t = c.hold-held.ensures in
    let h = has_job g.J.Run.clock g.J.Run.orders g.J.Run.code g.J.Run.limits _ _ c.hold-held.new.holder.view _ _ _ _ _ c.self.invariant t.was t.told t.own.0
    t.one t.task t.place in
    let away : c.draw.new.holder.view ≡ turned_away c.hold-held.new.holder.view = c.in_default-draw.ensures.drawn.1 in
    held_carried h c.draw.new.holder.view (ap (λ (x : View). book_of x) away) (ap (λ (x : View). x.tasks) away)

pub release-requires-in_default-draw-clause-orders : goal.release-requires-in_default-draw-clause-orders
release-requires-in_default-draw-clause-orders g c =
    let t = c.hold-held.ensures in
    let h = has_job g.J.Run.clock g.J.Run.orders g.J.Run.code g.J.Run.limits _ _ c.hold-held.new.holder.view _ _ _ _ _ c.self.invariant t.was t.told t.own.0
    t.one t.task t.place in
    let away : c.draw.new.holder.view ≡ turned_away c.hold-held.new.holder.view = c.in_default-draw.ensures.drawn.1 in
    held_orders h c.draw.new.holder.view (ap (λ (x : View). book_of x) away)

pub release-requires-in_default-draw-clause-knew : goal.release-requires-in_default-draw-clause-knew
release-requires-in_default-draw-clause-knew g c =
    let t = c.hold-held.ensures in
    let h = has_job g.J.Run.clock g.J.Run.orders g.J.Run.code g.J.Run.limits _ _ c.hold-held.new.holder.view _ _ _ _ _ c.self.invariant t.was t.told t.own.0
    t.one t.task t.place in
    let away : c.draw.new.holder.view ≡ turned_away c.hold-held.new.holder.view = c.in_default-draw.ensures.drawn.1 in
    held_knew h c.draw.new.holder.view (ap (λ (x : View). book_of x) away)

pub release-requires-in_default-draw-clause-strand : goal.release-requires-in_default-draw-clause-strand
release-requires-in_default-draw-clause-strand g c =
    let t = c.hold-held.ensures in
    let h = has_job g.J.Run.clock g.J.Run.orders g.J.Run.code g.J.Run.limits _ _ c.hold-held.new.holder.view _ _ _ _ _ c.self.invariant t.was t.told t.own.0
    t.one t.task t.place in
    let away : c.draw.new.holder.view ≡ turned_away c.hold-held.new.holder.view = c.in_default-draw.ensures.drawn.1 in
    held_strand h c.draw.new.holder.view (ap (λ (x : View). book_of x) away) (ap (λ (x : View). x.tasks) away)

pub release-requires-in_default-draw-clause-job : goal.release-requires-in_default-draw-clause-job
release-requires-in_default-draw-clause-job g c =
    let t = c.hold-held.ensures in
    let h = has_job g.J.Run.clock g.J.Run.orders g.J.Run.code g.J.Run.limits _ _ c.hold-held.new.holder.view _ _ _ _ _ c.self.invariant t.was t.told t.own.0
    t.one t.task t.place in
    let away : c.draw.new.holder.view ≡ turned_away c.hold-held.new.holder.view = c.in_default-draw.ensures.drawn.1 in
    held_job h c.draw.new.holder.view (ap (λ (x : View). book_of x) away) (ap (λ (x : View). x.tasks) away)

pub invariant_of-self-in_default-draw : goal.invariant_of-self-in_default-draw
invariant_of-self-in_default-draw g c =
    let t = c.hold-held.ensures in
    let h = has_job g.J.Run.clock g.J.Run.orders g.J.Run.code g.J.Run.limits _ _ c.hold-held.new.holder.view _ _ _ _ _ c.self.invariant t.was t.told t.own.0
    t.one t.task t.place in
    let away : c.draw.new.holder.view ≡ turned_away c.hold-held.new.holder.view = c.in_default-draw.ensures.drawn.1 in
    given_book h c.release-in_default-draw.new.holder c.release-in_default-draw.new.writer c.draw.new.holder.view (ap (λ (x : View). x.own) away)
    (ap (λ (x : View). x.known) away) (ap (λ (x : View). x.tasks) away) (c.release-in_default-draw.ensures.holder.1 ∙ c.draw.ensures.clock ∙ t.clock)
    c.release-in_default-draw.ensures.holder.0 c.release-in_default-draw.ensures.writer

pub returns-in_default-draw : goal.returns-in_default-draw
returns-in_default-draw g c =
    let code = g.J.Run.code in
    let future = c.in-Get.future in
    let e = c.in-Get.ensures in
    let adv = has_advanced code c.args.code.now c.job.inside.task c.advance.new.self c.requires.run.2 e.task e.trace e.state e.stops in
    let r = c.reserve.ensures in
    let room = room_of c.advance.new.self c.reserve.new.self r.task r.trace in
    let first = wishes_get code c.args.code.now c.job.inside.task 1000000 future c.requires.run.2 refl e.wish in
    let stands = stands_moved code _ c.job.inside.task c.advance.new.self c.reserve.new.self (λ P w. w ≡ ToGet future) adv room c.job.invariant.started
    first in
    let wishes : Stands code c.args.job.task (λ P w. w ≡ ToGet future) =
    subst (λ (x : JobNow). Stands code x.task (λ P w. w ≡ ToGet future)) c.job.view_is first in
    let call = of_call code c.args.job c.job.inside.task c.advance.new.self c.reserve.new.self c.job.inside.place c.job.inside.pace adv room c.job.view_is in
    let t = c.hold-held.ensures in
    let h = has_job g.J.Run.clock g.J.Run.orders g.J.Run.code g.J.Run.limits _ _ c.hold-held.new.holder.view _ _ _ _ _ c.self.invariant t.was t.told t.own.0
    t.one t.task t.place in
    let b : BookNow = record {
      limits = c.self.inside.limits;
      holder = c.self.inside.holder;
      writer = c.self.inside.writer;
      lines = c.self.inside.lines.items;
      traces = c.self.inside.traces.items;
      creates = c.self.inside.creates;
      counts = c.self.inside.counts;
      first = c.self.inside.first;
    } in
    let is : IsBook g.J.Run.clock g.J.Run.orders g.J.Run.code g.J.Run.limits b = c.self.invariant in
    let j : JobNow = record { task = c.reserve.new.self; place = c.job.inside.place; pace = c.job.inside.pace } in
    let v = c.hold-held.new.holder.view in
    let held = c.hold-held.result in
    let l = c.index.result.now in
    let low = future_line g.J.Run.clock g.J.Run.orders g.J.Run.code g.J.Run.limits b j v future is h.known stands in
    let there : slice_get b.lines future ≡ Some l = slice_get_read b.lines (length b.lines) future l refl low c.index.ensures in
    let line = is.listed.lines future l there in
    let has : l.value ≡ Some c.in-Some.value = sym c.value.ensures ∙ c.in-Some.is in
    let away : c.draw.new.holder.view ≡ turned_away c.hold-held.new.holder.view = c.in_default-draw.ensures.drawn.1 in
    let q = c.release-in_default-draw.ensures in
    let back : IsBack c.args.job c.release-in_default-draw.result =
    back_held c.args.job j c.release-in_default-draw.result held.task held.at held.reach held.pace held.reader b.holder.view c.draw.new.holder.view v call
    t.told (ap (λ (x : View). x.known) away) t.task.0 t.place.0 t.place.1 t.task.1 t.place.2
    q.task.0 q.task.1 q.place.0 q.place.1 q.pass q.reader in
    let some : IsSome (value_of (past_in (entries_of b)) future) = subst (λ o. is_some {T = Value} o ≡ true) (sym (sym line.value ∙ has)) refl in
    let out = c.release-in_default-draw.new.holder in
    let w = c.release-in_default-draw.new.writer in
    subst (λ (y : BookNow). IsSpent code g.J.Run.limits.events y (record b { holder = out; writer = w }) c.args.hand.now c.args.hand.now c.args.job
    c.release-in_default-draw.result
    (finish.Events b.limits.events)) c.self.view_is
    (spent_arm code g.J.Run.limits c.args.clock.now.size (event_of c.entry_of-entry.result) b held.task.number c.in_default-draw.field-0
    c.hold-held.new.holder c.draw.new.holder
    out w c.args.hand.now c.args.job c.release-in_default-draw.result is.limits_are.0 t.own.0 c.in_default-draw.ensures.drawn
    c.release-in_default-draw.ensures.holder.0 back
    (free_get code c.args.job.task (past_in (entries_of b)) c.args.job.task.number future some wishes))

pub invariant_of-get : goal.invariant_of-get
invariant_of-get g c =
    record { own = c.self.invariant.home.1 ∙ sym c.requires.run.1 }

pub get-held-requires-clause-at_in : goal.get-held-requires-clause-at_in
get-held-requires-clause-at_in g c =
    let t = c.hold-held.ensures in
    let h = has_job g.J.Run.clock g.J.Run.orders g.J.Run.code g.J.Run.limits _ _ c.hold-held.new.holder.view _ _ _ _ _ c.self.invariant t.was t.told t.own.0
    t.one t.task t.place in
    let b : BookNow = record {
      limits = c.self.inside.limits;
      holder = c.self.inside.holder;
      writer = c.self.inside.writer;
      lines = c.self.inside.lines.items;
      traces = c.self.inside.traces.items;
      creates = c.self.inside.creates;
      counts = c.self.inside.counts;
      first = c.self.inside.first;
    } in
    let is : IsBook g.J.Run.clock g.J.Run.orders g.J.Run.code g.J.Run.limits b = c.self.invariant in
    let v = c.hold-held.new.holder.view in
    let held = c.hold-held.result in
    stands_in (entries_of b) b.writer.lists.english.order b.writer.lists.hebrew.order held.at is.listed.sound is.listed.orders
    (held_ready h v refl refl).holds.placed.0

pub get-held-requires-clause-room : goal.get-held-requires-clause-room
get-held-requires-clause-room g c =
    let t = c.hold-held.ensures in
    let h = has_job g.J.Run.clock g.J.Run.orders g.J.Run.code g.J.Run.limits _ _ c.hold-held.new.holder.view _ _ _ _ _ c.self.invariant t.was t.told t.own.0
    t.one t.task t.place in
    let b : BookNow = record {
      limits = c.self.inside.limits;
      holder = c.self.inside.holder;
      writer = c.self.inside.writer;
      lines = c.self.inside.lines.items;
      traces = c.self.inside.traces.items;
      creates = c.self.inside.creates;
      counts = c.self.inside.counts;
      first = c.self.inside.first;
    } in
    let is : IsBook g.J.Run.clock g.J.Run.orders g.J.Run.code g.J.Run.limits b = c.self.invariant in
    let k = c.in-At.ticket in
    let below : k < g.J.Run.limits.events =
    subst (λ n. k < n) (ap (λ (y : Ticking). y.size.bound) c.requires.run.0 ∙ is.limits_are.1) c.in-At.ensures.drawn.0 in
    let low : (y : ℕ × Event) → Among y (entries_of b) → y.0 < k = λ y a. c.in-At.ensures.drawn.1.known 0 y (subst (Among y) (sym h.known.known) a) in
    let has : HasRoom b.writer.lists.english.order b.writer.lists.english.room =
    has_room (entries_of b) b.writer.lists.english.order b.writer.lists.hebrew.order b.writer.lists.english.room k g.J.Run.limits.events is.listed.sound
    is.listed.orders
    is.listed.rises low below is.room is.small in
    let two = has.two in
    omega (arith, two)

pub feed-requires : goal.feed-requires
feed-requires g c =
    subst (λ (y : TaskNow). 1 ≤ y.trace.spare) (sym c.hold-held.ensures.task.0) c.in-Ok.ensures.room

pub go_on-requires : goal.go_on-requires
go_on-requires g c =
    let t = c.hold-held.ensures in
    let h = has_job g.J.Run.clock g.J.Run.orders g.J.Run.code g.J.Run.limits _ _ c.hold-held.new.holder.view _ _ _ _ _ c.self.invariant t.was t.told t.own.0
    t.one t.task t.place in
    let b : BookNow = record {
      limits = c.self.inside.limits;
      holder = c.self.inside.holder;
      writer = c.self.inside.writer;
      lines = c.self.inside.lines.items;
      traces = c.self.inside.traces.items;
      creates = c.self.inside.creates;
      counts = c.self.inside.counts;
      first = c.self.inside.first;
    } in
    let is : IsBook g.J.Run.clock g.J.Run.orders g.J.Run.code g.J.Run.limits b = c.self.invariant in
    let k = c.in-At.ticket in
    let below : k < g.J.Run.limits.events =
    subst (λ n. k < n) (ap (λ (y : Ticking). y.size.bound) c.requires.run.0 ∙ is.limits_are.1) c.in-At.ensures.drawn.0 in
    let low : (y : ℕ × Event) → Among y (entries_of b) → y.0 < k = λ y a. c.in-At.ensures.drawn.1.known 0 y (subst (Among y) (sym h.known.known) a) in
    let few = few_tickets (entries_of b) k is.listed.rises low in
    let events = is.counted.events in
    omega (arith, few, events, below)

pub release-requires-2-clause-run : goal.release-requires-2-clause-run
release-requires-2-clause-run g c =
    (c.requires.run.0, c.requires.run.1)

pub release-requires-2-clause-home : goal.release-requires-2-clause-home
release-requires-2-clause-home g c =
    let t = c.hold-held.ensures in (
      c.draw.ensures.clock ∙ t.clock ∙ c.self.invariant.home.0,
      c.get-held.new.placer.own ∙ ap (λ y. y.0) c.get-held.ensures.put.home ∙ c.requires.run.1,
      ap (λ (y : Reading). y.home) t.place.2 ∙ t.was.place.orders_is,
    )

pub release-requires-2-clause-carried : goal.release-requires-2-clause-carried
release-requires-2-clause-carried g c =
    let code = g.J.Run.code in
    let future = c.in-Get.future in
    let e = c.in-Get.ensures in
    let adv = has_advanced code c.args.code.now c.job.inside.task c.advance.new.self c.requires.run.2 e.task e.trace e.state e.stops in
    let r = c.reserve.ensures in
    let room = room_of c.advance.new.self c.reserve.new.self r.task r.trace in
    let first = wishes_get code c.args.code.now c.job.inside.task 1000000 future c.requires.run.2 refl e.wish in
    let stands = stands_moved code _ c.job.inside.task c.advance.new.self c.reserve.new.self (λ P w. w ≡ ToGet future) adv room c.job.invariant.started
    first in
    let t = c.hold-held.ensures in
    let h = has_job g.J.Run.clock g.J.Run.orders g.J.Run.code g.J.Run.limits _ _ c.hold-held.new.holder.view _ _ _ _ _ c.self.invariant t.was t.told t.own.0
    t.one t.task t.place in
    let b : BookNow = record {
      limits = c.self.inside.limits;
      holder = c.self.inside.holder;
      writer = c.self.inside.writer;
      lines = c.self.inside.lines.items;
      traces = c.self.inside.traces.items;
      creates = c.self.inside.creates;
      counts = c.self.inside.counts;
      first = c.self.inside.first;
    } in
    let is : IsBook g.J.Run.clock g.J.Run.orders g.J.Run.code g.J.Run.limits b = c.self.invariant in
    let j : JobNow = record { task = c.reserve.new.self; place = c.job.inside.place; pace = c.job.inside.pace } in
    let v = c.hold-held.new.holder.view in
    let held = c.hold-held.result in
    let l = c.index.result.now in
    let low = future_line g.J.Run.clock g.J.Run.orders g.J.Run.code g.J.Run.limits b j v future is h.known stands in
    let there : slice_get b.lines future ≡ Some l = slice_get_read b.lines (length b.lines) future l refl low c.index.ensures in
    let has : l.value ≡ Some c.in-Some.value = sym c.value.ensures ∙ c.in-Some.is in
    let k = c.in-At.ticket in
    let value = c.in-Some.value in
    let x = c.get-held.result.number in
    let next : x ≡ length b.writer.lists.english.order = c.get-held.ensures.number in
    let event : Event = event_at j.task.number j.place.at.number (Gets future value x) in
    let event_is : event_of c.entry_of-entry.result ≡ event =
    c.entry_of-entry.ensures ∙ ap (λ (y : TaskNow). event_at y.number held.at.number (Gets future value c.next_strand.result)) t.task.0
    ∙ ap (λ (y : Strand). event_at j.task.number y.number (Gets future value c.next_strand.result)) t.place.0
    ∙ ap (λ y. event_at j.task.number j.place.at.number (Gets future value y)) (c.next_strand.ensures ∙ sym next) in
    let below : k < g.J.Run.limits.events =
    subst (λ n. k < n) (ap (λ (y : Ticking). y.size.bound) c.requires.run.0 ∙ is.limits_are.1) c.in-At.ensures.drawn.0 in
    let above : IsAbove k v = c.in-At.ensures.drawn.1 in
    let u = c.draw.new.holder.view in
    let drew : u ≡ drawn k event v = c.in-At.ensures.drawn.2 ∙ ap (λ y. drawn k y v) event_is in
    let later : List (ℕ × Event) = entries_of b ++ (k, event) ∷ [] in
    let sound : IsSound (events_in later) = get_sound g.J.Run.clock g.J.Run.orders g.J.Run.code g.J.Run.limits b j v k x future value l is h.known t.one
    there has stands next below above in
    let belongs : Belongs (events_in (entries_of b)) j.task.number j.place.at (Gets future value x) c.get-held.result =
    subst (λ (y : Strand). Belongs (events_in (entries_of b)) j.task.number y (Gets future value x) c.get-held.result) t.place.0
    (c.get-held.ensures.belongs (events_in (entries_of b)) j.task.number future value) in
    let table : List Strand = c.in-Ok-table_after_get.table in
    let tables : TablesGet b.lines b.writer.lists j.place.table j.place.at.future future table =
    subst (λ (y : Strand). TablesGet b.lines b.writer.lists j.place.table y.future future table) t.place.0
    (subst (λ (y : List Strand). TablesGet b.lines b.writer.lists y held.at.future future table) t.place.1
    (subst (λ (y : Lists). TablesGet b.lines y held.reach held.at.future future table) c.lists.ensures
    (subst (λ (y : List LineNow). TablesGet y c.lists.result.now held.reach held.at.future future table) c.as_slice.ensures.value
    c.in-Ok-table_after_get.ensures))) in
    let stood : HasStrand later c.get-held.result table =
    stand_got code (entries_of b) b.lines b.writer.lists k j.task.number j.place.at.future future value j.place.at c.get-held.result j.place.table table sound
    (stands_by g.J.Run.clock g.J.Run.orders g.J.Run.code g.J.Run.limits b j v is h.known) tables belongs in
    let new = c.feed.new.self in
    let act_is : action_of c.entry_of-entry.result.act ≡ Gets future value x = ap (λ (y : Event). y.action) event_is in
    let number : new.number ≡ j.task.number = c.feed.ensures.task.0 ∙ ap (λ (y : TaskNow). y.number) t.task.0 in
    let which : new.which ≡ j.task.which = c.feed.ensures.task.1 ∙ ap (λ (y : TaskNow). y.which) t.task.0 in
    let ended : new.spot.ended ≡ j.task.spot.ended =
    ap (λ (y : Spot). y.ended) c.feed.ensures.spot ∙ ap (λ y. ended_after held.task.spot.ended y) act_is ∙ ap (λ (y : TaskNow). y.spot.ended) t.task.0 in
    let trace : drawn_of new.trace.items ≡ drawn_of j.task.trace.items ++ (k, event) ∷ [] =
    trace_fed new.trace.items j.task.trace.items k c.entry_of-entry.result event
    (c.feed.ensures.trace ∙ ap (λ (y : TaskNow). y.trace.items ++ (k, c.entry_of-entry.result) ∷ []) t.task.0) event_is in
    let feeds = feeds_as code c.args.code.now j.task held.task new (action_of c.entry_of-entry.result.act) (Gets future value x) c.requires.run.2 t.task.0
    act_is
    (still_room code c.advance.new.self c.reserve.new.self room adv.still) t.was.running c.feed.ensures.state in
    let ready_new : IsReady code later new c.get-held.result table c.go_on.new.pace (drawn k event v) =
    get_ready g.J.Run.clock g.J.Run.orders g.J.Run.code g.J.Run.limits b j v k x future value l is h.known t.one there has stands next below above new
    c.get-held.result table c.go_on.new.pace
    number which ended trace feeds refl stood.0 stood.1 c.go_on.ensures.pace in
    let ready : IsReady code later new c.get-held.result table c.go_on.new.pace u =
    subst (λ (y : View). IsReady code later new c.get-held.result table c.go_on.new.pace y) (sym drew) ready_new in
    ready_carried code later new c.get-held.result table c.go_on.new.pace u ready

pub release-requires-2-clause-orders : goal.release-requires-2-clause-orders
release-requires-2-clause-orders g c =
    let code = g.J.Run.code in
    let future = c.in-Get.future in
    let e = c.in-Get.ensures in
    let adv = has_advanced code c.args.code.now c.job.inside.task c.advance.new.self c.requires.run.2 e.task e.trace e.state e.stops in
    let r = c.reserve.ensures in
    let room = room_of c.advance.new.self c.reserve.new.self r.task r.trace in
    let first = wishes_get code c.args.code.now c.job.inside.task 1000000 future c.requires.run.2 refl e.wish in
    let stands = stands_moved code _ c.job.inside.task c.advance.new.self c.reserve.new.self (λ P w. w ≡ ToGet future) adv room c.job.invariant.started
    first in
    let t = c.hold-held.ensures in
    let h = has_job g.J.Run.clock g.J.Run.orders g.J.Run.code g.J.Run.limits _ _ c.hold-held.new.holder.view _ _ _ _ _ c.self.invariant t.was t.told t.own.0
    t.one t.task t.place in
    let b : BookNow = record {
      limits = c.self.inside.limits;
      holder = c.self.inside.holder;
      writer = c.self.inside.writer;
      lines = c.self.inside.lines.items;
      traces = c.self.inside.traces.items;
      creates = c.self.inside.creates;
      counts = c.self.inside.counts;
      first = c.self.inside.first;
    } in
    let is : IsBook g.J.Run.clock g.J.Run.orders g.J.Run.code g.J.Run.limits b = c.self.invariant in
    let j : JobNow = record { task = c.reserve.new.self; place = c.job.inside.place; pace = c.job.inside.pace } in
    let v = c.hold-held.new.holder.view in
    let held = c.hold-held.result in
    let l = c.index.result.now in
    let low = future_line g.J.Run.clock g.J.Run.orders g.J.Run.code g.J.Run.limits b j v future is h.known stands in
    let there : slice_get b.lines future ≡ Some l = slice_get_read b.lines (length b.lines) future l refl low c.index.ensures in
    let has : l.value ≡ Some c.in-Some.value = sym c.value.ensures ∙ c.in-Some.is in
    let k = c.in-At.ticket in
    let value = c.in-Some.value in
    let x = c.get-held.result.number in
    let next : x ≡ length b.writer.lists.english.order = c.get-held.ensures.number in
    let event : Event = event_at j.task.number j.place.at.number (Gets future value x) in
    let event_is : event_of c.entry_of-entry.result ≡ event =
    c.entry_of-entry.ensures ∙ ap (λ (y : TaskNow). event_at y.number held.at.number (Gets future value c.next_strand.result)) t.task.0
    ∙ ap (λ (y : Strand). event_at j.task.number y.number (Gets future value c.next_strand.result)) t.place.0
    ∙ ap (λ y. event_at j.task.number j.place.at.number (Gets future value y)) (c.next_strand.ensures ∙ sym next) in
    let below : k < g.J.Run.limits.events =
    subst (λ n. k < n) (ap (λ (y : Ticking). y.size.bound) c.requires.run.0 ∙ is.limits_are.1) c.in-At.ensures.drawn.0 in
    let above : IsAbove k v = c.in-At.ensures.drawn.1 in
    let u = c.draw.new.holder.view in
    let drew : u ≡ drawn k event v = c.in-At.ensures.drawn.2 ∙ ap (λ y. drawn k y v) event_is in
    let later : List (ℕ × Event) = entries_of b ++ (k, event) ∷ [] in
    let writer = c.get-held.new.placer.writer.now in
    let sound : IsSound (events_in later) = get_sound g.J.Run.clock g.J.Run.orders g.J.Run.code g.J.Run.limits b j v k x future value l is h.known t.one
    there has stands next below above in
    let extends : Extends (events_in (entries_of b)) j.task.number j.place.at.number (Gets future value x) b.writer.lists.english.order
    b.writer.lists.hebrew.order
    writer.lists.english.order writer.lists.hebrew.order =
    subst (λ (y : Strand). Extends (events_in (entries_of b)) j.task.number y.number (Gets future value x) b.writer.lists.english.order
    b.writer.lists.hebrew.order
    writer.lists.english.order writer.lists.hebrew.order) t.place.0 (c.get-held.ensures.extends (events_in (entries_of b)) j.task.number future value) in
    let roomy : AreRoomy later g.J.Run.limits.events writer.lists =
    roomy_add (entries_of b) g.J.Run.limits.events k j.task.number j.place.at.number (Gets future value x) b.writer.lists writer.lists sound
    (record { orders = is.listed.orders; room = is.room }) extends c.get-held.ensures.put.spare in
    let belongs : Belongs (events_in (entries_of b)) j.task.number j.place.at (Gets future value x) c.get-held.result =
    subst (λ (y : Strand). Belongs (events_in (entries_of b)) j.task.number y (Gets future value x) c.get-held.result) t.place.0
    (c.get-held.ensures.belongs (events_in (entries_of b)) j.task.number future value) in
    let table : List Strand = c.in-Ok-table_after_get.table in
    let tables : TablesGet b.lines b.writer.lists j.place.table j.place.at.future future table =
    subst (λ (y : Strand). TablesGet b.lines b.writer.lists j.place.table y.future future table) t.place.0
    (subst (λ (y : List Strand). TablesGet b.lines b.writer.lists y held.at.future future table) t.place.1
    (subst (λ (y : Lists). TablesGet b.lines y held.reach held.at.future future table) c.lists.ensures
    (subst (λ (y : List LineNow). TablesGet y c.lists.result.now held.reach held.at.future future table) c.as_slice.ensures.value
    c.in-Ok-table_after_get.ensures))) in
    let stood : HasStrand later c.get-held.result table =
    stand_got code (entries_of b) b.lines b.writer.lists k j.task.number j.place.at.future future value j.place.at c.get-held.result j.place.table table sound
    (stands_by g.J.Run.clock g.J.Run.orders g.J.Run.code g.J.Run.limits b j v is h.known) tables belongs in
    let new = c.feed.new.self in
    let act_is : action_of c.entry_of-entry.result.act ≡ Gets future value x = ap (λ (y : Event). y.action) event_is in
    let number : new.number ≡ j.task.number = c.feed.ensures.task.0 ∙ ap (λ (y : TaskNow). y.number) t.task.0 in
    let which : new.which ≡ j.task.which = c.feed.ensures.task.1 ∙ ap (λ (y : TaskNow). y.which) t.task.0 in
    let ended : new.spot.ended ≡ j.task.spot.ended =
    ap (λ (y : Spot). y.ended) c.feed.ensures.spot ∙ ap (λ y. ended_after held.task.spot.ended y) act_is ∙ ap (λ (y : TaskNow). y.spot.ended) t.task.0 in
    let trace : drawn_of new.trace.items ≡ drawn_of j.task.trace.items ++ (k, event) ∷ [] =
    trace_fed new.trace.items j.task.trace.items k c.entry_of-entry.result event
    (c.feed.ensures.trace ∙ ap (λ (y : TaskNow). y.trace.items ++ (k, c.entry_of-entry.result) ∷ []) t.task.0) event_is in
    let feeds = feeds_as code c.args.code.now j.task held.task new (action_of c.entry_of-entry.result.act) (Gets future value x) c.requires.run.2 t.task.0
    act_is
    (still_room code c.advance.new.self c.reserve.new.self room adv.still) t.was.running c.feed.ensures.state in
    let ready_new : IsReady code later new c.get-held.result table c.go_on.new.pace (drawn k event v) =
    get_ready g.J.Run.clock g.J.Run.orders g.J.Run.code g.J.Run.limits b j v k x future value l is h.known t.one there has stands next below above new
    c.get-held.result table c.go_on.new.pace
    number which ended trace feeds refl stood.0 stood.1 c.go_on.ensures.pace in
    let ready : IsReady code later new c.get-held.result table c.go_on.new.pace u =
    subst (λ (y : View). IsReady code later new c.get-held.result table c.go_on.new.pace y) (sym drew) ready_new in
    subst (λ y. IsSound (events_in y) × AreOrders (events_in y) writer.lists.english.order writer.lists.hebrew.order) (sym ready.known) (sound, roomy.orders)

pub release-requires-2-clause-knew : goal.release-requires-2-clause-knew
release-requires-2-clause-knew g c =
    let code = g.J.Run.code in
    let future = c.in-Get.future in
    let e = c.in-Get.ensures in
    let adv = has_advanced code c.args.code.now c.job.inside.task c.advance.new.self c.requires.run.2 e.task e.trace e.state e.stops in
    let r = c.reserve.ensures in
    let room = room_of c.advance.new.self c.reserve.new.self r.task r.trace in
    let first = wishes_get code c.args.code.now c.job.inside.task 1000000 future c.requires.run.2 refl e.wish in
    let stands = stands_moved code _ c.job.inside.task c.advance.new.self c.reserve.new.self (λ P w. w ≡ ToGet future) adv room c.job.invariant.started
    first in
    let t = c.hold-held.ensures in
    let h = has_job g.J.Run.clock g.J.Run.orders g.J.Run.code g.J.Run.limits _ _ c.hold-held.new.holder.view _ _ _ _ _ c.self.invariant t.was t.told t.own.0
    t.one t.task t.place in
    let b : BookNow = record {
      limits = c.self.inside.limits;
      holder = c.self.inside.holder;
      writer = c.self.inside.writer;
      lines = c.self.inside.lines.items;
      traces = c.self.inside.traces.items;
      creates = c.self.inside.creates;
      counts = c.self.inside.counts;
      first = c.self.inside.first;
    } in
    let is : IsBook g.J.Run.clock g.J.Run.orders g.J.Run.code g.J.Run.limits b = c.self.invariant in
    let j : JobNow = record { task = c.reserve.new.self; place = c.job.inside.place; pace = c.job.inside.pace } in
    let v = c.hold-held.new.holder.view in
    let held = c.hold-held.result in
    let l = c.index.result.now in
    let low = future_line g.J.Run.clock g.J.Run.orders g.J.Run.code g.J.Run.limits b j v future is h.known stands in
    let there : slice_get b.lines future ≡ Some l = slice_get_read b.lines (length b.lines) future l refl low c.index.ensures in
    let has : l.value ≡ Some c.in-Some.value = sym c.value.ensures ∙ c.in-Some.is in
    let k = c.in-At.ticket in
    let value = c.in-Some.value in
    let x = c.get-held.result.number in
    let next : x ≡ length b.writer.lists.english.order = c.get-held.ensures.number in
    let event : Event = event_at j.task.number j.place.at.number (Gets future value x) in
    let event_is : event_of c.entry_of-entry.result ≡ event =
    c.entry_of-entry.ensures ∙ ap (λ (y : TaskNow). event_at y.number held.at.number (Gets future value c.next_strand.result)) t.task.0
    ∙ ap (λ (y : Strand). event_at j.task.number y.number (Gets future value c.next_strand.result)) t.place.0
    ∙ ap (λ y. event_at j.task.number j.place.at.number (Gets future value y)) (c.next_strand.ensures ∙ sym next) in
    let below : k < g.J.Run.limits.events =
    subst (λ n. k < n) (ap (λ (y : Ticking). y.size.bound) c.requires.run.0 ∙ is.limits_are.1) c.in-At.ensures.drawn.0 in
    let above : IsAbove k v = c.in-At.ensures.drawn.1 in
    let u = c.draw.new.holder.view in
    let drew : u ≡ drawn k event v = c.in-At.ensures.drawn.2 ∙ ap (λ y. drawn k y v) event_is in
    let later : List (ℕ × Event) = entries_of b ++ (k, event) ∷ [] in
    let sound : IsSound (events_in later) = get_sound g.J.Run.clock g.J.Run.orders g.J.Run.code g.J.Run.limits b j v k x future value l is h.known t.one
    there has stands next below above in
    let belongs : Belongs (events_in (entries_of b)) j.task.number j.place.at (Gets future value x) c.get-held.result =
    subst (λ (y : Strand). Belongs (events_in (entries_of b)) j.task.number y (Gets future value x) c.get-held.result) t.place.0
    (c.get-held.ensures.belongs (events_in (entries_of b)) j.task.number future value) in
    let table : List Strand = c.in-Ok-table_after_get.table in
    let tables : TablesGet b.lines b.writer.lists j.place.table j.place.at.future future table =
    subst (λ (y : Strand). TablesGet b.lines b.writer.lists j.place.table y.future future table) t.place.0
    (subst (λ (y : List Strand). TablesGet b.lines b.writer.lists y held.at.future future table) t.place.1
    (subst (λ (y : Lists). TablesGet b.lines y held.reach held.at.future future table) c.lists.ensures
    (subst (λ (y : List LineNow). TablesGet y c.lists.result.now held.reach held.at.future future table) c.as_slice.ensures.value
    c.in-Ok-table_after_get.ensures))) in
    let stood : HasStrand later c.get-held.result table =
    stand_got code (entries_of b) b.lines b.writer.lists k j.task.number j.place.at.future future value j.place.at c.get-held.result j.place.table table sound
    (stands_by g.J.Run.clock g.J.Run.orders g.J.Run.code g.J.Run.limits b j v is h.known) tables belongs in
    let new = c.feed.new.self in
    let act_is : action_of c.entry_of-entry.result.act ≡ Gets future value x = ap (λ (y : Event). y.action) event_is in
    let number : new.number ≡ j.task.number = c.feed.ensures.task.0 ∙ ap (λ (y : TaskNow). y.number) t.task.0 in
    let which : new.which ≡ j.task.which = c.feed.ensures.task.1 ∙ ap (λ (y : TaskNow). y.which) t.task.0 in
    let ended : new.spot.ended ≡ j.task.spot.ended =
    ap (λ (y : Spot). y.ended) c.feed.ensures.spot ∙ ap (λ y. ended_after held.task.spot.ended y) act_is ∙ ap (λ (y : TaskNow). y.spot.ended) t.task.0 in
    let trace : drawn_of new.trace.items ≡ drawn_of j.task.trace.items ++ (k, event) ∷ [] =
    trace_fed new.trace.items j.task.trace.items k c.entry_of-entry.result event
    (c.feed.ensures.trace ∙ ap (λ (y : TaskNow). y.trace.items ++ (k, c.entry_of-entry.result) ∷ []) t.task.0) event_is in
    let feeds = feeds_as code c.args.code.now j.task held.task new (action_of c.entry_of-entry.result.act) (Gets future value x) c.requires.run.2 t.task.0
    act_is
    (still_room code c.advance.new.self c.reserve.new.self room adv.still) t.was.running c.feed.ensures.state in
    let ready_new : IsReady code later new c.get-held.result table c.go_on.new.pace (drawn k event v) =
    get_ready g.J.Run.clock g.J.Run.orders g.J.Run.code g.J.Run.limits b j v k x future value l is h.known t.one there has stands next below above new
    c.get-held.result table c.go_on.new.pace
    number which ended trace feeds refl stood.0 stood.1 c.go_on.ensures.pace in
    let ready : IsReady code later new c.get-held.result table c.go_on.new.pace u =
    subst (λ (y : View). IsReady code later new c.get-held.result table c.go_on.new.pace y) (sym drew) ready_new in
    let begins : IsPrefix (known_to j) later =
    prefix_more (known_to j) (entries_of b) ((k, event) ∷ []) (subst (λ y. IsPrefix (known_to j) y) h.known.known h.begins) in
    reader_knew g.J.Run.clock g.J.Run.orders j held.reader u t.was.place t.place.2 (subst (λ y. IsPrefix (known_to j) y) (sym ready.known) begins)

pub release-requires-2-clause-strand : goal.release-requires-2-clause-strand
release-requires-2-clause-strand g c =
    let code = g.J.Run.code in
    let future = c.in-Get.future in
    let e = c.in-Get.ensures in
    let adv = has_advanced code c.args.code.now c.job.inside.task c.advance.new.self c.requires.run.2 e.task e.trace e.state e.stops in
    let r = c.reserve.ensures in
    let room = room_of c.advance.new.self c.reserve.new.self r.task r.trace in
    let first = wishes_get code c.args.code.now c.job.inside.task 1000000 future c.requires.run.2 refl e.wish in
    let stands = stands_moved code _ c.job.inside.task c.advance.new.self c.reserve.new.self (λ P w. w ≡ ToGet future) adv room c.job.invariant.started
    first in
    let t = c.hold-held.ensures in
    let h = has_job g.J.Run.clock g.J.Run.orders g.J.Run.code g.J.Run.limits _ _ c.hold-held.new.holder.view _ _ _ _ _ c.self.invariant t.was t.told t.own.0
    t.one t.task t.place in
    let b : BookNow = record {
      limits = c.self.inside.limits;
      holder = c.self.inside.holder;
      writer = c.self.inside.writer;
      lines = c.self.inside.lines.items;
      traces = c.self.inside.traces.items;
      creates = c.self.inside.creates;
      counts = c.self.inside.counts;
      first = c.self.inside.first;
    } in
    let is : IsBook g.J.Run.clock g.J.Run.orders g.J.Run.code g.J.Run.limits b = c.self.invariant in
    let j : JobNow = record { task = c.reserve.new.self; place = c.job.inside.place; pace = c.job.inside.pace } in
    let v = c.hold-held.new.holder.view in
    let held = c.hold-held.result in
    let l = c.index.result.now in
    let low = future_line g.J.Run.clock g.J.Run.orders g.J.Run.code g.J.Run.limits b j v future is h.known stands in
    let there : slice_get b.lines future ≡ Some l = slice_get_read b.lines (length b.lines) future l refl low c.index.ensures in
    let has : l.value ≡ Some c.in-Some.value = sym c.value.ensures ∙ c.in-Some.is in
    let k = c.in-At.ticket in
    let value = c.in-Some.value in
    let x = c.get-held.result.number in
    let next : x ≡ length b.writer.lists.english.order = c.get-held.ensures.number in
    let event : Event = event_at j.task.number j.place.at.number (Gets future value x) in
    let event_is : event_of c.entry_of-entry.result ≡ event =
    c.entry_of-entry.ensures ∙ ap (λ (y : TaskNow). event_at y.number held.at.number (Gets future value c.next_strand.result)) t.task.0
    ∙ ap (λ (y : Strand). event_at j.task.number y.number (Gets future value c.next_strand.result)) t.place.0
    ∙ ap (λ y. event_at j.task.number j.place.at.number (Gets future value y)) (c.next_strand.ensures ∙ sym next) in
    let below : k < g.J.Run.limits.events =
    subst (λ n. k < n) (ap (λ (y : Ticking). y.size.bound) c.requires.run.0 ∙ is.limits_are.1) c.in-At.ensures.drawn.0 in
    let above : IsAbove k v = c.in-At.ensures.drawn.1 in
    let u = c.draw.new.holder.view in
    let drew : u ≡ drawn k event v = c.in-At.ensures.drawn.2 ∙ ap (λ y. drawn k y v) event_is in
    let later : List (ℕ × Event) = entries_of b ++ (k, event) ∷ [] in
    let sound : IsSound (events_in later) = get_sound g.J.Run.clock g.J.Run.orders g.J.Run.code g.J.Run.limits b j v k x future value l is h.known t.one
    there has stands next below above in
    let belongs : Belongs (events_in (entries_of b)) j.task.number j.place.at (Gets future value x) c.get-held.result =
    subst (λ (y : Strand). Belongs (events_in (entries_of b)) j.task.number y (Gets future value x) c.get-held.result) t.place.0
    (c.get-held.ensures.belongs (events_in (entries_of b)) j.task.number future value) in
    let table : List Strand = c.in-Ok-table_after_get.table in
    let tables : TablesGet b.lines b.writer.lists j.place.table j.place.at.future future table =
    subst (λ (y : Strand). TablesGet b.lines b.writer.lists j.place.table y.future future table) t.place.0
    (subst (λ (y : List Strand). TablesGet b.lines b.writer.lists y held.at.future future table) t.place.1
    (subst (λ (y : Lists). TablesGet b.lines y held.reach held.at.future future table) c.lists.ensures
    (subst (λ (y : List LineNow). TablesGet y c.lists.result.now held.reach held.at.future future table) c.as_slice.ensures.value
    c.in-Ok-table_after_get.ensures))) in
    let stood : HasStrand later c.get-held.result table =
    stand_got code (entries_of b) b.lines b.writer.lists k j.task.number j.place.at.future future value j.place.at c.get-held.result j.place.table table sound
    (stands_by g.J.Run.clock g.J.Run.orders g.J.Run.code g.J.Run.limits b j v is h.known) tables belongs in
    let new = c.feed.new.self in
    let act_is : action_of c.entry_of-entry.result.act ≡ Gets future value x = ap (λ (y : Event). y.action) event_is in
    let number : new.number ≡ j.task.number = c.feed.ensures.task.0 ∙ ap (λ (y : TaskNow). y.number) t.task.0 in
    let which : new.which ≡ j.task.which = c.feed.ensures.task.1 ∙ ap (λ (y : TaskNow). y.which) t.task.0 in
    let ended : new.spot.ended ≡ j.task.spot.ended =
    ap (λ (y : Spot). y.ended) c.feed.ensures.spot ∙ ap (λ y. ended_after held.task.spot.ended y) act_is ∙ ap (λ (y : TaskNow). y.spot.ended) t.task.0 in
    let trace : drawn_of new.trace.items ≡ drawn_of j.task.trace.items ++ (k, event) ∷ [] =
    trace_fed new.trace.items j.task.trace.items k c.entry_of-entry.result event
    (c.feed.ensures.trace ∙ ap (λ (y : TaskNow). y.trace.items ++ (k, c.entry_of-entry.result) ∷ []) t.task.0) event_is in
    let feeds = feeds_as code c.args.code.now j.task held.task new (action_of c.entry_of-entry.result.act) (Gets future value x) c.requires.run.2 t.task.0
    act_is
    (still_room code c.advance.new.self c.reserve.new.self room adv.still) t.was.running c.feed.ensures.state in
    let ready_new : IsReady code later new c.get-held.result table c.go_on.new.pace (drawn k event v) =
    get_ready g.J.Run.clock g.J.Run.orders g.J.Run.code g.J.Run.limits b j v k x future value l is h.known t.one there has stands next below above new
    c.get-held.result table c.go_on.new.pace
    number which ended trace feeds refl stood.0 stood.1 c.go_on.ensures.pace in
    let ready : IsReady code later new c.get-held.result table c.go_on.new.pace u =
    subst (λ (y : View). IsReady code later new c.get-held.result table c.go_on.new.pace y) (sym drew) ready_new in
    ready_strand code later new c.get-held.result table c.go_on.new.pace u ready

pub release-requires-2-clause-job : goal.release-requires-2-clause-job
release-requires-2-clause-job g c =
    let code = g.J.Run.code in
    let future = c.in-Get.future in
    let e = c.in-Get.ensures in
    let adv = has_advanced code c.args.code.now c.job.inside.task c.advance.new.self c.requires.run.2 e.task e.trace e.state e.stops in
    let r = c.reserve.ensures in
    let room = room_of c.advance.new.self c.reserve.new.self r.task r.trace in
    let first = wishes_get code c.args.code.now c.job.inside.task 1000000 future c.requires.run.2 refl e.wish in
    let stands = stands_moved code _ c.job.inside.task c.advance.new.self c.reserve.new.self (λ P w. w ≡ ToGet future) adv room c.job.invariant.started
    first in
    let t = c.hold-held.ensures in
    let h = has_job g.J.Run.clock g.J.Run.orders g.J.Run.code g.J.Run.limits _ _ c.hold-held.new.holder.view _ _ _ _ _ c.self.invariant t.was t.told t.own.0
    t.one t.task t.place in
    let b : BookNow = record {
      limits = c.self.inside.limits;
      holder = c.self.inside.holder;
      writer = c.self.inside.writer;
      lines = c.self.inside.lines.items;
      traces = c.self.inside.traces.items;
      creates = c.self.inside.creates;
      counts = c.self.inside.counts;
      first = c.self.inside.first;
    } in
    let is : IsBook g.J.Run.clock g.J.Run.orders g.J.Run.code g.J.Run.limits b = c.self.invariant in
    let j : JobNow = record { task = c.reserve.new.self; place = c.job.inside.place; pace = c.job.inside.pace } in
    let v = c.hold-held.new.holder.view in
    let held = c.hold-held.result in
    let l = c.index.result.now in
    let low = future_line g.J.Run.clock g.J.Run.orders g.J.Run.code g.J.Run.limits b j v future is h.known stands in
    let there : slice_get b.lines future ≡ Some l = slice_get_read b.lines (length b.lines) future l refl low c.index.ensures in
    let has : l.value ≡ Some c.in-Some.value = sym c.value.ensures ∙ c.in-Some.is in
    let k = c.in-At.ticket in
    let value = c.in-Some.value in
    let x = c.get-held.result.number in
    let next : x ≡ length b.writer.lists.english.order = c.get-held.ensures.number in
    let event : Event = event_at j.task.number j.place.at.number (Gets future value x) in
    let event_is : event_of c.entry_of-entry.result ≡ event =
    c.entry_of-entry.ensures ∙ ap (λ (y : TaskNow). event_at y.number held.at.number (Gets future value c.next_strand.result)) t.task.0
    ∙ ap (λ (y : Strand). event_at j.task.number y.number (Gets future value c.next_strand.result)) t.place.0
    ∙ ap (λ y. event_at j.task.number j.place.at.number (Gets future value y)) (c.next_strand.ensures ∙ sym next) in
    let below : k < g.J.Run.limits.events =
    subst (λ n. k < n) (ap (λ (y : Ticking). y.size.bound) c.requires.run.0 ∙ is.limits_are.1) c.in-At.ensures.drawn.0 in
    let above : IsAbove k v = c.in-At.ensures.drawn.1 in
    let u = c.draw.new.holder.view in
    let drew : u ≡ drawn k event v = c.in-At.ensures.drawn.2 ∙ ap (λ y. drawn k y v) event_is in
    let later : List (ℕ × Event) = entries_of b ++ (k, event) ∷ [] in
    let sound : IsSound (events_in later) = get_sound g.J.Run.clock g.J.Run.orders g.J.Run.code g.J.Run.limits b j v k x future value l is h.known t.one
    there has stands next below above in
    let belongs : Belongs (events_in (entries_of b)) j.task.number j.place.at (Gets future value x) c.get-held.result =
    subst (λ (y : Strand). Belongs (events_in (entries_of b)) j.task.number y (Gets future value x) c.get-held.result) t.place.0
    (c.get-held.ensures.belongs (events_in (entries_of b)) j.task.number future value) in
    let table : List Strand = c.in-Ok-table_after_get.table in
    let tables : TablesGet b.lines b.writer.lists j.place.table j.place.at.future future table =
    subst (λ (y : Strand). TablesGet b.lines b.writer.lists j.place.table y.future future table) t.place.0
    (subst (λ (y : List Strand). TablesGet b.lines b.writer.lists y held.at.future future table) t.place.1
    (subst (λ (y : Lists). TablesGet b.lines y held.reach held.at.future future table) c.lists.ensures
    (subst (λ (y : List LineNow). TablesGet y c.lists.result.now held.reach held.at.future future table) c.as_slice.ensures.value
    c.in-Ok-table_after_get.ensures))) in
    let stood : HasStrand later c.get-held.result table =
    stand_got code (entries_of b) b.lines b.writer.lists k j.task.number j.place.at.future future value j.place.at c.get-held.result j.place.table table sound
    (stands_by g.J.Run.clock g.J.Run.orders g.J.Run.code g.J.Run.limits b j v is h.known) tables belongs in
    let new = c.feed.new.self in
    let act_is : action_of c.entry_of-entry.result.act ≡ Gets future value x = ap (λ (y : Event). y.action) event_is in
    let number : new.number ≡ j.task.number = c.feed.ensures.task.0 ∙ ap (λ (y : TaskNow). y.number) t.task.0 in
    let which : new.which ≡ j.task.which = c.feed.ensures.task.1 ∙ ap (λ (y : TaskNow). y.which) t.task.0 in
    let ended : new.spot.ended ≡ j.task.spot.ended =
    ap (λ (y : Spot). y.ended) c.feed.ensures.spot ∙ ap (λ y. ended_after held.task.spot.ended y) act_is ∙ ap (λ (y : TaskNow). y.spot.ended) t.task.0 in
    let trace : drawn_of new.trace.items ≡ drawn_of j.task.trace.items ++ (k, event) ∷ [] =
    trace_fed new.trace.items j.task.trace.items k c.entry_of-entry.result event
    (c.feed.ensures.trace ∙ ap (λ (y : TaskNow). y.trace.items ++ (k, c.entry_of-entry.result) ∷ []) t.task.0) event_is in
    let feeds = feeds_as code c.args.code.now j.task held.task new (action_of c.entry_of-entry.result.act) (Gets future value x) c.requires.run.2 t.task.0
    act_is
    (still_room code c.advance.new.self c.reserve.new.self room adv.still) t.was.running c.feed.ensures.state in
    let ready_new : IsReady code later new c.get-held.result table c.go_on.new.pace (drawn k event v) =
    get_ready g.J.Run.clock g.J.Run.orders g.J.Run.code g.J.Run.limits b j v k x future value l is h.known t.one there has stands next below above new
    c.get-held.result table c.go_on.new.pace
    number which ended trace feeds refl stood.0 stood.1 c.go_on.ensures.pace in
    let ready : IsReady code later new c.get-held.result table c.go_on.new.pace u =
    subst (λ (y : View). IsReady code later new c.get-held.result table c.go_on.new.pace y) (sym drew) ready_new in
    ready_job g.J.Run.clock g.J.Run.orders code later new c.get-held.result table c.go_on.new.pace u ready

pub invariant_of-self-2 : goal.invariant_of-self-2
invariant_of-self-2 g c =
    let code = g.J.Run.code in
    let future = c.in-Get.future in
    let e = c.in-Get.ensures in
    let adv = has_advanced code c.args.code.now c.job.inside.task c.advance.new.self c.requires.run.2 e.task e.trace e.state e.stops in
    let r = c.reserve.ensures in
    let room = room_of c.advance.new.self c.reserve.new.self r.task r.trace in
    let first = wishes_get code c.args.code.now c.job.inside.task 1000000 future c.requires.run.2 refl e.wish in
    let stands = stands_moved code _ c.job.inside.task c.advance.new.self c.reserve.new.self (λ P w. w ≡ ToGet future) adv room c.job.invariant.started
    first in
    let t = c.hold-held.ensures in
    let h = has_job g.J.Run.clock g.J.Run.orders g.J.Run.code g.J.Run.limits _ _ c.hold-held.new.holder.view _ _ _ _ _ c.self.invariant t.was t.told t.own.0
    t.one t.task t.place in
    let b : BookNow = record {
      limits = c.self.inside.limits;
      holder = c.self.inside.holder;
      writer = c.self.inside.writer;
      lines = c.self.inside.lines.items;
      traces = c.self.inside.traces.items;
      creates = c.self.inside.creates;
      counts = c.self.inside.counts;
      first = c.self.inside.first;
    } in
    let is : IsBook g.J.Run.clock g.J.Run.orders g.J.Run.code g.J.Run.limits b = c.self.invariant in
    let j : JobNow = record { task = c.reserve.new.self; place = c.job.inside.place; pace = c.job.inside.pace } in
    let v = c.hold-held.new.holder.view in
    let held = c.hold-held.result in
    let l = c.index.result.now in
    let low = future_line g.J.Run.clock g.J.Run.orders g.J.Run.code g.J.Run.limits b j v future is h.known stands in
    let there : slice_get b.lines future ≡ Some l = slice_get_read b.lines (length b.lines) future l refl low c.index.ensures in
    let has : l.value ≡ Some c.in-Some.value = sym c.value.ensures ∙ c.in-Some.is in
    let k = c.in-At.ticket in
    let value = c.in-Some.value in
    let x = c.get-held.result.number in
    let next : x ≡ length b.writer.lists.english.order = c.get-held.ensures.number in
    let event : Event = event_at j.task.number j.place.at.number (Gets future value x) in
    let event_is : event_of c.entry_of-entry.result ≡ event =
    c.entry_of-entry.ensures ∙ ap (λ (y : TaskNow). event_at y.number held.at.number (Gets future value c.next_strand.result)) t.task.0
    ∙ ap (λ (y : Strand). event_at j.task.number y.number (Gets future value c.next_strand.result)) t.place.0
    ∙ ap (λ y. event_at j.task.number j.place.at.number (Gets future value y)) (c.next_strand.ensures ∙ sym next) in
    let below : k < g.J.Run.limits.events =
    subst (λ n. k < n) (ap (λ (y : Ticking). y.size.bound) c.requires.run.0 ∙ is.limits_are.1) c.in-At.ensures.drawn.0 in
    let above : IsAbove k v = c.in-At.ensures.drawn.1 in
    let u = c.draw.new.holder.view in
    let drew : u ≡ drawn k event v = c.in-At.ensures.drawn.2 ∙ ap (λ y. drawn k y v) event_is in
    let later : List (ℕ × Event) = entries_of b ++ (k, event) ∷ [] in
    let writer = c.get-held.new.placer.writer.now in
    let sound : IsSound (events_in later) = get_sound g.J.Run.clock g.J.Run.orders g.J.Run.code g.J.Run.limits b j v k x future value l is h.known t.one
    there has stands next below above in
    let extends : Extends (events_in (entries_of b)) j.task.number j.place.at.number (Gets future value x) b.writer.lists.english.order
    b.writer.lists.hebrew.order
    writer.lists.english.order writer.lists.hebrew.order =
    subst (λ (y : Strand). Extends (events_in (entries_of b)) j.task.number y.number (Gets future value x) b.writer.lists.english.order
    b.writer.lists.hebrew.order
    writer.lists.english.order writer.lists.hebrew.order) t.place.0 (c.get-held.ensures.extends (events_in (entries_of b)) j.task.number future value) in
    let roomy : AreRoomy later g.J.Run.limits.events writer.lists =
    roomy_add (entries_of b) g.J.Run.limits.events k j.task.number j.place.at.number (Gets future value x) b.writer.lists writer.lists sound
    (record { orders = is.listed.orders; room = is.room }) extends c.get-held.ensures.put.spare in
    let out = c.release-2.new.holder in
    let number : c.feed.new.self.number ≡ j.task.number = c.feed.ensures.task.0 ∙ ap (λ (y : TaskNow). y.number) t.task.0 in
    let view_is : out.view ≡ after_note j.task.number (drawn k event v) =
    c.release-2.ensures.holder.0 ∙ ap (λ n. after_note n u) number ∙ ap (λ y. after_note j.task.number y) drew in
    get_book g.J.Run.clock g.J.Run.orders g.J.Run.code g.J.Run.limits b j v k x future value l is h.known t.one there has stands next below above out
    c.release-2.new.writer c.go_on.new.self
    (c.release-2.ensures.holder.1 ∙ c.draw.ensures.clock ∙ t.clock) view_is
    (ap (λ (y : Writing). y.home) c.release-2.ensures.writer ∙ c.get-held.new.placer.own ∙ ap (λ y. y.0) c.get-held.ensures.put.home ∙ c.requires.run.1 ∙
    sym is.home.1)
    (subst (λ (y : Writing). AreOrders (events_in later) y.lists.english.order y.lists.hebrew.order) (sym c.release-2.ensures.writer) roomy.orders)
    (subst (λ (y : Writing). 2 * g.J.Run.limits.events + 1 ≤ length y.lists.english.order + y.lists.english.room) (sym c.release-2.ensures.writer) roomy.room)
    c.go_on.ensures.counts

pub returns : goal.returns
returns g c =
    let code = g.J.Run.code in
    let future = c.in-Get.future in
    let e = c.in-Get.ensures in
    let adv = has_advanced code c.args.code.now c.job.inside.task c.advance.new.self c.requires.run.2 e.task e.trace e.state e.stops in
    let r = c.reserve.ensures in
    let room = room_of c.advance.new.self c.reserve.new.self r.task r.trace in
    let first = wishes_get code c.args.code.now c.job.inside.task 1000000 future c.requires.run.2 refl e.wish in
    let stands = stands_moved code _ c.job.inside.task c.advance.new.self c.reserve.new.self (λ P w. w ≡ ToGet future) adv room c.job.invariant.started
    first in
    let wishes : Stands code c.args.job.task (λ P w. w ≡ ToGet future) =
    subst (λ (x : JobNow). Stands code x.task (λ P w. w ≡ ToGet future)) c.job.view_is first in
    let call = of_call code c.args.job c.job.inside.task c.advance.new.self c.reserve.new.self c.job.inside.place c.job.inside.pace adv room c.job.view_is in
    let t = c.hold-held.ensures in
    let h = has_job g.J.Run.clock g.J.Run.orders g.J.Run.code g.J.Run.limits _ _ c.hold-held.new.holder.view _ _ _ _ _ c.self.invariant t.was t.told t.own.0
    t.one t.task t.place in
    let b : BookNow = record {
      limits = c.self.inside.limits;
      holder = c.self.inside.holder;
      writer = c.self.inside.writer;
      lines = c.self.inside.lines.items;
      traces = c.self.inside.traces.items;
      creates = c.self.inside.creates;
      counts = c.self.inside.counts;
      first = c.self.inside.first;
    } in
    let is : IsBook g.J.Run.clock g.J.Run.orders g.J.Run.code g.J.Run.limits b = c.self.invariant in
    let j : JobNow = record { task = c.reserve.new.self; place = c.job.inside.place; pace = c.job.inside.pace } in
    let v = c.hold-held.new.holder.view in
    let held = c.hold-held.result in
    let l = c.index.result.now in
    let low = future_line g.J.Run.clock g.J.Run.orders g.J.Run.code g.J.Run.limits b j v future is h.known stands in
    let there : slice_get b.lines future ≡ Some l = slice_get_read b.lines (length b.lines) future l refl low c.index.ensures in
    let has : l.value ≡ Some c.in-Some.value = sym c.value.ensures ∙ c.in-Some.is in
    let k = c.in-At.ticket in
    let value = c.in-Some.value in
    let x = c.get-held.result.number in
    let next : x ≡ length b.writer.lists.english.order = c.get-held.ensures.number in
    let event : Event = event_at j.task.number j.place.at.number (Gets future value x) in
    let event_is : event_of c.entry_of-entry.result ≡ event =
    c.entry_of-entry.ensures ∙ ap (λ (y : TaskNow). event_at y.number held.at.number (Gets future value c.next_strand.result)) t.task.0
    ∙ ap (λ (y : Strand). event_at j.task.number y.number (Gets future value c.next_strand.result)) t.place.0
    ∙ ap (λ y. event_at j.task.number j.place.at.number (Gets future value y)) (c.next_strand.ensures ∙ sym next) in
    let below : k < g.J.Run.limits.events =
    subst (λ n. k < n) (ap (λ (y : Ticking). y.size.bound) c.requires.run.0 ∙ is.limits_are.1) c.in-At.ensures.drawn.0 in
    let above : IsAbove k v = c.in-At.ensures.drawn.1 in
    let u = c.draw.new.holder.view in
    let drew : u ≡ drawn k event v = c.in-At.ensures.drawn.2 ∙ ap (λ y. drawn k y v) event_is in
    let later : List (ℕ × Event) = entries_of b ++ (k, event) ∷ [] in
    let new = c.feed.new.self in
    let number : new.number ≡ j.task.number = c.feed.ensures.task.0 ∙ ap (λ (y : TaskNow). y.number) t.task.0 in
    let which : new.which ≡ j.task.which = c.feed.ensures.task.1 ∙ ap (λ (y : TaskNow). y.which) t.task.0 in
    let trace : drawn_of new.trace.items ≡ drawn_of j.task.trace.items ++ (k, event) ∷ [] =
    trace_fed new.trace.items j.task.trace.items k c.entry_of-entry.result event
    (c.feed.ensures.trace ∙ ap (λ (y : TaskNow). y.trace.items ++ (k, c.entry_of-entry.result) ∷ []) t.task.0) event_is in
    let out = c.release-2.new.holder in
    let view_is : out.view ≡ after_note j.task.number (drawn k event v) =
    c.release-2.ensures.holder.0 ∙ ap (λ n. after_note n u) number ∙ ap (λ y. after_note j.task.number y) drew in
    let did : HasDrawn code g.J.Run.limits b j v k event = get_drawn g.J.Run.clock g.J.Run.orders g.J.Run.code g.J.Run.limits b j v k x future value l is
    h.known t.one there has stands next below above in
    let entries : own_list out.view ≡ later = ap (λ (y : View). own_list y) view_is ∙ drawn_own g.J.Run.clock g.J.Run.orders g.J.Run.code g.J.Run.limits b j
    v k event is did in
    let after : BookNow = record b { holder = out; writer = c.release-2.new.writer; counts = c.go_on.new.self } in
    let jobs : c.push.new.self.items ≡ c.release-2.result ∷ [] = c.push.ensures.items ∙ ap (λ y. y.items ++ c.release-2.result ∷ []) c.make-jobs.ensures in
    let same_new = c.release-2.ensures.task.0 in
    subst (λ (y : BookNow). HasGone code g.J.Run.limits.events y after c.args.hand.now c.go_on.new.hand c.args.job c.push.new.self.items) c.self.view_is
    (has_gone code g.J.Run.limits b after c.args.hand.now c.go_on.new.hand c.args.job j c.release-2.result c.push.new.self.items v k event did call wishes
    entries jobs
    (ap (λ (y : TaskNow). y.number) same_new ∙ number) (ap (λ (y : TaskNow). y.which) same_new ∙ which)
    (ap (λ (y : TaskNow). drawn_of y.trace.items) same_new ∙ trace) (c.release-2.ensures.task.1 ∙ c.go_on.ensures.pace) c.go_on.ensures.counts
    c.go_on.ensures.hand)

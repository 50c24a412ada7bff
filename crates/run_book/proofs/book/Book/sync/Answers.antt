use Rattle.std.proofs.Common.{◌≡◌, ℕ, ◌+◌, ◌*◌, ◌<◌, ◌≤◌, List, [], ◌∷◌, ◌++◌, length, take, drop, refl, sym, ap, ◌∙◌, subst, arith}
use Rattle.std.specs.Prelude.{Some, IfSome, option_map, slice_get, slice_set}
use Rattle.std.proofs.lemmas.Option.{same_Some, slice_get_read, get_or_from_slice_get}
use Rattle.order_list.specs.Sides.{Lists}
use Rattle.fut_base.specs.declared.record.Finish.TheVariants as finish
use Rattle.fut_base.specs.declared.record.Value.{Value}
use Rattle.fut_base.specs.declared.event.Event.{Event}
use Rattle.fut_base.specs.declared.event.Action.{Action}
use Rattle.fut_base.specs.declared.event.Action.TheVariants.{Syncs}
use Rattle.fut_base.specs.Events.{event_of, action_of}
use Rattle.fut_base.specs.Dag.{Among, block_of}
use Rattle.fut_base.specs.Sound.{IsSound, AllEnded}
use Rattle.fut_syntax.specs.Trees as tree
use Rattle.task_machine.specs.State.{TaskState, ToSync}
use Rattle.task_code.specs.declared.task.Spot.{Spot}
use Rattle.task_code.specs.Flat.{Compiled, IsCodeOf}
use Rattle.task_code.specs.Tasks.{TaskNow, IsTaskOf, IsSomeTask, IsStill, Wishes, ended_after}
use Rattle.event_clock.specs.declared.view.View.{View}
use Rattle.event_clock.specs.Views.{carries, drawn, turned_away, after_note, own_list, first_entries, IsAbove, MayAskFor}
use Rattle.event_clock.specs.Rule.{IsPrefix}
use Rattle.event_clock.specs.Seated.{Ticking, Seated}
use Rattle.event_clock.proofs.Lists.{prefix_more}
use Rattle.order_query.specs.Reading.{Reading, Writing}
use Rattle.strand_tree.specs.declared.strand.Strand.{Strand}
use Rattle.strand_tree.specs.Placing.{AreOrders, Belongs, Extends, IsIn, IsLastOf}
use Rattle.reach_table.specs.Telling.{AllKnown}
use Rattle.run_place.specs.Placed.{Placed, book_of, events_in}
use Rattle.run_book.specs.Drawn.{drawn_of, past_in}
use Rattle.run_book.specs.Jobs.{JobNow, IsJob, IsFree, IsBarred, Stands, known_to}
use Rattle.run_book.specs.Lines.{LineNow, Ended, IsLineOf}
use Rattle.run_book.specs.Turns.{change_at}
use Rattle.run_book.specs.Tabling.{AreKnownEnds, MergesEnds, first_end}
use Rattle.run_book.specs.Books.{BookNow, IsBook, entries_of, jobs_in}
use Rattle.run_book.specs.Steps.{IsSameTask, IsBack, IsRefused, IsSpent, HasGone, WishesSync}
use Rattle.run_book.proofs.Stranding.{event_at, few_tickets, stands_in, has_room, HasRoom}
use Rattle.run_book.proofs.Tables.{known_table, known_end}
use Rattle.run_book.proofs.Placing.{AreRoomy, roomy_add, stand_synced, HasStrand, first_ended, first_in}
use Rattle.run_book.proofs.Knowing.{IsKnown, job_known}
use Rattle.run_book.proofs.Advancing.{HasAdvanced, HasRoomNow, is_some_task, stands_advanced, stands_same, job_advanced, job_reserved}
use Rattle.run_book.proofs.Giving.{IsReady, ready_carried, ready_strand, ready_job, ready_orders, ready_as, known_ready, reader_knew}
use Rattle.run_book.proofs.Turning.{HasTurned, turned_book, turned_none, turned_spent, kept_back, spent_arm, refused_arm}
use Rattle.run_book.proofs.Parking.{free_sync, barred_sync, pace_is_one, has_waited}
use Rattle.run_book.proofs.Asking.{may_ask}
use Rattle.run_book.proofs.Changing.{set_changed}
use Rattle.run_book.proofs.Going.{HasDrawn, drawn_own}
use Rattle.run_book.proofs.Gone.{IsOfCall, has_gone}
use Rattle.run_book.proofs.Fetching.{still_room, feeds_as, trace_fed, back_held}
use Rattle.run_book.proofs.Getting.{stands_by, lines_of}
use Rattle.run_book.proofs.Syncing.{all_ended, one_runs, has_line, with_no_block, sync_drawn, sync_sound, sync_book, sync_ready, tells_sync, came_back}
use Rattle.run_book.proofs.book.Book.sync.Goals as goal

pub advance-requires : goal.advance-requires
advance-requires g c =
    record {
      running =
          c.job.invariant.running;
      task =
          subst (λ k. IsSomeTask k c.job.inside.task) (sym c.requires.run.2) (is_some_task g.J.Run.clock g.J.Run.orders g.J.Run.code _ c.job.invariant);
      most =
          omega arith;
    }

pub unreachable-requires : goal.unreachable-requires
unreachable-requires g c =
    let code = g.J.Run.code in
    let wishes : Stands code c.job.inside.task (λ P w. w ≡ ToSync) = subst (λ (x : JobNow). WishesSync code x) (sym c.job.view_is) c.requires.wish in
    let tells = subst (λ k. (P : tree.Program) (args : List Value) (s : TaskState) → IsCodeOf P k → IsTaskOf P k args c.job.inside.task s → Wishes P 1000000 s c.advance.result)
    c.requires.run.2 c.advance.ensures.wish in
    let k = tells_sync code _ c.job.inside.task c.job.invariant.program c.job.invariant.started wishes c.advance.result tells in
    absurd (c.in_default.not-Sync k)

pub unreachable-unreachable : goal.unreachable-unreachable
unreachable-unreachable g c =
    let code = g.J.Run.code in
    let wishes : Stands code c.job.inside.task (λ P w. w ≡ ToSync) = subst (λ (x : JobNow). WishesSync code x) (sym c.job.view_is) c.requires.wish in
    let tells = subst (λ k. (P : tree.Program) (args : List Value) (s : TaskState) → IsCodeOf P k → IsTaskOf P k args c.job.inside.task s → Wishes P 1000000 s c.advance.result)
    c.requires.run.2 c.advance.ensures.wish in
    let k = tells_sync code _ c.job.inside.task c.job.invariant.program c.job.invariant.started wishes c.advance.result tells in
    absurd (c.in_default.not-Sync k)

pub invariant_of-job : goal.invariant_of-job
invariant_of-job g c =
    let clock = g.J.Run.clock in
    let orders = g.J.Run.orders in
    let code = g.J.Run.code in
    let e = c.in-Sync.ensures in
    let j0 : JobNow = record { task = c.job.inside.task; place = c.job.inside.place; pace = c.job.inside.pace } in
    let adv : HasAdvanced code c.job.inside.task c.advance.new.self =
    subst (λ k. HasAdvanced k c.job.inside.task c.advance.new.self) c.requires.run.2
    (record { number = e.task.0; which = e.task.1; running = e.task.2; trace = e.trace; state = e.state; still = e.stops }) in
    job_advanced clock orders code j0 c.advance.new.self c.job.invariant adv

pub same-self : goal.same-self
same-self g c =
    refl

pub returns-then-running-eq0 : goal.returns-then-running-eq0
returns-then-running-eq0 g c =
    let code = g.J.Run.code in
    let e = c.in-Sync.ensures in
    let j0 : JobNow = record { task = c.job.inside.task; place = c.job.inside.place; pace = c.job.inside.pace } in
    let adv : HasAdvanced code c.job.inside.task c.advance.new.self =
    subst (λ k. HasAdvanced k c.job.inside.task c.advance.new.self) c.requires.run.2
    (record { number = e.task.0; which = e.task.1; running = e.task.2; trace = e.trace; state = e.state; still = e.stops }) in
    let old = c.job.view_is in
    record {
      still = record { entries = refl; counts = refl; hand = refl };
      back_is = kept_back c.args.job (record j0 { task = c.advance.new.self })
          (record {
            number = adv.number ∙ ap (λ (x : JobNow). x.task.number) old;
            which = adv.which ∙ ap (λ (x : JobNow). x.task.which) old;
            trace = ap (λ y. y.items) adv.trace ∙ ap (λ (x : JobNow). x.task.trace.items) old;
          })
          (ap (λ (x : JobNow). x.place) old) (ap (λ (x : JobNow). x.pace) old);
    }

pub invariant_of-job-in_default-reserve : goal.invariant_of-job-in_default-reserve
invariant_of-job-in_default-reserve g c =
    let clock = g.J.Run.clock in
    let orders = g.J.Run.orders in
    let code = g.J.Run.code in
    let e = c.in-Sync.ensures in
    let j0 : JobNow = record { task = c.job.inside.task; place = c.job.inside.place; pace = c.job.inside.pace } in
    let adv : HasAdvanced code c.job.inside.task c.advance.new.self =
    subst (λ k. HasAdvanced k c.job.inside.task c.advance.new.self) c.requires.run.2
    (record { number = e.task.0; which = e.task.1; running = e.task.2; trace = e.trace; state = e.state; still = e.stops }) in
    let r = c.reserve.ensures in
    let room : HasRoomNow c.advance.new.self c.reserve.new.self = record { number = r.task.0; which = r.task.1; spot = r.task.2; held = r.task.3; trace = r.trace } in
    job_reserved clock orders code (record j0 { task = c.advance.new.self }) c.reserve.new.self (job_advanced clock orders code j0 c.advance.new.self c.job.invariant adv) room

pub same-self-in_default-reserve : goal.same-self-in_default-reserve
same-self-in_default-reserve g c =
    refl

pub returns-in_default-reserve : goal.returns-in_default-reserve
returns-in_default-reserve g c =
    let code = g.J.Run.code in
    let e = c.in-Sync.ensures in
    let adv : HasAdvanced code c.job.inside.task c.advance.new.self =
    subst (λ k. HasAdvanced k c.job.inside.task c.advance.new.self) c.requires.run.2
    (record { number = e.task.0; which = e.task.1; running = e.task.2; trace = e.trace; state = e.state; still = e.stops }) in
    let r = c.reserve.ensures in
    let room : HasRoomNow c.advance.new.self c.reserve.new.self = record { number = r.task.0; which = r.task.1; spot = r.task.2; held = r.task.3; trace = r.trace } in
    let j : JobNow = record { task = c.reserve.new.self; place = c.job.inside.place; pace = c.job.inside.pace } in
    let old = c.job.view_is in
    let same : IsOfCall c.args.job j = record {
      task = record {
        number = room.number ∙ adv.number ∙ ap (λ (x : JobNow). x.task.number) old;
        which = room.which ∙ adv.which ∙ ap (λ (x : JobNow). x.task.which) old;
        trace = room.trace ∙ ap (λ y. y.items) adv.trace ∙ ap (λ (x : JobNow). x.task.trace.items) old;
      };
      place = ap (λ (x : JobNow). x.place) old;
      pace = ap (λ (x : JobNow). x.pace) old;
    } in
    record {
      still = record { entries = refl; counts = refl; hand = refl };
      back_is = kept_back c.args.job j same.task same.place same.pace;
    }

pub invariant_of-job-2 : goal.invariant_of-job-2
invariant_of-job-2 g c =
    let clock = g.J.Run.clock in
    let orders = g.J.Run.orders in
    let code = g.J.Run.code in
    let e = c.in-Sync.ensures in
    let j0 : JobNow = record { task = c.job.inside.task; place = c.job.inside.place; pace = c.job.inside.pace } in
    let adv : HasAdvanced code c.job.inside.task c.advance.new.self =
    subst (λ k. HasAdvanced k c.job.inside.task c.advance.new.self) c.requires.run.2
    (record { number = e.task.0; which = e.task.1; running = e.task.2; trace = e.trace; state = e.state; still = e.stops }) in
    let r = c.reserve.ensures in
    let room : HasRoomNow c.advance.new.self c.reserve.new.self = record { number = r.task.0; which = r.task.1; spot = r.task.2; held = r.task.3; trace = r.trace } in
    job_reserved clock orders code (record j0 { task = c.advance.new.self }) c.reserve.new.self (job_advanced clock orders code j0 c.advance.new.self c.job.invariant adv) room

pub hold-held-requires : goal.hold-held-requires
hold-held-requires g c =
    record { run = (c.requires.run.0, c.self.invariant.home.0) }

pub index-requires : goal.index-requires
index-requires g c =
    let clock = g.J.Run.clock in
    let orders = g.J.Run.orders in
    let code = g.J.Run.code in
    let limits = g.J.Run.limits in
    let first : Stands code c.job.inside.task (λ P w. w ≡ ToSync) = subst (λ (x : JobNow). Stands code x.task (λ P w. w ≡ ToSync)) (sym c.job.view_is) c.requires.wish in
    let b : BookNow = record {
      limits = c.self.inside.limits;
      holder = c.self.inside.holder;
      writer = c.self.inside.writer;
      lines = c.self.inside.lines.items;
      traces = c.self.inside.traces.items;
      creates = c.self.inside.creates;
      counts = c.self.inside.counts;
      first = c.self.inside.first;
    } in
    let is : IsBook clock orders code limits b = c.self.invariant in
    let j : JobNow = record { task = c.reserve.new.self; place = c.job.inside.place; pace = c.job.inside.pace } in
    let job : IsJob clock orders code j = c.hold-held.ensures.was in
    let v = c.hold-held.new.holder.view in
    let t = c.hold-held.ensures in
    let known : IsKnown code (entries_of b) j b.holder.view.tasks v = job_known clock orders code limits b j v is job t.told t.own.0 t.one in
    let tn : c.number-task.result ≡ j.task.number = c.number-task.ensures ∙ ap (λ (y : TaskNow). y.number) t.task.0 in
    let low : c.number-task.result < length b.lines = (let at = has_line clock orders code limits b j v is known in omega (arith, at, tn)) in
    omega (arith, low, c.self.inside.lines.ok.0)

pub index-requires-2 : goal.index-requires-2
index-requires-2 g c =
    let clock = g.J.Run.clock in
    let orders = g.J.Run.orders in
    let code = g.J.Run.code in
    let limits = g.J.Run.limits in
    let first : Stands code c.job.inside.task (λ P w. w ≡ ToSync) = subst (λ (x : JobNow). Stands code x.task (λ P w. w ≡ ToSync)) (sym c.job.view_is) c.requires.wish in
    let b : BookNow = record {
      limits = c.self.inside.limits;
      holder = c.self.inside.holder;
      writer = c.self.inside.writer;
      lines = c.self.inside.lines.items;
      traces = c.self.inside.traces.items;
      creates = c.self.inside.creates;
      counts = c.self.inside.counts;
      first = c.self.inside.first;
    } in
    let is : IsBook clock orders code limits b = c.self.invariant in
    let j : JobNow = record { task = c.reserve.new.self; place = c.job.inside.place; pace = c.job.inside.pace } in
    let job : IsJob clock orders code j = c.hold-held.ensures.was in
    let v = c.hold-held.new.holder.view in
    let t = c.hold-held.ensures in
    let known : IsKnown code (entries_of b) j b.holder.view.tasks v = job_known clock orders code limits b j v is job t.told t.own.0 t.one in
    let tn : c.number-task.result ≡ j.task.number = c.number-task.ensures ∙ ap (λ (y : TaskNow). y.number) t.task.0 in
    let low : c.number-task.result < length b.lines = (let at = has_line clock orders code limits b j v is known in omega (arith, at, tn)) in
    omega (arith, low, c.self.inside.lines.ok.0)

pub index-requires-3 : goal.index-requires-3
index-requires-3 g c =
    let clock = g.J.Run.clock in
    let orders = g.J.Run.orders in
    let code = g.J.Run.code in
    let limits = g.J.Run.limits in
    let first : Stands code c.job.inside.task (λ P w. w ≡ ToSync) = subst (λ (x : JobNow). Stands code x.task (λ P w. w ≡ ToSync)) (sym c.job.view_is) c.requires.wish in
    let b : BookNow = record {
      limits = c.self.inside.limits;
      holder = c.self.inside.holder;
      writer = c.self.inside.writer;
      lines = c.self.inside.lines.items;
      traces = c.self.inside.traces.items;
      creates = c.self.inside.creates;
      counts = c.self.inside.counts;
      first = c.self.inside.first;
    } in
    let is : IsBook clock orders code limits b = c.self.invariant in
    let j : JobNow = record { task = c.reserve.new.self; place = c.job.inside.place; pace = c.job.inside.pace } in
    let job : IsJob clock orders code j = c.hold-held.ensures.was in
    let v = c.hold-held.new.holder.view in
    let t = c.hold-held.ensures in
    let known : IsKnown code (entries_of b) j b.holder.view.tasks v = job_known clock orders code limits b j v is job t.told t.own.0 t.one in
    let tn : c.number-task.result ≡ j.task.number = c.number-task.ensures ∙ ap (λ (y : TaskNow). y.number) t.task.0 in
    let low : c.number-task.result < length b.lines = (let at = has_line clock orders code limits b j v is known in omega (arith, at, tn)) in
    omega (arith, low, c.self.inside.lines.ok.0)

pub index_mut-requires : goal.index_mut-requires
index_mut-requires g c =
    let clock = g.J.Run.clock in
    let orders = g.J.Run.orders in
    let code = g.J.Run.code in
    let limits = g.J.Run.limits in
    let first : Stands code c.job.inside.task (λ P w. w ≡ ToSync) = subst (λ (x : JobNow). Stands code x.task (λ P w. w ≡ ToSync)) (sym c.job.view_is) c.requires.wish in
    let b : BookNow = record {
      limits = c.self.inside.limits;
      holder = c.self.inside.holder;
      writer = c.self.inside.writer;
      lines = c.self.inside.lines.items;
      traces = c.self.inside.traces.items;
      creates = c.self.inside.creates;
      counts = c.self.inside.counts;
      first = c.self.inside.first;
    } in
    let is : IsBook clock orders code limits b = c.self.invariant in
    let j : JobNow = record { task = c.reserve.new.self; place = c.job.inside.place; pace = c.job.inside.pace } in
    let job : IsJob clock orders code j = c.hold-held.ensures.was in
    let v = c.hold-held.new.holder.view in
    let t = c.hold-held.ensures in
    let known : IsKnown code (entries_of b) j b.holder.view.tasks v = job_known clock orders code limits b j v is job t.told t.own.0 t.one in
    let tn : c.number-task.result ≡ j.task.number = c.number-task.ensures ∙ ap (λ (y : TaskNow). y.number) t.task.0 in
    let low : c.number-task.result < length b.lines = (let at = has_line clock orders code limits b j v is known in omega (arith, at, tn)) in
    omega (arith, low, c.self.inside.lines.ok.0)

pub nobody_sits-requires : goal.nobody_sits-requires
nobody_sits-requires g c =
    let clock = g.J.Run.clock in
    let orders = g.J.Run.orders in
    let code = g.J.Run.code in
    let limits = g.J.Run.limits in
    let e = c.in-Sync.ensures in
    let first : Stands code c.job.inside.task (λ P w. w ≡ ToSync) = subst (λ (x : JobNow). Stands code x.task (λ P w. w ≡ ToSync)) (sym c.job.view_is) c.requires.wish in
    let b : BookNow = record {
      limits = c.self.inside.limits;
      holder = c.self.inside.holder;
      writer = c.self.inside.writer;
      lines = c.self.inside.lines.items;
      traces = c.self.inside.traces.items;
      creates = c.self.inside.creates;
      counts = c.self.inside.counts;
      first = c.self.inside.first;
    } in
    let is : IsBook clock orders code limits b = c.self.invariant in
    let j : JobNow = record { task = c.reserve.new.self; place = c.job.inside.place; pace = c.job.inside.pace } in
    let job : IsJob clock orders code j = c.hold-held.ensures.was in
    let v = c.hold-held.new.holder.view in
    let held = c.hold-held.result in
    let t = c.hold-held.ensures in
    let known : IsKnown code (entries_of b) j b.holder.view.tasks v = job_known clock orders code limits b j v is job t.told t.own.0 t.one in
    let tn : c.number-task.result ≡ j.task.number = c.number-task.ensures ∙ ap (λ (y : TaskNow). y.number) t.task.0 in
    let low : c.number-task.result < length b.lines = (let at = has_line clock orders code limits b j v is known in omega (arith, at, tn)) in
    let l = c.index.result.now in
    let there0 : slice_get b.lines c.number-task.result ≡ Some l = slice_get_read b.lines (length b.lines) c.number-task.result l refl low c.index.ensures in
    let there : slice_get b.lines j.task.number ≡ Some l = subst (λ n. slice_get b.lines n ≡ Some l) tn there0 in
    let line : IsLineOf code (entries_of b) j.task.number l = is.listed.lines j.task.number l there in
    let ready : IsReady code (entries_of b) held.task held.at held.reach held.pace v =
    ready_as code (entries_of b) j.task held.task j.place.at held.at j.place.table held.reach j.pace held.pace v
    (known_ready code b j v v is.listed known refl refl) t.task.0 t.place.0 t.place.1 t.task.1 in
    record {
      run =
          (c.requires.run.0, t.clock ∙ is.home.0);
      line =
          (l, subst (λ (y : List LineNow). slice_get y c.number-task.result ≡ Some l) (sym c.as_mut_slice.ensures.value) there0, λ q e. (line.waiter q e).0 ∙ sym tn);
      carried =
          subst (λ n. 0 < carries n v.tasks) (sym c.number-task.ensures) (ready_carried code (entries_of b) held.task held.at held.reach held.pace v ready);
    }

pub release-job-requires : goal.release-job-requires
release-job-requires g c =
    let clock = g.J.Run.clock in
    let orders = g.J.Run.orders in
    let code = g.J.Run.code in
    let limits = g.J.Run.limits in
    let b : BookNow = record {
      limits = c.self.inside.limits;
      holder = c.self.inside.holder;
      writer = c.self.inside.writer;
      lines = c.self.inside.lines.items;
      traces = c.self.inside.traces.items;
      creates = c.self.inside.creates;
      counts = c.self.inside.counts;
      first = c.self.inside.first;
    } in
    let is : IsBook clock orders code limits b = c.self.invariant in
    let j : JobNow = record { task = c.reserve.new.self; place = c.job.inside.place; pace = c.job.inside.pace } in
    let job : IsJob clock orders code j = c.hold-held.ensures.was in
    let v = c.hold-held.new.holder.view in
    let held = c.hold-held.result in
    let t = c.hold-held.ensures in
    let known : IsKnown code (entries_of b) j b.holder.view.tasks v = job_known clock orders code limits b j v is job t.told t.own.0 t.one in
    let hs : c.nobody_sits.new.holder ≡ c.hold-held.new.holder = c.nobody_sits.ensures.same.0 in
    let v2 = c.nobody_sits.new.holder.view in
    let ready : IsReady code (entries_of b) held.task held.at held.reach held.pace v2 =
    ready_as code (entries_of b) j.task held.task j.place.at held.at j.place.table held.reach j.pace held.pace v2
    (known_ready code b j v v2 is.listed known (ap (λ (y : Seated). book_of y.view) hs) (ap (λ (y : Seated). y.view.tasks) hs)) t.task.0 t.place.0 t.place.1 t.task.1 in
    record {
      run =
          (c.requires.run.0, c.requires.run.1);
      home =
          (ap (λ (y : Seated). y.clock) hs ∙ t.clock ∙ is.home.0, is.home.1, ap (λ (y : Reading). y.home) t.place.2 ∙ job.place.orders_is);
      carried =
          ready_carried code (entries_of b) held.task held.at held.reach held.pace v2 ready;
      orders =
          ready_orders code b v2 (ap (λ (y : Seated). book_of y.view) hs ∙ known.known) is.listed;
      knew =
          reader_knew clock orders j held.reader v2 job.place t.place.2 (subst (λ y. IsPrefix (known_to j) y) (sym (ap (λ (y : Seated). book_of y.view) hs)) (t.told.second 0));
      strand =
          ready_strand code (entries_of b) held.task held.at held.reach held.pace v2 ready;
      job =
          ready_job clock orders code (entries_of b) held.task held.at held.reach held.pace v2 ready;
    }

pub invariant_of-self : goal.invariant_of-self
invariant_of-self g c =
    let clock = g.J.Run.clock in
    let orders = g.J.Run.orders in
    let code = g.J.Run.code in
    let limits = g.J.Run.limits in
    let b : BookNow = record {
      limits = c.self.inside.limits;
      holder = c.self.inside.holder;
      writer = c.self.inside.writer;
      lines = c.self.inside.lines.items;
      traces = c.self.inside.traces.items;
      creates = c.self.inside.creates;
      counts = c.self.inside.counts;
      first = c.self.inside.first;
    } in
    let is : IsBook clock orders code limits b = c.self.invariant in
    let j : JobNow = record { task = c.reserve.new.self; place = c.job.inside.place; pace = c.job.inside.pace } in
    let job : IsJob clock orders code j = c.hold-held.ensures.was in
    let v = c.hold-held.new.holder.view in
    let held = c.hold-held.result in
    let t = c.hold-held.ensures in
    let known : IsKnown code (entries_of b) j b.holder.view.tasks v = job_known clock orders code limits b j v is job t.told t.own.0 t.one in
    let hs : c.nobody_sits.new.holder ≡ c.hold-held.new.holder = c.nobody_sits.ensures.same.0 in
    let v2 = c.nobody_sits.new.holder.view in
    let number : held.task.number ≡ j.task.number = ap (λ (y : TaskNow). y.number) t.task.0 in
    let h = c.release-job.new.holder in
    let turned : HasTurned b j v h =
    turned_none b j c.hold-held.new.holder h t.clock (c.release-job.ensures.holder.1 ∙ ap (λ (y : Seated). y.clock) hs)
    (c.release-job.ensures.holder.0 ∙ ap (λ n. after_note n v2) number ∙ ap (λ (y : Seated). after_note j.task.number y.view) hs) in
    let kept : take c.self.inside.lines.len (c.nobody_sits.new.lines ++ drop (length c.nobody_sits.new.lines) c.self.inside.lines.items) ≡ b.lines =
    came_back c.self.inside.lines.len b.lines c.nobody_sits.new.lines (c.nobody_sits.ensures.same.1 ∙ c.as_mut_slice.ensures.value)
    (let size = c.self.inside.lines.ok.0 in omega (arith, size)) in
    subst (λ (y : List LineNow). IsBook clock orders code limits (record b { holder = h; writer = c.release-job.new.writer; lines = y })) (sym kept)
    (turned_book clock orders code limits b j v h c.release-job.new.writer is known t.own.0 turned c.release-job.ensures.writer)

pub sit-requires : goal.sit-requires
sit-requires g c =
    let clock = g.J.Run.clock in
    let orders = g.J.Run.orders in
    let code = g.J.Run.code in
    let limits = g.J.Run.limits in
    let e = c.in-Sync.ensures in
    let j0 : JobNow = record { task = c.job.inside.task; place = c.job.inside.place; pace = c.job.inside.pace } in
    let adv : HasAdvanced code c.job.inside.task c.advance.new.self =
    subst (λ k. HasAdvanced k c.job.inside.task c.advance.new.self) c.requires.run.2
    (record { number = e.task.0; which = e.task.1; running = e.task.2; trace = e.trace; state = e.state; still = e.stops }) in
    let r = c.reserve.ensures in
    let room : HasRoomNow c.advance.new.self c.reserve.new.self = record { number = r.task.0; which = r.task.1; spot = r.task.2; held = r.task.3; trace = r.trace } in
    let first : Stands code c.job.inside.task (λ P w. w ≡ ToSync) = subst (λ (x : JobNow). Stands code x.task (λ P w. w ≡ ToSync)) (sym c.job.view_is) c.requires.wish in
    let stands : Stands code c.reserve.new.self (λ P w. w ≡ ToSync) =
    stands_same code c.advance.new.self c.reserve.new.self (λ P w. w ≡ ToSync) room
    (stands_advanced code (known_to j0) c.job.inside.task c.advance.new.self (λ P w. w ≡ ToSync) adv c.job.invariant.started first) in
    let b : BookNow = record {
      limits = c.self.inside.limits;
      holder = c.self.inside.holder;
      writer = c.self.inside.writer;
      lines = c.self.inside.lines.items;
      traces = c.self.inside.traces.items;
      creates = c.self.inside.creates;
      counts = c.self.inside.counts;
      first = c.self.inside.first;
    } in
    let is : IsBook clock orders code limits b = c.self.invariant in
    let j : JobNow = record { task = c.reserve.new.self; place = c.job.inside.place; pace = c.job.inside.pace } in
    let job : IsJob clock orders code j = c.hold-held.ensures.was in
    let v = c.hold-held.new.holder.view in
    let t = c.hold-held.ensures in
    let known : IsKnown code (entries_of b) j b.holder.view.tasks v = job_known clock orders code limits b j v is job t.told t.own.0 t.one in
    let tn : c.number-task.result ≡ j.task.number = c.number-task.ensures ∙ ap (λ (y : TaskNow). y.number) t.task.0 in
    let low : c.number-task.result < length b.lines = (let at = has_line clock orders code limits b j v is known in omega (arith, at, tn)) in
    let l = c.index.result.now in
    let there0 : slice_get b.lines c.number-task.result ≡ Some l = slice_get_read b.lines (length b.lines) c.number-task.result l refl low c.index.ensures in
    let there : slice_get b.lines j.task.number ≡ Some l = subst (λ n. slice_get b.lines n ≡ Some l) tn there0 in
    let line : IsLineOf code (entries_of b) j.task.number l = is.listed.lines j.task.number l there in
    let block : List ℕ = block_of (past_in (entries_of b)) j.task.number in
    let some : 0 < l.count = (let many = c.running-2.ensures in let more = c.if-running-gt0.true in omega (arith, many, more)) in
    let barred : AllEnded (past_in (entries_of b)) block → ⊥ = one_runs code (entries_of b) j.task.number l line some in
    let kept : take c.self.inside.lines.len (c.nobody_sits.new.lines ++ drop (length c.nobody_sits.new.lines) c.self.inside.lines.items) ≡ b.lines =
    came_back c.self.inside.lines.len b.lines c.nobody_sits.new.lines (c.nobody_sits.ensures.same.1 ∙ c.as_mut_slice.ensures.value)
    (let size = c.self.inside.lines.ok.0 in omega (arith, size)) in
    record {
      line = (
        l,
        subst (λ (y : List LineNow). slice_get y c.number-task.result ≡ Some l) (sym kept) there0,
        c.nobody_sits.ensures.nobody l (subst (λ (y : List LineNow). slice_get y c.number-task.result ≡ Some l) (sym c.as_mut_slice.ensures.value) there0),
        some,
      );
      running =
          let many = c.running.ensures in let some = c.if-running-eq0.false in omega (arith, many, some);
      job = (
        ap (λ (y : TaskNow). y.number) c.release-job.ensures.task.0 ∙ sym c.number-task.ensures,
        c.release-job.ensures.task.1 ∙ t.task.1
            ∙ pace_is_one code (entries_of b) j.task j.place.at j.place.table j.pace known.task
            (barred_sync code j.task (past_in (entries_of b)) j.task.number barred stands),
        subst (λ (y : TaskNow). Stands code y (λ P w. w ≡ ToSync)) (sym (c.release-job.ensures.task.0 ∙ t.task.0)) stands,
      );
    }

pub returns-then-running-gt0 : goal.returns-then-running-gt0
returns-then-running-gt0 g c =
    let clock = g.J.Run.clock in
    let orders = g.J.Run.orders in
    let code = g.J.Run.code in
    let limits = g.J.Run.limits in
    let e = c.in-Sync.ensures in
    let adv : HasAdvanced code c.job.inside.task c.advance.new.self =
    subst (λ k. HasAdvanced k c.job.inside.task c.advance.new.self) c.requires.run.2
    (record { number = e.task.0; which = e.task.1; running = e.task.2; trace = e.trace; state = e.state; still = e.stops }) in
    let r = c.reserve.ensures in
    let room : HasRoomNow c.advance.new.self c.reserve.new.self = record { number = r.task.0; which = r.task.1; spot = r.task.2; held = r.task.3; trace = r.trace } in
    let first : Stands code c.job.inside.task (λ P w. w ≡ ToSync) = subst (λ (x : JobNow). Stands code x.task (λ P w. w ≡ ToSync)) (sym c.job.view_is) c.requires.wish in
    let stands_call : Stands code c.args.job.task (λ P w. w ≡ ToSync) = c.requires.wish in
    let b : BookNow = record {
      limits = c.self.inside.limits;
      holder = c.self.inside.holder;
      writer = c.self.inside.writer;
      lines = c.self.inside.lines.items;
      traces = c.self.inside.traces.items;
      creates = c.self.inside.creates;
      counts = c.self.inside.counts;
      first = c.self.inside.first;
    } in
    let is : IsBook clock orders code limits b = c.self.invariant in
    let j : JobNow = record { task = c.reserve.new.self; place = c.job.inside.place; pace = c.job.inside.pace } in
    let job : IsJob clock orders code j = c.hold-held.ensures.was in
    let v = c.hold-held.new.holder.view in
    let held = c.hold-held.result in
    let t = c.hold-held.ensures in
    let known : IsKnown code (entries_of b) j b.holder.view.tasks v = job_known clock orders code limits b j v is job t.told t.own.0 t.one in
    let old = c.job.view_is in
    let same : IsOfCall c.args.job j = record {
      task = record {
        number = room.number ∙ adv.number ∙ ap (λ (x : JobNow). x.task.number) old;
        which = room.which ∙ adv.which ∙ ap (λ (x : JobNow). x.task.which) old;
        trace = room.trace ∙ ap (λ y. y.items) adv.trace ∙ ap (λ (x : JobNow). x.task.trace.items) old;
      };
      place = ap (λ (x : JobNow). x.place) old;
      pace = ap (λ (x : JobNow). x.pace) old;
    } in
    let tn : c.number-task.result ≡ j.task.number = c.number-task.ensures ∙ ap (λ (y : TaskNow). y.number) t.task.0 in
    let low : c.number-task.result < length b.lines = (let at = has_line clock orders code limits b j v is known in omega (arith, at, tn)) in
    let l = c.index.result.now in
    let there0 : slice_get b.lines c.number-task.result ≡ Some l = slice_get_read b.lines (length b.lines) c.number-task.result l refl low c.index.ensures in
    let there : slice_get b.lines j.task.number ≡ Some l = subst (λ n. slice_get b.lines n ≡ Some l) tn there0 in
    let line : IsLineOf code (entries_of b) j.task.number l = is.listed.lines j.task.number l there in
    let block : List ℕ = block_of (past_in (entries_of b)) j.task.number in
    let some : 0 < l.count = (let many = c.running-2.ensures in let more = c.if-running-gt0.true in omega (arith, many, more)) in
    let barred : AllEnded (past_in (entries_of b)) block → ⊥ = one_runs code (entries_of b) j.task.number l line some in
    let hs : c.nobody_sits.new.holder ≡ c.hold-held.new.holder = c.nobody_sits.ensures.same.0 in
    let v2 = c.nobody_sits.new.holder.view in
    let h = c.release-job.new.holder in
    let kept : take c.self.inside.lines.len (c.nobody_sits.new.lines ++ drop (length c.nobody_sits.new.lines) c.self.inside.lines.items) ≡ b.lines =
    came_back c.self.inside.lines.len b.lines c.nobody_sits.new.lines (c.nobody_sits.ensures.same.1 ∙ c.as_mut_slice.ensures.value)
    (let size = c.self.inside.lines.ok.0 in omega (arith, size)) in
    let q = c.release-job.ensures in
    let back : IsBack c.args.job c.release-job.result =
    back_held c.args.job j c.release-job.result held.task held.at held.reach held.pace held.reader b.holder.view v2 v same t.told (ap (λ (y : Seated). y.view.known) hs) t.task.0 t.place.0 t.place.1 t.task.1 t.place.2
    q.task.0 q.task.1 q.place.0 q.place.1 q.pass q.reader in
    let seen = c.self.view_is in
    let call : c.args.job.task.number ≡ j.task.number = sym same.task.number in
    let lines = take c.self.inside.lines.len (c.nobody_sits.new.lines ++ drop (length c.nobody_sits.new.lines) c.self.inside.lines.items) in
    let mid : BookNow = record b { holder = h; writer = c.release-job.new.writer; lines = lines } in
    has_waited code limits.events c.args.self.now mid c.sit.new.self c.args.hand.now c.sit.new.hand c.args.job c.release-job.result c.sit.result
    c.sit.ensures back
    (ap (λ (y : View). own_list y) c.release-job.ensures.holder.0 ∙ ap (λ (y : Seated). own_list y.view) hs ∙ ap first_entries t.own.0 ∙ ap (λ (y : BookNow). entries_of y) seen)
    (ap jobs_in kept ∙ ap (λ (y : BookNow). jobs_in y.lines) seen) (ap (λ (y : BookNow). y.counts) seen)
    (subst (λ (y : BookNow). Stands code c.args.job.task (λ P w. IsBarred (past_in (entries_of y)) c.args.job.task.number w)) seen
    (subst (λ n. Stands code c.args.job.task (λ P w. IsBarred (past_in (entries_of b)) n w)) (sym call)
    (barred_sync code c.args.job.task (past_in (entries_of b)) j.task.number barred stands_call)))

pub table_after_sync-requires : goal.table_after_sync-requires
table_after_sync-requires g c =
    let clock = g.J.Run.clock in
    let orders = g.J.Run.orders in
    let code = g.J.Run.code in
    let limits = g.J.Run.limits in
    let first : Stands code c.job.inside.task (λ P w. w ≡ ToSync) = subst (λ (x : JobNow). Stands code x.task (λ P w. w ≡ ToSync)) (sym c.job.view_is) c.requires.wish in
    let b : BookNow = record {
      limits = c.self.inside.limits;
      holder = c.self.inside.holder;
      writer = c.self.inside.writer;
      lines = c.self.inside.lines.items;
      traces = c.self.inside.traces.items;
      creates = c.self.inside.creates;
      counts = c.self.inside.counts;
      first = c.self.inside.first;
    } in
    let is : IsBook clock orders code limits b = c.self.invariant in
    let j : JobNow = record { task = c.reserve.new.self; place = c.job.inside.place; pace = c.job.inside.pace } in
    let job : IsJob clock orders code j = c.hold-held.ensures.was in
    let v = c.hold-held.new.holder.view in
    let held = c.hold-held.result in
    let t = c.hold-held.ensures in
    let known : IsKnown code (entries_of b) j b.holder.view.tasks v = job_known clock orders code limits b j v is job t.told t.own.0 t.one in
    let K : Lists → List LineNow → List Strand → Type 0 = λ ls ns reach. AllKnown (length ls.english.order) reach × AreKnownEnds (length ls.english.order) ns c.block.result.now in
    let en = b.writer.lists.english.order in
    let he = b.writer.lists.hebrew.order in
    let by = stands_by clock orders code limits b j v is known in
    let base : K b.writer.lists b.lines j.place.table =
    (known_table (entries_of b) en he j.place.at.number j.place.table by.sound by.orders by.has, λ u a. known_end code (entries_of b) b.lines en he u by.sound by.orders by.lines_are) in
    record {
      known = subst (λ (y : Lists). K y c.as_slice.result.now held.reach) (sym c.lists.ensures)
          (subst (λ (y : List LineNow). K b.writer.lists y held.reach) (sym c.as_slice.ensures.value)
          (subst (λ (y : List Strand). K b.writer.lists b.lines y) (sym t.place.1) base));
    }

pub release-requires : goal.release-requires
release-requires g c =
    let clock = g.J.Run.clock in
    let orders = g.J.Run.orders in
    let code = g.J.Run.code in
    let limits = g.J.Run.limits in
    let b : BookNow = record {
      limits = c.self.inside.limits;
      holder = c.self.inside.holder;
      writer = c.self.inside.writer;
      lines = c.self.inside.lines.items;
      traces = c.self.inside.traces.items;
      creates = c.self.inside.creates;
      counts = c.self.inside.counts;
      first = c.self.inside.first;
    } in
    let is : IsBook clock orders code limits b = c.self.invariant in
    let j : JobNow = record { task = c.reserve.new.self; place = c.job.inside.place; pace = c.job.inside.pace } in
    let job : IsJob clock orders code j = c.hold-held.ensures.was in
    let v = c.hold-held.new.holder.view in
    let held = c.hold-held.result in
    let t = c.hold-held.ensures in
    let known : IsKnown code (entries_of b) j b.holder.view.tasks v = job_known clock orders code limits b j v is job t.told t.own.0 t.one in
    let ready : IsReady code (entries_of b) held.task held.at held.reach held.pace v =
    ready_as code (entries_of b) j.task held.task j.place.at held.at j.place.table held.reach j.pace held.pace v
    (known_ready code b j v v is.listed known refl refl) t.task.0 t.place.0 t.place.1 t.task.1 in
    record {
      run =
          (c.requires.run.0, c.requires.run.1);
      home =
          (t.clock ∙ is.home.0, is.home.1, ap (λ (y : Reading). y.home) t.place.2 ∙ job.place.orders_is);
      carried =
          ready_carried code (entries_of b) held.task held.at held.reach held.pace v ready;
      orders =
          ready_orders code b v known.known is.listed;
      knew =
          reader_knew clock orders j held.reader v job.place t.place.2 (t.told.second 0);
      strand =
          ready_strand code (entries_of b) held.task held.at held.reach held.pace v ready;
      job =
          ready_job clock orders code (entries_of b) held.task held.at held.reach held.pace v ready;
    }

pub invariant_of-self-in_default-table_after_sync : goal.invariant_of-self-in_default-table_after_sync
invariant_of-self-in_default-table_after_sync g c =
    let clock = g.J.Run.clock in
    let orders = g.J.Run.orders in
    let code = g.J.Run.code in
    let limits = g.J.Run.limits in
    let b : BookNow = record {
      limits = c.self.inside.limits;
      holder = c.self.inside.holder;
      writer = c.self.inside.writer;
      lines = c.self.inside.lines.items;
      traces = c.self.inside.traces.items;
      creates = c.self.inside.creates;
      counts = c.self.inside.counts;
      first = c.self.inside.first;
    } in
    let is : IsBook clock orders code limits b = c.self.invariant in
    let j : JobNow = record { task = c.reserve.new.self; place = c.job.inside.place; pace = c.job.inside.pace } in
    let job : IsJob clock orders code j = c.hold-held.ensures.was in
    let v = c.hold-held.new.holder.view in
    let held = c.hold-held.result in
    let t = c.hold-held.ensures in
    let known : IsKnown code (entries_of b) j b.holder.view.tasks v = job_known clock orders code limits b j v is job t.told t.own.0 t.one in
    let number : held.task.number ≡ j.task.number = ap (λ (y : TaskNow). y.number) t.task.0 in
    let h = c.release.new.holder in
    let turned : HasTurned b j v h =
    turned_none b j c.hold-held.new.holder h t.clock c.release.ensures.holder.1 (c.release.ensures.holder.0 ∙ ap (λ n. after_note n v) number) in
    turned_book clock orders code limits b j v h c.release.new.writer is known t.own.0 turned c.release.ensures.writer

pub returns-in_default-table_after_sync : goal.returns-in_default-table_after_sync
returns-in_default-table_after_sync g c =
    let code = g.J.Run.code in
    let limits = g.J.Run.limits in
    let e = c.in-Sync.ensures in
    let adv : HasAdvanced code c.job.inside.task c.advance.new.self =
    subst (λ k. HasAdvanced k c.job.inside.task c.advance.new.self) c.requires.run.2
    (record { number = e.task.0; which = e.task.1; running = e.task.2; trace = e.trace; state = e.state; still = e.stops }) in
    let r = c.reserve.ensures in
    let room : HasRoomNow c.advance.new.self c.reserve.new.self = record { number = r.task.0; which = r.task.1; spot = r.task.2; held = r.task.3; trace = r.trace } in
    let first : Stands code c.job.inside.task (λ P w. w ≡ ToSync) = subst (λ (x : JobNow). Stands code x.task (λ P w. w ≡ ToSync)) (sym c.job.view_is) c.requires.wish in
    let b : BookNow = record {
      limits = c.self.inside.limits;
      holder = c.self.inside.holder;
      writer = c.self.inside.writer;
      lines = c.self.inside.lines.items;
      traces = c.self.inside.traces.items;
      creates = c.self.inside.creates;
      counts = c.self.inside.counts;
      first = c.self.inside.first;
    } in
    let j : JobNow = record { task = c.reserve.new.self; place = c.job.inside.place; pace = c.job.inside.pace } in
    let v = c.hold-held.new.holder.view in
    let held = c.hold-held.result in
    let t = c.hold-held.ensures in
    let old = c.job.view_is in
    let same : IsOfCall c.args.job j = record {
      task = record {
        number = room.number ∙ adv.number ∙ ap (λ (x : JobNow). x.task.number) old;
        which = room.which ∙ adv.which ∙ ap (λ (x : JobNow). x.task.which) old;
        trace = room.trace ∙ ap (λ y. y.items) adv.trace ∙ ap (λ (x : JobNow). x.task.trace.items) old;
      };
      place = ap (λ (x : JobNow). x.place) old;
      pace = ap (λ (x : JobNow). x.pace) old;
    } in
    let h = c.release.new.holder in
    let q = c.release.ensures in
    let back : IsBack c.args.job c.release.result =
    back_held c.args.job j c.release.result held.task held.at held.reach held.pace held.reader b.holder.view v v same t.told refl t.task.0 t.place.0 t.place.1 t.task.1 t.place.2
    q.task.0 q.task.1 q.place.0 q.place.1 q.pass q.reader in
    subst (λ (y : BookNow). IsRefused y (record b { holder = h; writer = c.release.new.writer }) c.args.hand.now c.args.hand.now c.args.job c.release.result) c.self.view_is
    (refused_arm b held.task.number c.hold-held.new.holder h c.release.new.writer c.args.hand.now c.args.job c.release.result t.own.0 c.release.ensures.holder.0 back)

pub draw-requires : goal.draw-requires
draw-requires g c =
    let clock = g.J.Run.clock in
    let orders = g.J.Run.orders in
    let code = g.J.Run.code in
    let limits = g.J.Run.limits in
    let b : BookNow = record {
      limits = c.self.inside.limits;
      holder = c.self.inside.holder;
      writer = c.self.inside.writer;
      lines = c.self.inside.lines.items;
      traces = c.self.inside.traces.items;
      creates = c.self.inside.creates;
      counts = c.self.inside.counts;
      first = c.self.inside.first;
    } in
    let is : IsBook clock orders code limits b = c.self.invariant in
    let j : JobNow = record { task = c.reserve.new.self; place = c.job.inside.place; pace = c.job.inside.pace } in
    let job : IsJob clock orders code j = c.hold-held.ensures.was in
    let v = c.hold-held.new.holder.view in
    let held = c.hold-held.result in
    let t = c.hold-held.ensures in
    let known : IsKnown code (entries_of b) j b.holder.view.tasks v = job_known clock orders code limits b j v is job t.told t.own.0 t.one in
    let ready : IsReady code (entries_of b) held.task held.at held.reach held.pace v =
    ready_as code (entries_of b) j.task held.task j.place.at held.at j.place.table held.reach j.pace held.pace v
    (known_ready code b j v v is.listed known refl refl) t.task.0 t.place.0 t.place.1 t.task.1 in
    record {
      clock =
          t.clock ∙ is.home.0 ∙ sym (ap (λ (y : Ticking). y.id) c.requires.run.0);
      asks =
          let event : Event = event_at held.task.number held.at.number (Syncs c.next_strand.result) in
          subst (λ y. MayAskFor v y) (sym c.entry_of-entry.ensures)
          (may_ask v event (subst (λ y. IsSound (events_in y)) (sym known.entries) is.listed.sound) known.number
          (ready_carried code (entries_of b) held.task held.at held.reach held.pace v ready) tt);
    }

pub release-requires-in_default-draw : goal.release-requires-in_default-draw
release-requires-in_default-draw g c =
    let clock = g.J.Run.clock in
    let orders = g.J.Run.orders in
    let code = g.J.Run.code in
    let limits = g.J.Run.limits in
    let b : BookNow = record {
      limits = c.self.inside.limits;
      holder = c.self.inside.holder;
      writer = c.self.inside.writer;
      lines = c.self.inside.lines.items;
      traces = c.self.inside.traces.items;
      creates = c.self.inside.creates;
      counts = c.self.inside.counts;
      first = c.self.inside.first;
    } in
    let is : IsBook clock orders code limits b = c.self.invariant in
    let j : JobNow = record { task = c.reserve.new.self; place = c.job.inside.place; pace = c.job.inside.pace } in
    let job : IsJob clock orders code j = c.hold-held.ensures.was in
    let v = c.hold-held.new.holder.view in
    let held = c.hold-held.result in
    let t = c.hold-held.ensures in
    let known : IsKnown code (entries_of b) j b.holder.view.tasks v = job_known clock orders code limits b j v is job t.told t.own.0 t.one in
    let u = c.draw.new.holder.view in
    let away : u ≡ turned_away v = c.in_default-draw.ensures.drawn.1 in
    let ready : IsReady code (entries_of b) held.task held.at held.reach held.pace u =
    ready_as code (entries_of b) j.task held.task j.place.at held.at j.place.table held.reach j.pace held.pace u
    (known_ready code b j v u is.listed known (ap (λ (x : View). book_of x) away) (ap (λ (x : View). x.tasks) away)) t.task.0 t.place.0 t.place.1 t.task.1 in
    record {
      run =
          (c.requires.run.0, c.requires.run.1);
      home =
          (c.draw.ensures.clock ∙ t.clock ∙ is.home.0, is.home.1, ap (λ (y : Reading). y.home) t.place.2 ∙ job.place.orders_is);
      carried =
          ready_carried code (entries_of b) held.task held.at held.reach held.pace u ready;
      orders =
          ready_orders code b u (ap (λ (x : View). book_of x) away ∙ known.known) is.listed;
      knew =
          reader_knew clock orders j held.reader u job.place t.place.2 (subst (λ l. IsPrefix (known_to j) l) (sym (ap (λ (x : View). book_of x) away)) (t.told.second 0));
      strand =
          ready_strand code (entries_of b) held.task held.at held.reach held.pace u ready;
      job =
          ready_job clock orders code (entries_of b) held.task held.at held.reach held.pace u ready;
    }

pub invariant_of-self-in_default-draw : goal.invariant_of-self-in_default-draw
invariant_of-self-in_default-draw g c =
    let clock = g.J.Run.clock in
    let orders = g.J.Run.orders in
    let code = g.J.Run.code in
    let limits = g.J.Run.limits in
    let b : BookNow = record {
      limits = c.self.inside.limits;
      holder = c.self.inside.holder;
      writer = c.self.inside.writer;
      lines = c.self.inside.lines.items;
      traces = c.self.inside.traces.items;
      creates = c.self.inside.creates;
      counts = c.self.inside.counts;
      first = c.self.inside.first;
    } in
    let is : IsBook clock orders code limits b = c.self.invariant in
    let j : JobNow = record { task = c.reserve.new.self; place = c.job.inside.place; pace = c.job.inside.pace } in
    let job : IsJob clock orders code j = c.hold-held.ensures.was in
    let v = c.hold-held.new.holder.view in
    let held = c.hold-held.result in
    let t = c.hold-held.ensures in
    let known : IsKnown code (entries_of b) j b.holder.view.tasks v = job_known clock orders code limits b j v is job t.told t.own.0 t.one in
    let number : held.task.number ≡ j.task.number = ap (λ (y : TaskNow). y.number) t.task.0 in
    let h = c.release-in_default-draw.new.holder in
    let turned : HasTurned b j v h =
    turned_spent c.args.clock.now.size (event_of c.entry_of-entry.result) b j c.hold-held.new.holder c.draw.new.holder h c.in_default-draw.field-0 t.clock c.draw.ensures.clock
    c.in_default-draw.ensures.drawn c.release-in_default-draw.ensures.holder.1 (c.release-in_default-draw.ensures.holder.0 ∙ ap (λ n. after_note n c.draw.new.holder.view) number) in
    turned_book clock orders code limits b j v h c.release-in_default-draw.new.writer is known t.own.0 turned c.release-in_default-draw.ensures.writer

pub returns-in_default-draw : goal.returns-in_default-draw
returns-in_default-draw g c =
    let clock = g.J.Run.clock in
    let orders = g.J.Run.orders in
    let code = g.J.Run.code in
    let limits = g.J.Run.limits in
    let e = c.in-Sync.ensures in
    let adv : HasAdvanced code c.job.inside.task c.advance.new.self =
    subst (λ k. HasAdvanced k c.job.inside.task c.advance.new.self) c.requires.run.2
    (record { number = e.task.0; which = e.task.1; running = e.task.2; trace = e.trace; state = e.state; still = e.stops }) in
    let r = c.reserve.ensures in
    let room : HasRoomNow c.advance.new.self c.reserve.new.self = record { number = r.task.0; which = r.task.1; spot = r.task.2; held = r.task.3; trace = r.trace } in
    let first : Stands code c.job.inside.task (λ P w. w ≡ ToSync) = subst (λ (x : JobNow). Stands code x.task (λ P w. w ≡ ToSync)) (sym c.job.view_is) c.requires.wish in
    let stands_call : Stands code c.args.job.task (λ P w. w ≡ ToSync) = c.requires.wish in
    let b : BookNow = record {
      limits = c.self.inside.limits;
      holder = c.self.inside.holder;
      writer = c.self.inside.writer;
      lines = c.self.inside.lines.items;
      traces = c.self.inside.traces.items;
      creates = c.self.inside.creates;
      counts = c.self.inside.counts;
      first = c.self.inside.first;
    } in
    let is : IsBook clock orders code limits b = c.self.invariant in
    let j : JobNow = record { task = c.reserve.new.self; place = c.job.inside.place; pace = c.job.inside.pace } in
    let job : IsJob clock orders code j = c.hold-held.ensures.was in
    let v = c.hold-held.new.holder.view in
    let held = c.hold-held.result in
    let t = c.hold-held.ensures in
    let known : IsKnown code (entries_of b) j b.holder.view.tasks v = job_known clock orders code limits b j v is job t.told t.own.0 t.one in
    let old = c.job.view_is in
    let same : IsOfCall c.args.job j = record {
      task = record {
        number = room.number ∙ adv.number ∙ ap (λ (x : JobNow). x.task.number) old;
        which = room.which ∙ adv.which ∙ ap (λ (x : JobNow). x.task.which) old;
        trace = room.trace ∙ ap (λ y. y.items) adv.trace ∙ ap (λ (x : JobNow). x.task.trace.items) old;
      };
      place = ap (λ (x : JobNow). x.place) old;
      pace = ap (λ (x : JobNow). x.pace) old;
    } in
    let tn : c.number-task.result ≡ j.task.number = c.number-task.ensures ∙ ap (λ (y : TaskNow). y.number) t.task.0 in
    let low : c.number-task.result < length b.lines = (let at = has_line clock orders code limits b j v is known in omega (arith, at, tn)) in
    let l = c.index.result.now in
    let there0 : slice_get b.lines c.number-task.result ≡ Some l = slice_get_read b.lines (length b.lines) c.number-task.result l refl low c.index.ensures in
    let there : slice_get b.lines j.task.number ≡ Some l = subst (λ n. slice_get b.lines n ≡ Some l) tn there0 in
    let line : IsLineOf code (entries_of b) j.task.number l = is.listed.lines j.task.number l there in
    let block : List ℕ = block_of (past_in (entries_of b)) j.task.number in
    let none : l.count ≡ 0 = (let many = c.running-2.ensures in let few = c.if-running-gt0.false in omega (arith, many, few)) in
    let all : AllEnded (past_in (entries_of b)) block = all_ended code (entries_of b) j.task.number l line none in
    let call : c.args.job.task.number ≡ j.task.number = sym same.task.number in
    let away : c.draw.new.holder.view ≡ turned_away v = c.in_default-draw.ensures.drawn.1 in
    let h = c.release-in_default-draw.new.holder in
    let w = c.release-in_default-draw.new.writer in
    let q = c.release-in_default-draw.ensures in
    let back : IsBack c.args.job c.release-in_default-draw.result =
    back_held c.args.job j c.release-in_default-draw.result held.task held.at held.reach held.pace held.reader b.holder.view c.draw.new.holder.view v same t.told (ap (λ (x : View). x.known) away) t.task.0 t.place.0 t.place.1 t.task.1 t.place.2
    q.task.0 q.task.1 q.place.0 q.place.1 q.pass q.reader in
    subst (λ (y : BookNow). IsSpent code limits.events y (record b { holder = h; writer = w }) c.args.hand.now c.args.hand.now c.args.job c.release-in_default-draw.result
    (finish.Events b.limits.events)) c.self.view_is
    (spent_arm code limits c.args.clock.now.size (event_of c.entry_of-entry.result) b held.task.number c.in_default-draw.field-0 c.hold-held.new.holder c.draw.new.holder h w
    c.args.hand.now c.args.job c.release-in_default-draw.result is.limits_are.0 t.own.0 c.in_default-draw.ensures.drawn c.release-in_default-draw.ensures.holder.0 back
    (subst (λ n. Stands code c.args.job.task (λ P w. IsFree (past_in (entries_of b)) n w)) (sym call)
    (free_sync code c.args.job.task (past_in (entries_of b)) j.task.number all stands_call)))

pub invariant_of-sync : goal.invariant_of-sync
invariant_of-sync g c =
    let clock = g.J.Run.clock in
    let orders = g.J.Run.orders in
    let code = g.J.Run.code in
    let limits = g.J.Run.limits in
    let b : BookNow = record {
      limits = c.self.inside.limits;
      holder = c.self.inside.holder;
      writer = c.self.inside.writer;
      lines = c.self.inside.lines.items;
      traces = c.self.inside.traces.items;
      creates = c.self.inside.creates;
      counts = c.self.inside.counts;
      first = c.self.inside.first;
    } in
    let is : IsBook clock orders code limits b = c.self.invariant in
    record { own = is.home.1 ∙ sym c.requires.run.1 }

pub sync-held-requires : goal.sync-held-requires
sync-held-requires g c =
    let clock = g.J.Run.clock in
    let orders = g.J.Run.orders in
    let code = g.J.Run.code in
    let limits = g.J.Run.limits in
    let r = c.reserve.ensures in
    let room : HasRoomNow c.advance.new.self c.reserve.new.self = record { number = r.task.0; which = r.task.1; spot = r.task.2; held = r.task.3; trace = r.trace } in
    let first : Stands code c.job.inside.task (λ P w. w ≡ ToSync) = subst (λ (x : JobNow). Stands code x.task (λ P w. w ≡ ToSync)) (sym c.job.view_is) c.requires.wish in
    let b : BookNow = record {
      limits = c.self.inside.limits;
      holder = c.self.inside.holder;
      writer = c.self.inside.writer;
      lines = c.self.inside.lines.items;
      traces = c.self.inside.traces.items;
      creates = c.self.inside.creates;
      counts = c.self.inside.counts;
      first = c.self.inside.first;
    } in
    let is : IsBook clock orders code limits b = c.self.invariant in
    let j : JobNow = record { task = c.reserve.new.self; place = c.job.inside.place; pace = c.job.inside.pace } in
    let job : IsJob clock orders code j = c.hold-held.ensures.was in
    let v = c.hold-held.new.holder.view in
    let held = c.hold-held.result in
    let t = c.hold-held.ensures in
    let known : IsKnown code (entries_of b) j b.holder.view.tasks v = job_known clock orders code limits b j v is job t.told t.own.0 t.one in
    let tn : c.number-task.result ≡ j.task.number = c.number-task.ensures ∙ ap (λ (y : TaskNow). y.number) t.task.0 in
    let low : c.number-task.result < length b.lines = (let at = has_line clock orders code limits b j v is known in omega (arith, at, tn)) in
    let l = c.index.result.now in
    let there0 : slice_get b.lines c.number-task.result ≡ Some l = slice_get_read b.lines (length b.lines) c.number-task.result l refl low c.index.ensures in
    let there : slice_get b.lines j.task.number ≡ Some l = subst (λ n. slice_get b.lines n ≡ Some l) tn there0 in
    let line : IsLineOf code (entries_of b) j.task.number l = is.listed.lines j.task.number l there in
    let block : List ℕ = block_of (past_in (entries_of b)) j.task.number in
    let l3 = c.index-3.result.now in
    let l3_is : l3 ≡ l = same_Some l3 l (sym (slice_get_read b.lines (length b.lines) c.number-task.result l3 refl low c.index-3.ensures) ∙ there0) in
    let block3_is : c.block-2.result.now ≡ block = c.block-2.ensures ∙ ap (λ (y : LineNow). y.block) l3_is ∙ line.block in
    let firsts : c.first_last-first.result ≡ option_map (λ (y : Ended). y.at) (first_end b.lines block) =
    c.first_last-first.ensures ∙ ap (λ (y : List LineNow). option_map (λ (z : Ended). z.at) (first_end y c.block-2.result.now)) c.as_slice-2.ensures.value
    ∙ ap (λ y. option_map (λ (z : Ended). z.at) (first_end b.lines y)) block3_is in
    let ready : IsReady code (entries_of b) held.task held.at held.reach held.pace v =
    ready_as code (entries_of b) j.task held.task j.place.at held.at j.place.table held.reach j.pace held.pace v
    (known_ready code b j v v is.listed known refl refl) t.task.0 t.place.0 t.place.1 t.task.1 in
    let k = c.in-At.ticket in
    let below : k < limits.events =
    subst (λ n. k < n) (ap (λ (y : Ticking). y.size.bound) c.requires.run.0 ∙ is.limits_are.1) c.in-At.ensures.drawn.0 in
    let low : (y : ℕ × Event) → Among y (entries_of b) → y.0 < k = λ y a. c.in-At.ensures.drawn.1.known 0 y (subst (Among y) (sym known.known) a) in
    record {
      at_in =
          stands_in (entries_of b) b.writer.lists.english.order b.writer.lists.hebrew.order held.at is.listed.sound is.listed.orders ready.holds.placed.0;
      room =
          let has : HasRoom b.writer.lists.english.order b.writer.lists.english.room =
          has_room (entries_of b) b.writer.lists.english.order b.writer.lists.hebrew.order b.writer.lists.english.room k limits.events is.listed.sound is.listed.orders is.listed.rises low
          below is.room is.small in
          let two = has.two in
          omega (arith, two);
      last_in =
          subst (λ o. IfSome o (λ last. IsIn last.number b.writer.lists.english.order b.writer.lists.hebrew.order)) (sym firsts)
          (first_in code (entries_of b) b.lines b.writer.lists block is.listed.sound (lines_of clock orders code limits b is) is.listed.orders);
    }

pub feed-requires : goal.feed-requires
feed-requires g c =
    subst (λ (y : TaskNow). 1 ≤ y.trace.spare) (sym c.hold-held.ensures.task.0) c.in-Ok.ensures.room

pub go_on-requires : goal.go_on-requires
go_on-requires g c =
    let clock = g.J.Run.clock in
    let orders = g.J.Run.orders in
    let code = g.J.Run.code in
    let limits = g.J.Run.limits in
    let b : BookNow = record {
      limits = c.self.inside.limits;
      holder = c.self.inside.holder;
      writer = c.self.inside.writer;
      lines = c.self.inside.lines.items;
      traces = c.self.inside.traces.items;
      creates = c.self.inside.creates;
      counts = c.self.inside.counts;
      first = c.self.inside.first;
    } in
    let is : IsBook clock orders code limits b = c.self.invariant in
    let j : JobNow = record { task = c.reserve.new.self; place = c.job.inside.place; pace = c.job.inside.pace } in
    let job : IsJob clock orders code j = c.hold-held.ensures.was in
    let v = c.hold-held.new.holder.view in
    let t = c.hold-held.ensures in
    let known : IsKnown code (entries_of b) j b.holder.view.tasks v = job_known clock orders code limits b j v is job t.told t.own.0 t.one in
    let k = c.in-At.ticket in
    let below : k < limits.events =
    subst (λ n. k < n) (ap (λ (y : Ticking). y.size.bound) c.requires.run.0 ∙ is.limits_are.1) c.in-At.ensures.drawn.0 in
    let low : (y : ℕ × Event) → Among y (entries_of b) → y.0 < k = λ y a. c.in-At.ensures.drawn.1.known 0 y (subst (Among y) (sym known.known) a) in
    let few = few_tickets (entries_of b) k is.listed.rises low in
    let events = is.counted.events in
    omega (arith, few, events, below)

pub release-requires-2 : goal.release-requires-2
release-requires-2 g c =
    let clock = g.J.Run.clock in
    let orders = g.J.Run.orders in
    let code = g.J.Run.code in
    let limits = g.J.Run.limits in
    let e = c.in-Sync.ensures in
    let j0 : JobNow = record { task = c.job.inside.task; place = c.job.inside.place; pace = c.job.inside.pace } in
    let adv : HasAdvanced code c.job.inside.task c.advance.new.self =
    subst (λ k. HasAdvanced k c.job.inside.task c.advance.new.self) c.requires.run.2
    (record { number = e.task.0; which = e.task.1; running = e.task.2; trace = e.trace; state = e.state; still = e.stops }) in
    let r = c.reserve.ensures in
    let room : HasRoomNow c.advance.new.self c.reserve.new.self = record { number = r.task.0; which = r.task.1; spot = r.task.2; held = r.task.3; trace = r.trace } in
    let first : Stands code c.job.inside.task (λ P w. w ≡ ToSync) = subst (λ (x : JobNow). Stands code x.task (λ P w. w ≡ ToSync)) (sym c.job.view_is) c.requires.wish in
    let stands : Stands code c.reserve.new.self (λ P w. w ≡ ToSync) =
    stands_same code c.advance.new.self c.reserve.new.self (λ P w. w ≡ ToSync) room
    (stands_advanced code (known_to j0) c.job.inside.task c.advance.new.self (λ P w. w ≡ ToSync) adv c.job.invariant.started first) in
    let b : BookNow = record {
      limits = c.self.inside.limits;
      holder = c.self.inside.holder;
      writer = c.self.inside.writer;
      lines = c.self.inside.lines.items;
      traces = c.self.inside.traces.items;
      creates = c.self.inside.creates;
      counts = c.self.inside.counts;
      first = c.self.inside.first;
    } in
    let is : IsBook clock orders code limits b = c.self.invariant in
    let j : JobNow = record { task = c.reserve.new.self; place = c.job.inside.place; pace = c.job.inside.pace } in
    let job : IsJob clock orders code j = c.hold-held.ensures.was in
    let v = c.hold-held.new.holder.view in
    let held = c.hold-held.result in
    let t = c.hold-held.ensures in
    let known : IsKnown code (entries_of b) j b.holder.view.tasks v = job_known clock orders code limits b j v is job t.told t.own.0 t.one in
    let tn : c.number-task.result ≡ j.task.number = c.number-task.ensures ∙ ap (λ (y : TaskNow). y.number) t.task.0 in
    let low : c.number-task.result < length b.lines = (let at = has_line clock orders code limits b j v is known in omega (arith, at, tn)) in
    let l = c.index.result.now in
    let there0 : slice_get b.lines c.number-task.result ≡ Some l = slice_get_read b.lines (length b.lines) c.number-task.result l refl low c.index.ensures in
    let there : slice_get b.lines j.task.number ≡ Some l = subst (λ n. slice_get b.lines n ≡ Some l) tn there0 in
    let line : IsLineOf code (entries_of b) j.task.number l = is.listed.lines j.task.number l there in
    let block : List ℕ = block_of (past_in (entries_of b)) j.task.number in
    let none : l.count ≡ 0 = (let many = c.running-2.ensures in let few = c.if-running-gt0.false in omega (arith, many, few)) in
    let all : AllEnded (past_in (entries_of b)) block = all_ended code (entries_of b) j.task.number l line none in
    let k = c.in-At.ticket in
    let x = c.sync-held.result.number in
    let next : x ≡ length b.writer.lists.english.order = c.sync-held.ensures.number in
    let event : Event = event_at j.task.number j.place.at.number (Syncs x) in
    let event_is : event_of c.entry_of-entry.result ≡ event =
    c.entry_of-entry.ensures ∙ ap (λ (y : TaskNow). event_at y.number held.at.number (Syncs c.next_strand.result)) t.task.0
    ∙ ap (λ (y : Strand). event_at j.task.number y.number (Syncs c.next_strand.result)) t.place.0
    ∙ ap (λ y. event_at j.task.number j.place.at.number (Syncs y)) (c.next_strand.ensures ∙ sym next) in
    let below : k < limits.events =
    subst (λ n. k < n) (ap (λ (y : Ticking). y.size.bound) c.requires.run.0 ∙ is.limits_are.1) c.in-At.ensures.drawn.0 in
    let above : IsAbove k v = c.in-At.ensures.drawn.1 in
    let u = c.draw.new.holder.view in
    let drew : u ≡ drawn k event v = c.in-At.ensures.drawn.2 ∙ ap (λ y. drawn k y v) event_is in
    let later : List (ℕ × Event) = entries_of b ++ (k, event) ∷ [] in
    let l3 = c.index-3.result.now in
    let l3_is : l3 ≡ l = same_Some l3 l (sym (slice_get_read b.lines (length b.lines) c.number-task.result l3 refl low c.index-3.ensures) ∙ there0) in
    let block3_is : c.block-2.result.now ≡ block = c.block-2.ensures ∙ ap (λ (y : LineNow). y.block) l3_is ∙ line.block in
    let firsts : c.first_last-first.result ≡ option_map (λ (y : Ended). y.at) (first_end b.lines block) =
    c.first_last-first.ensures ∙ ap (λ (y : List LineNow). option_map (λ (z : Ended). z.at) (first_end y c.block-2.result.now)) c.as_slice-2.ensures.value
    ∙ ap (λ y. option_map (λ (z : Ended). z.at) (first_end b.lines y)) block3_is in
    let writer = c.sync-held.new.placer.writer.now in
    let sound : IsSound (events_in later) = sync_sound clock orders code limits b j v k x l is known t.one there none stands next below above in
    let extends : Extends (events_in (entries_of b)) j.task.number j.place.at.number (Syncs x) b.writer.lists.english.order b.writer.lists.hebrew.order
    writer.lists.english.order writer.lists.hebrew.order =
    subst (λ (y : Strand). Extends (events_in (entries_of b)) j.task.number y.number (Syncs x) b.writer.lists.english.order b.writer.lists.hebrew.order
    writer.lists.english.order writer.lists.hebrew.order) t.place.0 (c.sync-held.ensures.extends (events_in (entries_of b)) j.task.number
    (subst (λ o. IsLastOf (past_in (entries_of b)) block o) (sym firsts) (first_ended code (entries_of b) b.lines block is.listed.sound (lines_of clock orders code limits b is) all))) in
    let roomy : AreRoomy later limits.events writer.lists =
    roomy_add (entries_of b) limits.events k j.task.number j.place.at.number (Syncs x) b.writer.lists writer.lists sound
    (record { orders = is.listed.orders; room = is.room }) extends c.sync-held.ensures.put.spare in
    let belongs : Belongs (events_in (entries_of b)) j.task.number j.place.at (Syncs x) c.sync-held.result =
    subst (λ (y : Strand). Belongs (events_in (entries_of b)) j.task.number y (Syncs x) c.sync-held.result) t.place.0
    (c.sync-held.ensures.belongs (events_in (entries_of b)) j.task.number) in
    let table : List Strand = c.in-Ok-table_after_sync.table in
    let l2 = c.index-2.result.now in
    let l2_is : l2 ≡ l = same_Some l2 l (sym (slice_get_read b.lines (length b.lines) c.number-task.result l2 refl low c.index-2.ensures) ∙ there0) in
    let block_is : c.block.result.now ≡ block = c.block.ensures ∙ ap (λ (y : LineNow). y.block) l2_is ∙ line.block in
    let merges : MergesEnds b.lines b.writer.lists j.place.table j.place.at.future block table =
    subst (λ (y : Strand). MergesEnds b.lines b.writer.lists j.place.table y.future block table) t.place.0
    (subst (λ (y : List Strand). MergesEnds b.lines b.writer.lists y held.at.future block table) t.place.1
    (subst (λ (y : Lists). MergesEnds b.lines y held.reach held.at.future block table) c.lists.ensures
    (subst (λ (y : List LineNow). MergesEnds y c.lists.result.now held.reach held.at.future block table) c.as_slice.ensures.value
    (subst (λ y. MergesEnds c.as_slice.result.now c.lists.result.now held.reach held.at.future y table) block_is c.in-Ok-table_after_sync.ensures)))) in
    let stood : HasStrand later c.sync-held.result table =
    stand_synced code (entries_of b) b.lines b.writer.lists k j.task.number j.place.at.future j.place.at c.sync-held.result j.place.table table sound
    (stands_by clock orders code limits b j v is known) merges all belongs in
    let new = c.feed.new.self in
    let act_is : action_of c.entry_of-entry.result.act ≡ Syncs x = ap (λ (y : Event). y.action) event_is in
    let number : new.number ≡ j.task.number = c.feed.ensures.task.0 ∙ ap (λ (y : TaskNow). y.number) t.task.0 in
    let which : new.which ≡ j.task.which = c.feed.ensures.task.1 ∙ ap (λ (y : TaskNow). y.which) t.task.0 in
    let ended : new.spot.ended ≡ j.task.spot.ended =
    ap (λ (y : Spot). y.ended) c.feed.ensures.spot ∙ ap (λ y. ended_after held.task.spot.ended y) act_is ∙ ap (λ (y : TaskNow). y.spot.ended) t.task.0 in
    let trace : drawn_of new.trace.items ≡ drawn_of j.task.trace.items ++ (k, event) ∷ [] =
    trace_fed new.trace.items j.task.trace.items k c.entry_of-entry.result event
    (c.feed.ensures.trace ∙ ap (λ (y : TaskNow). y.trace.items ++ (k, c.entry_of-entry.result) ∷ []) t.task.0) event_is in
    let feeds = feeds_as code c.args.code.now j.task held.task new (action_of c.entry_of-entry.result.act) (Syncs x) c.requires.run.2 t.task.0 act_is
    (still_room code c.advance.new.self c.reserve.new.self room adv.still) job.running c.feed.ensures.state in
    let ready_new : IsReady code later new c.sync-held.result table c.go_on.new.pace (drawn k event v) =
    sync_ready clock orders code limits b j v k x l is known t.one there none stands next below above new c.sync-held.result table c.go_on.new.pace
    number which ended trace feeds refl stood.0 stood.1 c.go_on.ensures.pace in
    let ready : IsReady code later new c.sync-held.result table c.go_on.new.pace u =
    subst (λ (y : View). IsReady code later new c.sync-held.result table c.go_on.new.pace y) (sym drew) ready_new in
    record {
      run =
          (c.requires.run.0, c.requires.run.1);
      home = (
        c.draw.ensures.clock ∙ t.clock ∙ is.home.0,
        c.sync-held.new.placer.own ∙ ap (λ y. y.0) c.sync-held.ensures.put.home ∙ c.requires.run.1,
        ap (λ (y : Reading). y.home) t.place.2 ∙ job.place.orders_is,
      );
      carried =
          ready_carried code later new c.sync-held.result table c.go_on.new.pace u ready;
      orders =
          subst (λ y. IsSound (events_in y) × AreOrders (events_in y) writer.lists.english.order writer.lists.hebrew.order) (sym ready.known) (sound, roomy.orders);
      knew =
          let begins : IsPrefix (known_to j) later =
          prefix_more (known_to j) (entries_of b) ((k, event) ∷ []) (subst (λ y. IsPrefix (known_to j) y) known.known (t.told.second 0)) in
          reader_knew clock orders j held.reader u job.place t.place.2 (subst (λ y. IsPrefix (known_to j) y) (sym ready.known) begins);
      strand =
          ready_strand code later new c.sync-held.result table c.go_on.new.pace u ready;
      job =
          ready_job clock orders code later new c.sync-held.result table c.go_on.new.pace u ready;
    }

pub invariant_of-self-2 : goal.invariant_of-self-2
invariant_of-self-2 g c =
    let clock = g.J.Run.clock in
    let orders = g.J.Run.orders in
    let code = g.J.Run.code in
    let limits = g.J.Run.limits in
    let e = c.in-Sync.ensures in
    let j0 : JobNow = record { task = c.job.inside.task; place = c.job.inside.place; pace = c.job.inside.pace } in
    let adv : HasAdvanced code c.job.inside.task c.advance.new.self =
    subst (λ k. HasAdvanced k c.job.inside.task c.advance.new.self) c.requires.run.2
    (record { number = e.task.0; which = e.task.1; running = e.task.2; trace = e.trace; state = e.state; still = e.stops }) in
    let r = c.reserve.ensures in
    let room : HasRoomNow c.advance.new.self c.reserve.new.self = record { number = r.task.0; which = r.task.1; spot = r.task.2; held = r.task.3; trace = r.trace } in
    let first : Stands code c.job.inside.task (λ P w. w ≡ ToSync) = subst (λ (x : JobNow). Stands code x.task (λ P w. w ≡ ToSync)) (sym c.job.view_is) c.requires.wish in
    let stands : Stands code c.reserve.new.self (λ P w. w ≡ ToSync) =
    stands_same code c.advance.new.self c.reserve.new.self (λ P w. w ≡ ToSync) room
    (stands_advanced code (known_to j0) c.job.inside.task c.advance.new.self (λ P w. w ≡ ToSync) adv c.job.invariant.started first) in
    let b : BookNow = record {
      limits = c.self.inside.limits;
      holder = c.self.inside.holder;
      writer = c.self.inside.writer;
      lines = c.self.inside.lines.items;
      traces = c.self.inside.traces.items;
      creates = c.self.inside.creates;
      counts = c.self.inside.counts;
      first = c.self.inside.first;
    } in
    let is : IsBook clock orders code limits b = c.self.invariant in
    let j : JobNow = record { task = c.reserve.new.self; place = c.job.inside.place; pace = c.job.inside.pace } in
    let job : IsJob clock orders code j = c.hold-held.ensures.was in
    let v = c.hold-held.new.holder.view in
    let held = c.hold-held.result in
    let t = c.hold-held.ensures in
    let known : IsKnown code (entries_of b) j b.holder.view.tasks v = job_known clock orders code limits b j v is job t.told t.own.0 t.one in
    let tn : c.number-task.result ≡ j.task.number = c.number-task.ensures ∙ ap (λ (y : TaskNow). y.number) t.task.0 in
    let low : c.number-task.result < length b.lines = (let at = has_line clock orders code limits b j v is known in omega (arith, at, tn)) in
    let l = c.index.result.now in
    let there0 : slice_get b.lines c.number-task.result ≡ Some l = slice_get_read b.lines (length b.lines) c.number-task.result l refl low c.index.ensures in
    let there : slice_get b.lines j.task.number ≡ Some l = subst (λ n. slice_get b.lines n ≡ Some l) tn there0 in
    let line : IsLineOf code (entries_of b) j.task.number l = is.listed.lines j.task.number l there in
    let block : List ℕ = block_of (past_in (entries_of b)) j.task.number in
    let none : l.count ≡ 0 = (let many = c.running-2.ensures in let few = c.if-running-gt0.false in omega (arith, many, few)) in
    let all : AllEnded (past_in (entries_of b)) block = all_ended code (entries_of b) j.task.number l line none in
    let k = c.in-At.ticket in
    let x = c.sync-held.result.number in
    let next : x ≡ length b.writer.lists.english.order = c.sync-held.ensures.number in
    let event : Event = event_at j.task.number j.place.at.number (Syncs x) in
    let event_is : event_of c.entry_of-entry.result ≡ event =
    c.entry_of-entry.ensures ∙ ap (λ (y : TaskNow). event_at y.number held.at.number (Syncs c.next_strand.result)) t.task.0
    ∙ ap (λ (y : Strand). event_at j.task.number y.number (Syncs c.next_strand.result)) t.place.0
    ∙ ap (λ y. event_at j.task.number j.place.at.number (Syncs y)) (c.next_strand.ensures ∙ sym next) in
    let below : k < limits.events =
    subst (λ n. k < n) (ap (λ (y : Ticking). y.size.bound) c.requires.run.0 ∙ is.limits_are.1) c.in-At.ensures.drawn.0 in
    let above : IsAbove k v = c.in-At.ensures.drawn.1 in
    let u = c.draw.new.holder.view in
    let drew : u ≡ drawn k event v = c.in-At.ensures.drawn.2 ∙ ap (λ y. drawn k y v) event_is in
    let later : List (ℕ × Event) = entries_of b ++ (k, event) ∷ [] in
    let l3 = c.index-3.result.now in
    let l3_is : l3 ≡ l = same_Some l3 l (sym (slice_get_read b.lines (length b.lines) c.number-task.result l3 refl low c.index-3.ensures) ∙ there0) in
    let block3_is : c.block-2.result.now ≡ block = c.block-2.ensures ∙ ap (λ (y : LineNow). y.block) l3_is ∙ line.block in
    let firsts : c.first_last-first.result ≡ option_map (λ (y : Ended). y.at) (first_end b.lines block) =
    c.first_last-first.ensures ∙ ap (λ (y : List LineNow). option_map (λ (z : Ended). z.at) (first_end y c.block-2.result.now)) c.as_slice-2.ensures.value
    ∙ ap (λ y. option_map (λ (z : Ended). z.at) (first_end b.lines y)) block3_is in
    let writer = c.sync-held.new.placer.writer.now in
    let sound : IsSound (events_in later) = sync_sound clock orders code limits b j v k x l is known t.one there none stands next below above in
    let extends : Extends (events_in (entries_of b)) j.task.number j.place.at.number (Syncs x) b.writer.lists.english.order b.writer.lists.hebrew.order
    writer.lists.english.order writer.lists.hebrew.order =
    subst (λ (y : Strand). Extends (events_in (entries_of b)) j.task.number y.number (Syncs x) b.writer.lists.english.order b.writer.lists.hebrew.order
    writer.lists.english.order writer.lists.hebrew.order) t.place.0 (c.sync-held.ensures.extends (events_in (entries_of b)) j.task.number
    (subst (λ o. IsLastOf (past_in (entries_of b)) block o) (sym firsts) (first_ended code (entries_of b) b.lines block is.listed.sound (lines_of clock orders code limits b is) all))) in
    let roomy : AreRoomy later limits.events writer.lists =
    roomy_add (entries_of b) limits.events k j.task.number j.place.at.number (Syncs x) b.writer.lists writer.lists sound
    (record { orders = is.listed.orders; room = is.room }) extends c.sync-held.ensures.put.spare in
    let lines : List LineNow = slice_set c.self.inside.lines.items c.number-task.result c.begin_block.new.self in
    let now = get_or_from_slice_get b.lines c.number-task.result l c.index_mut.result.now there0 in
    let lines_are : lines ≡ change_at j.task.number with_no_block b.lines =
    ap (λ y. slice_set b.lines c.number-task.result y) (c.begin_block.ensures ∙ ap with_no_block (c.index_mut.ensures.value ∙ now)) ∙ ap (λ n. slice_set b.lines n (with_no_block l)) tn
    ∙ set_changed j.task.number with_no_block b.lines l there in
    let h = c.release-2.new.holder in
    let w = c.release-2.new.writer in
    let number : c.feed.new.self.number ≡ j.task.number = c.feed.ensures.task.0 ∙ ap (λ (y : TaskNow). y.number) t.task.0 in
    let view_is : h.view ≡ after_note j.task.number (drawn k event v) =
    c.release-2.ensures.holder.0 ∙ ap (λ n. after_note n u) number ∙ ap (λ y. after_note j.task.number y) drew in
    sync_book clock orders code limits b j v k x l is known t.one there none stands next below above h w lines c.go_on.new.self
    (c.release-2.ensures.holder.1 ∙ c.draw.ensures.clock ∙ t.clock) view_is
    (ap (λ (y : Writing). y.home) c.release-2.ensures.writer ∙ c.sync-held.new.placer.own ∙ ap (λ y. y.0) c.sync-held.ensures.put.home ∙ c.requires.run.1 ∙ sym is.home.1)
    (subst (λ (y : Writing). AreOrders (events_in later) y.lists.english.order y.lists.hebrew.order) (sym c.release-2.ensures.writer) roomy.orders)
    (subst (λ (y : Writing). 2 * limits.events + 1 ≤ length y.lists.english.order + y.lists.english.room) (sym c.release-2.ensures.writer) roomy.room) lines_are c.go_on.ensures.counts

pub returns : goal.returns
returns g c =
    let clock = g.J.Run.clock in
    let orders = g.J.Run.orders in
    let code = g.J.Run.code in
    let limits = g.J.Run.limits in
    let e = c.in-Sync.ensures in
    let j0 : JobNow = record { task = c.job.inside.task; place = c.job.inside.place; pace = c.job.inside.pace } in
    let adv : HasAdvanced code c.job.inside.task c.advance.new.self =
    subst (λ k. HasAdvanced k c.job.inside.task c.advance.new.self) c.requires.run.2
    (record { number = e.task.0; which = e.task.1; running = e.task.2; trace = e.trace; state = e.state; still = e.stops }) in
    let r = c.reserve.ensures in
    let room : HasRoomNow c.advance.new.self c.reserve.new.self = record { number = r.task.0; which = r.task.1; spot = r.task.2; held = r.task.3; trace = r.trace } in
    let first : Stands code c.job.inside.task (λ P w. w ≡ ToSync) = subst (λ (x : JobNow). Stands code x.task (λ P w. w ≡ ToSync)) (sym c.job.view_is) c.requires.wish in
    let stands : Stands code c.reserve.new.self (λ P w. w ≡ ToSync) =
    stands_same code c.advance.new.self c.reserve.new.self (λ P w. w ≡ ToSync) room
    (stands_advanced code (known_to j0) c.job.inside.task c.advance.new.self (λ P w. w ≡ ToSync) adv c.job.invariant.started first) in
    let stands_call : Stands code c.args.job.task (λ P w. w ≡ ToSync) = c.requires.wish in
    let b : BookNow = record {
      limits = c.self.inside.limits;
      holder = c.self.inside.holder;
      writer = c.self.inside.writer;
      lines = c.self.inside.lines.items;
      traces = c.self.inside.traces.items;
      creates = c.self.inside.creates;
      counts = c.self.inside.counts;
      first = c.self.inside.first;
    } in
    let is : IsBook clock orders code limits b = c.self.invariant in
    let j : JobNow = record { task = c.reserve.new.self; place = c.job.inside.place; pace = c.job.inside.pace } in
    let job : IsJob clock orders code j = c.hold-held.ensures.was in
    let v = c.hold-held.new.holder.view in
    let held = c.hold-held.result in
    let t = c.hold-held.ensures in
    let known : IsKnown code (entries_of b) j b.holder.view.tasks v = job_known clock orders code limits b j v is job t.told t.own.0 t.one in
    let tn : c.number-task.result ≡ j.task.number = c.number-task.ensures ∙ ap (λ (y : TaskNow). y.number) t.task.0 in
    let low : c.number-task.result < length b.lines = (let at = has_line clock orders code limits b j v is known in omega (arith, at, tn)) in
    let l = c.index.result.now in
    let there0 : slice_get b.lines c.number-task.result ≡ Some l = slice_get_read b.lines (length b.lines) c.number-task.result l refl low c.index.ensures in
    let there : slice_get b.lines j.task.number ≡ Some l = subst (λ n. slice_get b.lines n ≡ Some l) tn there0 in
    let none : l.count ≡ 0 = (let many = c.running-2.ensures in let few = c.if-running-gt0.false in omega (arith, many, few)) in
    let k = c.in-At.ticket in
    let x = c.sync-held.result.number in
    let next : x ≡ length b.writer.lists.english.order = c.sync-held.ensures.number in
    let event : Event = event_at j.task.number j.place.at.number (Syncs x) in
    let event_is : event_of c.entry_of-entry.result ≡ event =
    c.entry_of-entry.ensures ∙ ap (λ (y : TaskNow). event_at y.number held.at.number (Syncs c.next_strand.result)) t.task.0
    ∙ ap (λ (y : Strand). event_at j.task.number y.number (Syncs c.next_strand.result)) t.place.0
    ∙ ap (λ y. event_at j.task.number j.place.at.number (Syncs y)) (c.next_strand.ensures ∙ sym next) in
    let below : k < limits.events =
    subst (λ n. k < n) (ap (λ (y : Ticking). y.size.bound) c.requires.run.0 ∙ is.limits_are.1) c.in-At.ensures.drawn.0 in
    let above : IsAbove k v = c.in-At.ensures.drawn.1 in
    let u = c.draw.new.holder.view in
    let drew : u ≡ drawn k event v = c.in-At.ensures.drawn.2 ∙ ap (λ y. drawn k y v) event_is in
    let later : List (ℕ × Event) = entries_of b ++ (k, event) ∷ [] in
    let old = c.job.view_is in
    let same : IsOfCall c.args.job j = record {
      task = record {
        number = room.number ∙ adv.number ∙ ap (λ (x : JobNow). x.task.number) old;
        which = room.which ∙ adv.which ∙ ap (λ (x : JobNow). x.task.which) old;
        trace = room.trace ∙ ap (λ y. y.items) adv.trace ∙ ap (λ (x : JobNow). x.task.trace.items) old;
      };
      place = ap (λ (x : JobNow). x.place) old;
      pace = ap (λ (x : JobNow). x.pace) old;
    } in
    let new = c.feed.new.self in
    let number : new.number ≡ j.task.number = c.feed.ensures.task.0 ∙ ap (λ (y : TaskNow). y.number) t.task.0 in
    let which : new.which ≡ j.task.which = c.feed.ensures.task.1 ∙ ap (λ (y : TaskNow). y.which) t.task.0 in
    let trace : drawn_of new.trace.items ≡ drawn_of j.task.trace.items ++ (k, event) ∷ [] =
    trace_fed new.trace.items j.task.trace.items k c.entry_of-entry.result event
    (c.feed.ensures.trace ∙ ap (λ (y : TaskNow). y.trace.items ++ (k, c.entry_of-entry.result) ∷ []) t.task.0) event_is in
    let h = c.release-2.new.holder in
    let view_is : h.view ≡ after_note j.task.number (drawn k event v) =
    c.release-2.ensures.holder.0 ∙ ap (λ n. after_note n u) number ∙ ap (λ y. after_note j.task.number y) drew in
    let did : HasDrawn code limits b j v k event = sync_drawn clock orders code limits b j v k x l is known t.one there none stands next below above in
    let entries : own_list h.view ≡ later = ap (λ (y : View). own_list y) view_is ∙ drawn_own clock orders code limits b j v k event is did in
    let lines : List LineNow = slice_set c.self.inside.lines.items c.number-task.result c.begin_block.new.self in
    let after : BookNow = record b { holder = h; writer = c.release-2.new.writer; lines = lines; counts = c.go_on.new.self } in
    let jobs : c.push.new.self.items ≡ c.release-2.result ∷ [] =
    c.push.ensures.items ∙ ap (λ y. y.items ++ c.release-2.result ∷ []) c.make-jobs.ensures in
    let same_new = c.release-2.ensures.task.0 in
    subst (λ (y : BookNow). HasGone code limits.events y after c.args.hand.now c.go_on.new.hand c.args.job c.push.new.self.items) c.self.view_is
    (has_gone code limits b after c.args.hand.now c.go_on.new.hand c.args.job j c.release-2.result c.push.new.self.items v k event did same stands_call entries jobs
    (ap (λ (y : TaskNow). y.number) same_new ∙ number) (ap (λ (y : TaskNow). y.which) same_new ∙ which)
    (ap (λ (y : TaskNow). drawn_of y.trace.items) same_new ∙ trace) (c.release-2.ensures.task.1 ∙ c.go_on.ensures.pace) c.go_on.ensures.counts c.go_on.ensures.hand)

use Rattle.std.proofs.Common.{◌≡◌, ℕ, ◌+◌, ◌<◌, ◌≤◌, List, [], ◌∷◌, ◌++◌, length, inl, refl, sym, ap, ◌∙◌, subst, arith}
use Rattle.std.specs.Prelude.{None, vec_len, vec_capacity}
use Rattle.fut_base.specs.declared.record.Limits.{Limits}
use Rattle.fut_base.specs.declared.record.Finish.TheVariants as finish
use Rattle.fut_base.specs.declared.event.Event.{Event}
use Rattle.fut_base.specs.declared.event.Action.{Action}
use Rattle.fut_base.specs.declared.event.Action.TheVariants.{Creates}
use Rattle.fut_base.specs.Events.{event_of, action_of}
use Rattle.fut_base.specs.Dag.{Among}
use Rattle.fut_base.specs.Sound.{IsSound, next_task, next_strand}
use Rattle.task_machine.specs.State.{ToCreate, Answers}
use Rattle.task_code.specs.declared.task.Spot.{Spot}
use Rattle.task_code.specs.Tasks.{TaskNow, ended_after}
use Rattle.event_clock.specs.declared.view.View.{View}
use Rattle.event_clock.specs.Views.{drawn, turned_away, after_note, own_list, IsAbove, MayAskFor}
use Rattle.event_clock.specs.Rule.{IsPrefix}
use Rattle.event_clock.specs.Seated.{Ticking}
use Rattle.event_clock.proofs.Lists.{prefix_more}
use Rattle.order_query.specs.Reading.{Reading, Writing}
use Rattle.strand_tree.specs.declared.strand.Strand.{Strand}
use Rattle.strand_tree.specs.Placing.{AreNext, AreOrders, Belongs, Extends}
use Rattle.reach_table.specs.Telling.{HasTable}
use Rattle.reach_table.specs.Tabled.{KidAfterCreate}
use Rattle.run_place.specs.Placed.{Placed, book_of, events_in}
use Rattle.run_book.specs.Drawn.{drawn_of, past_in}
use Rattle.run_book.specs.Jobs.{JobNow, IsJob, Stands, known_to}
use Rattle.run_book.specs.Lines.{LineNow, new_line}
use Rattle.run_book.specs.Turns.{AreSameLines}
use Rattle.run_book.specs.Books.{BookNow, IsBook, entries_of, waiting_in}
use Rattle.run_book.specs.Tabling.{AreLines}
use Rattle.run_book.specs.Coming.{IsComing}
use Rattle.run_book.specs.Steps.{IsBack, IsRefused, IsSpent, HasForked}
use Rattle.run_book.proofs.Stranding.{event_at, few_tickets, stands_in, has_room, HasRoom}
use Rattle.run_book.proofs.Knowing.{IsKnown, job_known}
use Rattle.run_book.proofs.Carrying.{carried_task}
use Rattle.run_book.proofs.Changing.{same_lines, same_length, length_pushed, waiting_pushed}
use Rattle.run_book.proofs.Giving.{IsReady, ready_carried, ready_strand, ready_job, ready_orders, ready_as, known_ready, reader_knew}
use Rattle.run_book.proofs.Turning.{kept_back}
use Rattle.run_book.proofs.Gone.{IsOfCall}
use Rattle.run_book.proofs.Fetching.{feeds_as, trace_fed, back_held}
use Rattle.run_book.proofs.Going.{HasDrawn, low, drawn_own, sound_more}
use Rattle.run_book.proofs.AllLines.{lines_created}
use Rattle.run_book.proofs.Rooming.{roomy_book}
use Rattle.run_book.proofs.Fewness.{lines_few, strands_few, strand_is, creates_few}
use Rattle.run_book.proofs.Forked.{IsFork, create_forks, event_by, fork_asks, fork_drawn, child_ready, child_gone, parent_ready, parent_gone, ends_stay, forked_book, has_forked}
use Rattle.run_book.proofs.Splitting.{HasSplit, create_split}
use Rattle.run_book.proofs.Staged.{refused_roomy, spent_book, spent_fork}
use Rattle.run_book.proofs.Asked.{free_create, if_ok}
use Rattle.run_book.proofs.book.Book.create.Goals as goal

pub asked_create-job-requires : goal.asked_create-job-requires
asked_create-job-requires g c =
    record {
      code = c.requires.run.2;
      wish = c.requires.wish;
      few = let low = lines_few g.J.Run.clock g.J.Run.orders g.J.Run.code g.J.Run.limits _ c.self.invariant in let s = c.self.inside.lines.ok.0 in omega
          (arith, low, s);
    }

pub invariant_of-self : goal.invariant_of-self
invariant_of-self g c =
    let clock = g.J.Run.clock in
    let orders = g.J.Run.orders in
    let code = g.J.Run.code in
    let limits = g.J.Run.limits in
    let b0 : BookNow = record {
      limits = c.self.inside.limits;
      holder = c.self.inside.holder;
      writer = c.self.inside.writer;
      lines = c.self.inside.lines.items;
      traces = c.self.inside.traces.items;
      creates = c.self.inside.creates;
      counts = c.self.inside.counts;
      first = c.self.inside.first;
    } in
    let lines : List LineNow = c.asked_create-job.new.lines.items in
    let same_all : AreSameLines b0.lines lines = subst (λ l. AreSameLines b0.lines l) (sym c.asked_create-job.ensures.lines) (same_lines b0.lines) in
    let b : BookNow = record b0 { lines = lines } in
    let is : IsBook clock orders code limits b = roomy_book clock orders code limits b0 lines c.self.invariant same_all in
    is

pub returns-in_default-clause-forks : goal.returns-in_default-clause-forks
returns-in_default-clause-forks g c =
    let clock = g.J.Run.clock in
    let orders = g.J.Run.orders in
    let code = g.J.Run.code in
    let limits = g.J.Run.limits in
    let b0 : BookNow = record {
      limits = c.self.inside.limits;
      holder = c.self.inside.holder;
      writer = c.self.inside.writer;
      lines = c.self.inside.lines.items;
      traces = c.self.inside.traces.items;
      creates = c.self.inside.creates;
      counts = c.self.inside.counts;
      first = c.self.inside.first;
    } in
    let lines : List LineNow = c.asked_create-job.new.lines.items in
    let same_all : AreSameLines b0.lines lines = subst (λ l. AreSameLines b0.lines l) (sym c.asked_create-job.ensures.lines) (same_lines b0.lines) in
    let b : BookNow = record b0 { lines = lines } in
    let j : JobNow = c.asked_create-job.result.0 in
    let same : IsOfCall c.args.job j =
    record { task = c.asked_create-job.ensures.task; place = c.asked_create-job.ensures.place.0; pace = c.asked_create-job.ensures.place.1 } in
    subst (λ (y : BookNow). IsRefused y b c.args.hand.now c.args.hand.now c.args.job j) c.self.view_is
    (refused_roomy clock orders code limits b0 lines c.self.invariant same_all c.args.hand.now c.args.job j
    (kept_back c.args.job j same.task same.place same.pace))

pub hold-held-requires : goal.hold-held-requires
hold-held-requires g c =
    record { run = (c.requires.run.0, c.self.invariant.home.0) }

pub overflow_cast-child : goal.overflow_cast-child
overflow_cast-child g c =
    let clock = g.J.Run.clock in
    let orders = g.J.Run.orders in
    let code = g.J.Run.code in
    let limits = g.J.Run.limits in
    let b0 : BookNow = record {
      limits = c.self.inside.limits;
      holder = c.self.inside.holder;
      writer = c.self.inside.writer;
      lines = c.self.inside.lines.items;
      traces = c.self.inside.traces.items;
      creates = c.self.inside.creates;
      counts = c.self.inside.counts;
      first = c.self.inside.first;
    } in
    let lines : List LineNow = c.asked_create-job.new.lines.items in
    let same_all : AreSameLines b0.lines lines = subst (λ l. AreSameLines b0.lines l) (sym c.asked_create-job.ensures.lines) (same_lines b0.lines) in
    let b : BookNow = record b0 { lines = lines } in
    let is : IsBook clock orders code limits b = roomy_book clock orders code limits b0 lines c.self.invariant same_all in
    let low = lines_few clock orders code limits b is in let s = c.asked_create-job.new.lines.ok.0 in omega (arith, low, s)

pub overflow_add-act : goal.overflow_add-act
overflow_add-act g c =
    let clock = g.J.Run.clock in
    let orders = g.J.Run.orders in
    let code = g.J.Run.code in
    let limits = g.J.Run.limits in
    let b0 : BookNow = record {
      limits = c.self.inside.limits;
      holder = c.self.inside.holder;
      writer = c.self.inside.writer;
      lines = c.self.inside.lines.items;
      traces = c.self.inside.traces.items;
      creates = c.self.inside.creates;
      counts = c.self.inside.counts;
      first = c.self.inside.first;
    } in
    let lines : List LineNow = c.asked_create-job.new.lines.items in
    let same_all : AreSameLines b0.lines lines = subst (λ l. AreSameLines b0.lines l) (sym c.asked_create-job.ensures.lines) (same_lines b0.lines) in
    let b : BookNow = record b0 { lines = lines } in
    let is : IsBook clock orders code limits b = roomy_book clock orders code limits b0 lines c.self.invariant same_all in
    let low = strands_few clock orders code limits b is in let e = c.next_strand-kid.ensures in omega (arith, low, e)

pub draw-requires-clause-clock : goal.draw-requires-clause-clock
draw-requires-clause-clock g c =
    let clock = g.J.Run.clock in
    let orders = g.J.Run.orders in
    let code = g.J.Run.code in
    let limits = g.J.Run.limits in
    let b0 : BookNow = record {
      limits = c.self.inside.limits;
      holder = c.self.inside.holder;
      writer = c.self.inside.writer;
      lines = c.self.inside.lines.items;
      traces = c.self.inside.traces.items;
      creates = c.self.inside.creates;
      counts = c.self.inside.counts;
      first = c.self.inside.first;
    } in
    let lines : List LineNow = c.asked_create-job.new.lines.items in
    let same_all : AreSameLines b0.lines lines = subst (λ l. AreSameLines b0.lines l) (sym c.asked_create-job.ensures.lines) (same_lines b0.lines) in
    let b : BookNow = record b0 { lines = lines } in
    let is : IsBook clock orders code limits b = roomy_book clock orders code limits b0 lines c.self.invariant same_all in
    let t = c.hold-held.ensures in
    t.clock ∙ is.home.0 ∙ sym (ap (λ (y : Ticking). y.id) c.requires.run.0)

pub draw-requires-clause-asks : goal.draw-requires-clause-asks
draw-requires-clause-asks g c =
    let clock = g.J.Run.clock in
    let orders = g.J.Run.orders in
    let code = g.J.Run.code in
    let limits = g.J.Run.limits in
    let b0 : BookNow = record {
      limits = c.self.inside.limits;
      holder = c.self.inside.holder;
      writer = c.self.inside.writer;
      lines = c.self.inside.lines.items;
      traces = c.self.inside.traces.items;
      creates = c.self.inside.creates;
      counts = c.self.inside.counts;
      first = c.self.inside.first;
    } in
    let lines : List LineNow = c.asked_create-job.new.lines.items in
    let same_all : AreSameLines b0.lines lines = subst (λ l. AreSameLines b0.lines l) (sym c.asked_create-job.ensures.lines) (same_lines b0.lines) in
    let b : BookNow = record b0 { lines = lines } in
    let is : IsBook clock orders code limits b = roomy_book clock orders code limits b0 lines c.self.invariant same_all in
    let j : JobNow = c.asked_create-job.result.0 in
    let job : IsJob clock orders code j = c.hold-held.ensures.was in
    let v = c.hold-held.new.holder.view in
    let held = c.hold-held.result in
    let t = c.hold-held.ensures in
    let known : IsKnown code (entries_of b) j b.holder.view.tasks v = job_known clock orders code limits b j v is job t.told t.own.0 t.one in
    let coming = c.in-Ok.coming in
    let which = coming.which in
    let xs = coming.args.items in
    let child = c.len-child.result in
    let kid = c.next_strand-kid.result in
    let child_len : child ≡ length lines = (let e = c.len-child.ensures in let s = c.asked_create-job.new.lines.ok.0 in omega (arith, e, s)) in
    let act : Action = Creates which child kid (kid + 1) xs in
    let event : Event = event_by j act in
    let event_is : event_of c.entry_of-entry.result ≡ event =
    c.entry_of-entry.ensures ∙ ap (λ (y : TaskNow). event_at y.number held.at.number act) t.task.0 ∙ ap (λ (y : Strand). event_at j.task.number y.number act)
    t.place.0 in
    let child_is : child ≡ next_task (past_in (entries_of b)) = child_len ∙ is.listed.tasks in
    let kid_is : kid ≡ next_strand (past_in (entries_of b)) = c.next_strand-kid.ensures ∙ strand_is clock orders code limits b is in
    let fork : IsFork (past_in (entries_of b)) j.task.number act which child kid xs =
    create_forks (past_in (entries_of b)) j.task.number which child kid (kid + 1) xs child_is kid_is refl in
    subst (λ y. MayAskFor v y) (sym event_is) (fork_asks clock orders code limits b j v act which child kid xs is known fork)

pub release-requires : goal.release-requires
release-requires g c =
    let clock = g.J.Run.clock in
    let orders = g.J.Run.orders in
    let code = g.J.Run.code in
    let limits = g.J.Run.limits in
    let b0 : BookNow = record {
      limits = c.self.inside.limits;
      holder = c.self.inside.holder;
      writer = c.self.inside.writer;
      lines = c.self.inside.lines.items;
      traces = c.self.inside.traces.items;
      creates = c.self.inside.creates;
      counts = c.self.inside.counts;
      first = c.self.inside.first;
    } in
    let lines : List LineNow = c.asked_create-job.new.lines.items in
    let same_all : AreSameLines b0.lines lines = subst (λ l. AreSameLines b0.lines l) (sym c.asked_create-job.ensures.lines) (same_lines b0.lines) in
    let b : BookNow = record b0 { lines = lines } in
    let is : IsBook clock orders code limits b = roomy_book clock orders code limits b0 lines c.self.invariant same_all in
    let j : JobNow = c.asked_create-job.result.0 in
    let job : IsJob clock orders code j = c.hold-held.ensures.was in
    let v = c.hold-held.new.holder.view in
    let held = c.hold-held.result in
    let t = c.hold-held.ensures in
    let known : IsKnown code (entries_of b) j b.holder.view.tasks v = job_known clock orders code limits b j v is job t.told t.own.0 t.one in
    let u = c.draw.new.holder.view in
    let away : u ≡ turned_away v = c.in_default-draw.ensures.drawn.1 in
    let back_ready : IsReady code (entries_of b) held.task held.at held.reach held.pace u =
    ready_as code (entries_of b) j.task held.task j.place.at held.at j.place.table held.reach j.pace held.pace u
    (known_ready code b j v u is.listed known (ap (λ (x : View). book_of x) away) (ap (λ (x : View). x.tasks) away)) t.task.0 t.place.0 t.place.1 t.task.1 in
    record {
      run = (c.requires.run.0, c.requires.run.1);
      home = (c.draw.ensures.clock ∙ t.clock ∙ is.home.0, is.home.1, ap (λ (y : Reading). y.home) t.place.2 ∙ job.place.orders_is);
      carried = ready_carried code (entries_of b) held.task held.at held.reach held.pace u back_ready;
      orders = ready_orders code b u (ap (λ (x : View). book_of x) away ∙ known.known) is.listed;
      knew = reader_knew clock orders j held.reader u job.place t.place.2
          (subst (λ l. IsPrefix (known_to j) l) (sym (ap (λ (x : View). book_of x) away)) (t.told.second 0));
      strand = ready_strand code (entries_of b) held.task held.at held.reach held.pace u back_ready;
      job = ready_job clock orders code (entries_of b) held.task held.at held.reach held.pace u back_ready;
    }

pub invariant_of-self-in_default-draw : goal.invariant_of-self-in_default-draw
invariant_of-self-in_default-draw g c =
    let clock = g.J.Run.clock in
    let orders = g.J.Run.orders in
    let code = g.J.Run.code in
    let limits = g.J.Run.limits in
    let b0 : BookNow = record {
      limits = c.self.inside.limits;
      holder = c.self.inside.holder;
      writer = c.self.inside.writer;
      lines = c.self.inside.lines.items;
      traces = c.self.inside.traces.items;
      creates = c.self.inside.creates;
      counts = c.self.inside.counts;
      first = c.self.inside.first;
    } in
    let lines : List LineNow = c.asked_create-job.new.lines.items in
    let same_all : AreSameLines b0.lines lines = subst (λ l. AreSameLines b0.lines l) (sym c.asked_create-job.ensures.lines) (same_lines b0.lines) in
    let j : JobNow = c.asked_create-job.result.0 in
    let job : IsJob clock orders code j = c.hold-held.ensures.was in
    let held = c.hold-held.result in
    let t = c.hold-held.ensures in
    let number : held.task.number ≡ j.task.number = ap (λ (y : TaskNow). y.number) t.task.0 in
    let h = c.release.new.holder in
    spent_book clock orders code limits b0 lines c.self.invariant same_all j c.hold-held.new.holder job t.told t.own.0 t.one c.args.clock.now.size
    (event_of c.entry_of-entry.result)
    c.draw.new.holder h c.release.new.writer c.in_default-draw.field-0 t.clock c.draw.ensures.clock c.in_default-draw.ensures.drawn c.release.ensures.holder.1
    (c.release.ensures.holder.0 ∙ ap (λ n. after_note n c.draw.new.holder.view) number) c.release.ensures.writer

pub returns-in_default-draw-clause-forks : goal.returns-in_default-draw-clause-forks
returns-in_default-draw-clause-forks g c =
    let clock = g.J.Run.clock in
    let orders = g.J.Run.orders in
    let code = g.J.Run.code in
    let limits = g.J.Run.limits in
    let b0 : BookNow = record {
      limits = c.self.inside.limits;
      holder = c.self.inside.holder;
      writer = c.self.inside.writer;
      lines = c.self.inside.lines.items;
      traces = c.self.inside.traces.items;
      creates = c.self.inside.creates;
      counts = c.self.inside.counts;
      first = c.self.inside.first;
    } in
    let lines : List LineNow = c.asked_create-job.new.lines.items in
    let same_all : AreSameLines b0.lines lines = subst (λ l. AreSameLines b0.lines l) (sym c.asked_create-job.ensures.lines) (same_lines b0.lines) in
    let b : BookNow = record b0 { lines = lines } in
    let is : IsBook clock orders code limits b = roomy_book clock orders code limits b0 lines c.self.invariant same_all in
    let j : JobNow = c.asked_create-job.result.0 in
    let same : IsOfCall c.args.job j =
    record { task = c.asked_create-job.ensures.task; place = c.asked_create-job.ensures.place.0; pace = c.asked_create-job.ensures.place.1 } in
    let job : IsJob clock orders code j = c.hold-held.ensures.was in
    let v = c.hold-held.new.holder.view in
    let held = c.hold-held.result in
    let t = c.hold-held.ensures in
    let known : IsKnown code (entries_of b) j b.holder.view.tasks v = job_known clock orders code limits b j v is job t.told t.own.0 t.one in
    let u = c.draw.new.holder.view in
    let away : u ≡ turned_away v = c.in_default-draw.ensures.drawn.1 in
    let q = c.release.ensures in
    let h = c.release.new.holder in
    let w = c.release.new.writer in
    let number : held.task.number ≡ j.task.number = ap (λ (y : TaskNow). y.number) t.task.0 in
    let back : IsBack c.args.job c.release.result =
    back_held c.args.job j c.release.result held.task held.at held.reach held.pace held.reader b.holder.view u v same t.told (ap (λ (x : View). x.known) away)
    t.task.0
    t.place.0 t.place.1 t.task.1 t.place.2 q.task.0 q.task.1 q.place.0 q.place.1 q.pass q.reader in
    let f : finish.Events b.limits.events ≡ finish.Events limits.events = ap (λ (x : Limits). finish.Events x.events) is.limits_are.0 in
    inl (subst (λ (y : BookNow). IsSpent code limits.events y (record b { holder = h; writer = w }) c.args.hand.now c.args.hand.now c.args.job c.release.result
    (finish.Events b.limits.events)) c.self.view_is
    (spent_fork clock orders code limits b0 lines c.self.invariant same_all j c.hold-held.new.holder job t.told t.own.0 t.one c.args.clock.now.size
    (event_of c.entry_of-entry.result) c.draw.new.holder h w c.in_default-draw.field-0 t.clock c.draw.ensures.clock c.in_default-draw.ensures.drawn q.holder.1
    (q.holder.0 ∙ ap (λ n. after_note n u) number) q.writer c.args.hand.now c.args.job c.release.result (finish.Events b.limits.events) limits.events back f
    (free_create code c.args.job.task (past_in (entries_of b)) c.args.job.task.number c.requires.wish)))

pub returns-in_default-draw-clause-few : goal.returns-in_default-draw-clause-few
returns-in_default-draw-clause-few g c = λ _.
    let few = c.self.invariant.creates_few in
    let test = c.if-self.false in
    let same_limits = ap (λ (x : Limits). x.futures) c.self.invariant.limits_are.0 in
    let less : c.self.inside.creates < g.J.Run.limits.futures = omega (arith, few, test, same_limits) in
    subst (λ (y : BookNow). y.creates < g.J.Run.limits.futures) c.self.view_is less

pub invariant_of-create : goal.invariant_of-create
invariant_of-create g c =
    let clock = g.J.Run.clock in
    let orders = g.J.Run.orders in
    let code = g.J.Run.code in
    let limits = g.J.Run.limits in
    let b0 : BookNow = record {
      limits = c.self.inside.limits;
      holder = c.self.inside.holder;
      writer = c.self.inside.writer;
      lines = c.self.inside.lines.items;
      traces = c.self.inside.traces.items;
      creates = c.self.inside.creates;
      counts = c.self.inside.counts;
      first = c.self.inside.first;
    } in
    let lines : List LineNow = c.asked_create-job.new.lines.items in
    let same_all : AreSameLines b0.lines lines = subst (λ l. AreSameLines b0.lines l) (sym c.asked_create-job.ensures.lines) (same_lines b0.lines) in
    let b : BookNow = record b0 { lines = lines } in
    let is : IsBook clock orders code limits b = roomy_book clock orders code limits b0 lines c.self.invariant same_all in
    record { own = is.home.1 ∙ sym c.requires.run.1 }

pub create-strands-requires-clause-at_in : goal.create-strands-requires-clause-at_in
create-strands-requires-clause-at_in g c =
    let clock = g.J.Run.clock in
    let orders = g.J.Run.orders in
    let code = g.J.Run.code in
    let limits = g.J.Run.limits in
    let b0 : BookNow = record {
      limits = c.self.inside.limits;
      holder = c.self.inside.holder;
      writer = c.self.inside.writer;
      lines = c.self.inside.lines.items;
      traces = c.self.inside.traces.items;
      creates = c.self.inside.creates;
      counts = c.self.inside.counts;
      first = c.self.inside.first;
    } in
    let lines : List LineNow = c.asked_create-job.new.lines.items in
    let same_all : AreSameLines b0.lines lines = subst (λ l. AreSameLines b0.lines l) (sym c.asked_create-job.ensures.lines) (same_lines b0.lines) in
    let b : BookNow = record b0 { lines = lines } in
    let is : IsBook clock orders code limits b = roomy_book clock orders code limits b0 lines c.self.invariant same_all in
    let j : JobNow = c.asked_create-job.result.0 in
    let job : IsJob clock orders code j = c.hold-held.ensures.was in
    let v = c.hold-held.new.holder.view in
    let held = c.hold-held.result in
    let t = c.hold-held.ensures in
    let known : IsKnown code (entries_of b) j b.holder.view.tasks v = job_known clock orders code limits b j v is job t.told t.own.0 t.one in
    let ready : IsReady code (entries_of b) held.task held.at held.reach held.pace v =
    ready_as code (entries_of b) j.task held.task j.place.at held.at j.place.table held.reach j.pace held.pace v
    (known_ready code b j v v is.listed known refl refl) t.task.0 t.place.0 t.place.1 t.task.1 in
    stands_in (entries_of b) b.writer.lists.english.order b.writer.lists.hebrew.order held.at is.listed.sound is.listed.orders ready.holds.placed.0

pub create-strands-requires-clause-room : goal.create-strands-requires-clause-room
create-strands-requires-clause-room g c =
    let clock = g.J.Run.clock in
    let orders = g.J.Run.orders in
    let code = g.J.Run.code in
    let limits = g.J.Run.limits in
    let b0 : BookNow = record {
      limits = c.self.inside.limits;
      holder = c.self.inside.holder;
      writer = c.self.inside.writer;
      lines = c.self.inside.lines.items;
      traces = c.self.inside.traces.items;
      creates = c.self.inside.creates;
      counts = c.self.inside.counts;
      first = c.self.inside.first;
    } in
    let lines : List LineNow = c.asked_create-job.new.lines.items in
    let same_all : AreSameLines b0.lines lines = subst (λ l. AreSameLines b0.lines l) (sym c.asked_create-job.ensures.lines) (same_lines b0.lines) in
    let b : BookNow = record b0 { lines = lines } in
    let is : IsBook clock orders code limits b = roomy_book clock orders code limits b0 lines c.self.invariant same_all in
    let j : JobNow = c.asked_create-job.result.0 in
    let job : IsJob clock orders code j = c.hold-held.ensures.was in
    let v = c.hold-held.new.holder.view in
    let t = c.hold-held.ensures in
    let known : IsKnown code (entries_of b) j b.holder.view.tasks v = job_known clock orders code limits b j v is job t.told t.own.0 t.one in
    let coming = c.in-Ok.coming in
    let which = coming.which in
    let xs = coming.args.items in
    let child = c.len-child.result in
    let kid = c.next_strand-kid.result in
    let child_len : child ≡ length lines = (let e = c.len-child.ensures in let s = c.asked_create-job.new.lines.ok.0 in omega (arith, e, s)) in
    let act : Action = Creates which child kid (kid + 1) xs in
    let event : Event = event_by j act in
    let child_is : child ≡ next_task (past_in (entries_of b)) = child_len ∙ is.listed.tasks in
    let kid_is : kid ≡ next_strand (past_in (entries_of b)) = c.next_strand-kid.ensures ∙ strand_is clock orders code limits b is in
    let fork : IsFork (past_in (entries_of b)) j.task.number act which child kid xs =
    create_forks (past_in (entries_of b)) j.task.number which child kid (kid + 1) xs child_is kid_is refl in
    let stands : Stands code j.task (λ P w. Answers w act) = if_ok c.asked_create-job.result.1 _
    (λ r. Stands code j.task (λ P w. w ≡ ToCreate r.0.which r.0.args.items)) c.asked_create-job.ensures.stands c.in-Ok.is in
    let k = c.in-At.ticket in
    let below : k < limits.events =
    subst (λ n. k < n) (ap (λ (y : Ticking). y.size.bound) c.requires.run.0 ∙ is.limits_are.1) c.in-At.ensures.drawn.0 in
    let above : IsAbove k v = c.in-At.ensures.drawn.1 in
    let d : HasDrawn code limits b j v k event = fork_drawn clock orders code limits b j v act which child kid xs is known fork k stands t.one below above in
    let later : List (ℕ × Event) = entries_of b ++ (k, event) ∷ [] in
    let low_all : (y : ℕ × Event) → Among y (entries_of b) → y.0 < k = low clock orders code limits b j v k event is d in
    let sound : IsSound (events_in later) = sound_more clock orders code limits b j v k event is d in
    let has : HasRoom b.writer.lists.english.order b.writer.lists.english.room =
    has_room (entries_of b) b.writer.lists.english.order b.writer.lists.hebrew.order b.writer.lists.english.room k limits.events is.listed.sound
    is.listed.orders is.listed.rises low_all
    below is.room is.small in
    has.two

pub overflow_add-self : goal.overflow_add-self
overflow_add-self g c =
    let clock = g.J.Run.clock in
    let orders = g.J.Run.orders in
    let code = g.J.Run.code in
    let limits = g.J.Run.limits in
    let b0 : BookNow = record {
      limits = c.self.inside.limits;
      holder = c.self.inside.holder;
      writer = c.self.inside.writer;
      lines = c.self.inside.lines.items;
      traces = c.self.inside.traces.items;
      creates = c.self.inside.creates;
      counts = c.self.inside.counts;
      first = c.self.inside.first;
    } in
    let lines : List LineNow = c.asked_create-job.new.lines.items in
    let same_all : AreSameLines b0.lines lines = subst (λ l. AreSameLines b0.lines l) (sym c.asked_create-job.ensures.lines) (same_lines b0.lines) in
    let b : BookNow = record b0 { lines = lines } in
    let is : IsBook clock orders code limits b = roomy_book clock orders code limits b0 lines c.self.invariant same_all in
    let low = creates_few clock orders code limits b is in omega (arith, low)

pub feed-requires : goal.feed-requires
feed-requires g c =
    let clock = g.J.Run.clock in
    let orders = g.J.Run.orders in
    let code = g.J.Run.code in
    let limits = g.J.Run.limits in
    let b0 : BookNow = record {
      limits = c.self.inside.limits;
      holder = c.self.inside.holder;
      writer = c.self.inside.writer;
      lines = c.self.inside.lines.items;
      traces = c.self.inside.traces.items;
      creates = c.self.inside.creates;
      counts = c.self.inside.counts;
      first = c.self.inside.first;
    } in
    let lines : List LineNow = c.asked_create-job.new.lines.items in
    let same_all : AreSameLines b0.lines lines = subst (λ l. AreSameLines b0.lines l) (sym c.asked_create-job.ensures.lines) (same_lines b0.lines) in
    let b : BookNow = record b0 { lines = lines } in
    let is : IsBook clock orders code limits b = roomy_book clock orders code limits b0 lines c.self.invariant same_all in
    let j : JobNow = c.asked_create-job.result.0 in
    let t = c.hold-held.ensures in
    let coming = c.in-Ok.coming in
    let which = coming.which in
    let xs = coming.args.items in
    let child = c.len-child.result in
    let come : IsComing code j.task (length b0.lines) which xs coming.task = if_ok c.asked_create-job.result.1 _
    (λ r. IsComing code j.task (length b0.lines) r.0.which r.0.args.items r.0.task) c.asked_create-job.ensures.child c.in-Ok.is in
    subst (λ (y : TaskNow). 1 ≤ y.trace.spare) (sym t.task.0) come.room

pub fork-pace-requires : goal.fork-pace-requires
fork-pace-requires g c =
    let clock = g.J.Run.clock in
    let orders = g.J.Run.orders in
    let code = g.J.Run.code in
    let limits = g.J.Run.limits in
    let b0 : BookNow = record {
      limits = c.self.inside.limits;
      holder = c.self.inside.holder;
      writer = c.self.inside.writer;
      lines = c.self.inside.lines.items;
      traces = c.self.inside.traces.items;
      creates = c.self.inside.creates;
      counts = c.self.inside.counts;
      first = c.self.inside.first;
    } in
    let lines : List LineNow = c.asked_create-job.new.lines.items in
    let same_all : AreSameLines b0.lines lines = subst (λ l. AreSameLines b0.lines l) (sym c.asked_create-job.ensures.lines) (same_lines b0.lines) in
    let b : BookNow = record b0 { lines = lines } in
    let is : IsBook clock orders code limits b = roomy_book clock orders code limits b0 lines c.self.invariant same_all in
    let j : JobNow = c.asked_create-job.result.0 in
    let job : IsJob clock orders code j = c.hold-held.ensures.was in
    let v = c.hold-held.new.holder.view in
    let t = c.hold-held.ensures in
    let known : IsKnown code (entries_of b) j b.holder.view.tasks v = job_known clock orders code limits b j v is job t.told t.own.0 t.one in
    let coming = c.in-Ok.coming in
    let which = coming.which in
    let xs = coming.args.items in
    let child = c.len-child.result in
    let kid = c.next_strand-kid.result in
    let child_len : child ≡ length lines = (let e = c.len-child.ensures in let s = c.asked_create-job.new.lines.ok.0 in omega (arith, e, s)) in
    let act : Action = Creates which child kid (kid + 1) xs in
    let event : Event = event_by j act in
    let child_is : child ≡ next_task (past_in (entries_of b)) = child_len ∙ is.listed.tasks in
    let kid_is : kid ≡ next_strand (past_in (entries_of b)) = c.next_strand-kid.ensures ∙ strand_is clock orders code limits b is in
    let fork : IsFork (past_in (entries_of b)) j.task.number act which child kid xs =
    create_forks (past_in (entries_of b)) j.task.number which child kid (kid + 1) xs child_is kid_is refl in
    let stands : Stands code j.task (λ P w. Answers w act) = if_ok c.asked_create-job.result.1 _
    (λ r. Stands code j.task (λ P w. w ≡ ToCreate r.0.which r.0.args.items)) c.asked_create-job.ensures.stands c.in-Ok.is in
    let k = c.in-At.ticket in
    let below : k < limits.events =
    subst (λ n. k < n) (ap (λ (y : Ticking). y.size.bound) c.requires.run.0 ∙ is.limits_are.1) c.in-At.ensures.drawn.0 in
    let above : IsAbove k v = c.in-At.ensures.drawn.1 in
    let d : HasDrawn code limits b j v k event = fork_drawn clock orders code limits b j v act which child kid xs is known fork k stands t.one below above in
    let low_all : (y : ℕ × Event) → Among y (entries_of b) → y.0 < k = low clock orders code limits b j v k event is d in
    let few = few_tickets (entries_of b) k is.listed.rises low_all in let events = is.counted.events in omega (arith, few, events, below)

pub begin-requires : goal.begin-requires
begin-requires g c =
    let clock = g.J.Run.clock in
    let orders = g.J.Run.orders in
    let code = g.J.Run.code in
    let limits = g.J.Run.limits in
    let b0 : BookNow = record {
      limits = c.self.inside.limits;
      holder = c.self.inside.holder;
      writer = c.self.inside.writer;
      lines = c.self.inside.lines.items;
      traces = c.self.inside.traces.items;
      creates = c.self.inside.creates;
      counts = c.self.inside.counts;
      first = c.self.inside.first;
    } in
    let lines : List LineNow = c.asked_create-job.new.lines.items in
    let same_all : AreSameLines b0.lines lines = subst (λ l. AreSameLines b0.lines l) (sym c.asked_create-job.ensures.lines) (same_lines b0.lines) in
    let b : BookNow = record b0 { lines = lines } in
    let is : IsBook clock orders code limits b = roomy_book clock orders code limits b0 lines c.self.invariant same_all in
    let j : JobNow = c.asked_create-job.result.0 in
    let same : IsOfCall c.args.job j =
    record { task = c.asked_create-job.ensures.task; place = c.asked_create-job.ensures.place.0; pace = c.asked_create-job.ensures.place.1 } in
    let job : IsJob clock orders code j = c.hold-held.ensures.was in
    let v = c.hold-held.new.holder.view in
    let held = c.hold-held.result in
    let t = c.hold-held.ensures in
    let known : IsKnown code (entries_of b) j b.holder.view.tasks v = job_known clock orders code limits b j v is job t.told t.own.0 t.one in
    let coming = c.in-Ok.coming in
    let which = coming.which in
    let xs = coming.args.items in
    let child = c.len-child.result in
    let kid = c.next_strand-kid.result in
    let child_len : child ≡ length lines = (let e = c.len-child.ensures in let s = c.asked_create-job.new.lines.ok.0 in omega (arith, e, s)) in
    let act : Action = Creates which child kid (kid + 1) xs in
    let event : Event = event_by j act in
    let event_is : event_of c.entry_of-entry.result ≡ event =
    c.entry_of-entry.ensures ∙ ap (λ (y : TaskNow). event_at y.number held.at.number act) t.task.0 ∙ ap (λ (y : Strand). event_at j.task.number y.number act)
    t.place.0 in
    let child_is : child ≡ next_task (past_in (entries_of b)) = child_len ∙ is.listed.tasks in
    let kid_is : kid ≡ next_strand (past_in (entries_of b)) = c.next_strand-kid.ensures ∙ strand_is clock orders code limits b is in
    let fork : IsFork (past_in (entries_of b)) j.task.number act which child kid xs =
    create_forks (past_in (entries_of b)) j.task.number which child kid (kid + 1) xs child_is kid_is refl in
    let come : IsComing code j.task (length b0.lines) which xs coming.task = if_ok c.asked_create-job.result.1 _
    (λ r. IsComing code j.task (length b0.lines) r.0.which r.0.args.items r.0.task) c.asked_create-job.ensures.child c.in-Ok.is in
    let stands : Stands code j.task (λ P w. Answers w act) = if_ok c.asked_create-job.result.1 _
    (λ r. Stands code j.task (λ P w. w ≡ ToCreate r.0.which r.0.args.items)) c.asked_create-job.ensures.stands c.in-Ok.is in
    let k = c.in-At.ticket in
    let below : k < limits.events =
    subst (λ n. k < n) (ap (λ (y : Ticking). y.size.bound) c.requires.run.0 ∙ is.limits_are.1) c.in-At.ensures.drawn.0 in
    let above : IsAbove k v = c.in-At.ensures.drawn.1 in
    let u = c.draw.new.holder.view in
    let drew : u ≡ drawn k event v = c.in-At.ensures.drawn.2 ∙ ap (λ y. drawn k y v) event_is in
    let d : HasDrawn code limits b j v k event = fork_drawn clock orders code limits b j v act which child kid xs is known fork k stands t.one below above in
    let later : List (ℕ × Event) = entries_of b ++ (k, event) ∷ [] in
    let sound : IsSound (events_in later) = sound_more clock orders code limits b j v k event is d in
    let en = b.writer.lists.english.order in
    let he = b.writer.lists.hebrew.order in
    let writer = c.create-strands.new.placer.writer.now in
    let one = c.create-strands.result.0 in
    let two = c.create-strands.result.1 in
    let numbers : AreNext kid one.number two.number = subst (λ n. AreNext n one.number two.number) (sym c.next_strand-kid.ensures)
    c.create-strands.ensures.numbers in
    let extends : Extends (events_in (entries_of b)) j.task.number j.place.at.number (Creates which child one.number two.number xs) en he
    writer.lists.english.order writer.lists.hebrew.order =
    subst (λ (y : Strand). Extends (events_in (entries_of b)) j.task.number y.number (Creates which child one.number two.number xs) en he
    writer.lists.english.order writer.lists.hebrew.order) t.place.0 (c.create-strands.ensures.extends (events_in (entries_of b)) j.task.number which xs) in
    let belong = subst (λ (y : Strand). Belongs (events_in (entries_of b)) j.task.number y (Creates which child one.number two.number xs) one
    × Belongs (events_in (entries_of b)) j.task.number y (Creates which child one.number two.number xs) two) t.place.0
    (c.create-strands.ensures.belong (events_in (entries_of b)) j.task.number which xs) in
    let kids : KidAfterCreate j.place.table j.place.at coming.reach = subst (λ (p : Placed). KidAfterCreate p.table p.at coming.reach) (sym same.place)
    (if_ok c.asked_create-job.result.1 _ (λ r. KidAfterCreate c.args.job.place.table c.args.job.place.at r.0.reach) c.asked_create-job.ensures.reach
    c.in-Ok.is) in
    let split : HasSplit later one two coming.reach j.place.table writer.lists.english.order writer.lists.hebrew.order =
    create_split (entries_of b) k j.task.number which child kid xs j.place.at one two j.place.table en he writer.lists.english.order writer.lists.hebrew.order
    numbers is.listed.orders known.task.placed.0 known.task.placed.1 coming.reach kids extends belong sound in
    let kid_ready : IsReady code later coming.task one coming.reach c.fork-pace.result u =
    subst (λ (y : View). IsReady code later coming.task one coming.reach c.fork-pace.result y) (sym drew)
    (child_ready clock orders code limits b j v act which child kid xs is known fork k d coming.task one coming.reach c.fork-pace.result
    (come.number_is ∙ sym (child_len ∙ same_length b0.lines lines same_all)) come.which_is come.running come.empty numbers.kid_is come.state split.kid.0
    split.kid.1 c.fork-pace.ensures.paces.1) in
    record {
      run = (c.requires.run.0, c.requires.run.1);
      home = (c.draw.ensures.clock ∙ t.clock ∙ is.home.0, c.create-strands.new.placer.own ∙ ap (λ y. y.0) c.create-strands.ensures.put.home ∙ c.requires.run.1);
      carried = ready_carried code later coming.task one coming.reach c.fork-pace.result u kid_ready;
      orders = subst (λ y. IsSound (events_in y) × AreOrders (events_in y) writer.lists.english.order writer.lists.hebrew.order) (sym kid_ready.known)
          (sound, split.orders);
      strand = ready_strand code later coming.task one coming.reach c.fork-pace.result u kid_ready;
      job = ready_job clock orders code later coming.task one coming.reach c.fork-pace.result u kid_ready;
    }

pub release-requires-2 : goal.release-requires-2
release-requires-2 g c =
    let clock = g.J.Run.clock in
    let orders = g.J.Run.orders in
    let code = g.J.Run.code in
    let limits = g.J.Run.limits in
    let b0 : BookNow = record {
      limits = c.self.inside.limits;
      holder = c.self.inside.holder;
      writer = c.self.inside.writer;
      lines = c.self.inside.lines.items;
      traces = c.self.inside.traces.items;
      creates = c.self.inside.creates;
      counts = c.self.inside.counts;
      first = c.self.inside.first;
    } in
    let lines : List LineNow = c.asked_create-job.new.lines.items in
    let same_all : AreSameLines b0.lines lines = subst (λ l. AreSameLines b0.lines l) (sym c.asked_create-job.ensures.lines) (same_lines b0.lines) in
    let b : BookNow = record b0 { lines = lines } in
    let is : IsBook clock orders code limits b = roomy_book clock orders code limits b0 lines c.self.invariant same_all in
    let j : JobNow = c.asked_create-job.result.0 in
    let same : IsOfCall c.args.job j =
    record { task = c.asked_create-job.ensures.task; place = c.asked_create-job.ensures.place.0; pace = c.asked_create-job.ensures.place.1 } in
    let job : IsJob clock orders code j = c.hold-held.ensures.was in
    let v = c.hold-held.new.holder.view in
    let held = c.hold-held.result in
    let t = c.hold-held.ensures in
    let known : IsKnown code (entries_of b) j b.holder.view.tasks v = job_known clock orders code limits b j v is job t.told t.own.0 t.one in
    let coming = c.in-Ok.coming in
    let which = coming.which in
    let xs = coming.args.items in
    let child = c.len-child.result in
    let kid = c.next_strand-kid.result in
    let child_len : child ≡ length lines = (let e = c.len-child.ensures in let s = c.asked_create-job.new.lines.ok.0 in omega (arith, e, s)) in
    let act : Action = Creates which child kid (kid + 1) xs in
    let event : Event = event_by j act in
    let event_is : event_of c.entry_of-entry.result ≡ event =
    c.entry_of-entry.ensures ∙ ap (λ (y : TaskNow). event_at y.number held.at.number act) t.task.0 ∙ ap (λ (y : Strand). event_at j.task.number y.number act)
    t.place.0 in
    let child_is : child ≡ next_task (past_in (entries_of b)) = child_len ∙ is.listed.tasks in
    let kid_is : kid ≡ next_strand (past_in (entries_of b)) = c.next_strand-kid.ensures ∙ strand_is clock orders code limits b is in
    let fork : IsFork (past_in (entries_of b)) j.task.number act which child kid xs =
    create_forks (past_in (entries_of b)) j.task.number which child kid (kid + 1) xs child_is kid_is refl in
    let come : IsComing code j.task (length b0.lines) which xs coming.task = if_ok c.asked_create-job.result.1 _
    (λ r. IsComing code j.task (length b0.lines) r.0.which r.0.args.items r.0.task) c.asked_create-job.ensures.child c.in-Ok.is in
    let stands : Stands code j.task (λ P w. Answers w act) = if_ok c.asked_create-job.result.1 _
    (λ r. Stands code j.task (λ P w. w ≡ ToCreate r.0.which r.0.args.items)) c.asked_create-job.ensures.stands c.in-Ok.is in
    let k = c.in-At.ticket in
    let below : k < limits.events =
    subst (λ n. k < n) (ap (λ (y : Ticking). y.size.bound) c.requires.run.0 ∙ is.limits_are.1) c.in-At.ensures.drawn.0 in
    let above : IsAbove k v = c.in-At.ensures.drawn.1 in
    let u = c.draw.new.holder.view in
    let drew : u ≡ drawn k event v = c.in-At.ensures.drawn.2 ∙ ap (λ y. drawn k y v) event_is in
    let d : HasDrawn code limits b j v k event = fork_drawn clock orders code limits b j v act which child kid xs is known fork k stands t.one below above in
    let later : List (ℕ × Event) = entries_of b ++ (k, event) ∷ [] in
    let sound : IsSound (events_in later) = sound_more clock orders code limits b j v k event is d in
    let en = b.writer.lists.english.order in
    let he = b.writer.lists.hebrew.order in
    let writer = c.create-strands.new.placer.writer.now in
    let one = c.create-strands.result.0 in
    let two = c.create-strands.result.1 in
    let numbers : AreNext kid one.number two.number = subst (λ n. AreNext n one.number two.number) (sym c.next_strand-kid.ensures)
    c.create-strands.ensures.numbers in
    let extends : Extends (events_in (entries_of b)) j.task.number j.place.at.number (Creates which child one.number two.number xs) en he
    writer.lists.english.order writer.lists.hebrew.order =
    subst (λ (y : Strand). Extends (events_in (entries_of b)) j.task.number y.number (Creates which child one.number two.number xs) en he
    writer.lists.english.order writer.lists.hebrew.order) t.place.0 (c.create-strands.ensures.extends (events_in (entries_of b)) j.task.number which xs) in
    let belong = subst (λ (y : Strand). Belongs (events_in (entries_of b)) j.task.number y (Creates which child one.number two.number xs) one
    × Belongs (events_in (entries_of b)) j.task.number y (Creates which child one.number two.number xs) two) t.place.0
    (c.create-strands.ensures.belong (events_in (entries_of b)) j.task.number which xs) in
    let kids : KidAfterCreate j.place.table j.place.at coming.reach = subst (λ (p : Placed). KidAfterCreate p.table p.at coming.reach) (sym same.place)
    (if_ok c.asked_create-job.result.1 _ (λ r. KidAfterCreate c.args.job.place.table c.args.job.place.at r.0.reach) c.asked_create-job.ensures.reach
    c.in-Ok.is) in
    let split : HasSplit later one two coming.reach j.place.table writer.lists.english.order writer.lists.hebrew.order =
    create_split (entries_of b) k j.task.number which child kid xs j.place.at one two j.place.table en he writer.lists.english.order writer.lists.hebrew.order
    numbers is.listed.orders known.task.placed.0 known.task.placed.1 coming.reach kids extends belong sound in
    let u2 = c.begin.new.holder.view in
    let gone : u2.tasks ≡ b.holder.view.tasks ++ carried_task j.task.number (drawn_of j.task.trace.items ++ (k, event) ∷ []) ∷ [] =
    ap (λ (y : View). y.tasks) (c.begin.ensures.holder.0 ∙ ap (λ y. after_note coming.task.number y) drew)
    ∙ child_gone clock orders code limits b j v act which child kid xs is known fork k d coming.task
    (come.number_is ∙ sym (child_len ∙ same_length b0.lines lines same_all)) in
    let knows : book_of u2 ≡ book_of (drawn k event v) = ap (λ (y : View). book_of y)
    (c.begin.ensures.holder.0 ∙ ap (λ y. after_note coming.task.number y) drew) in
    let new = c.feed.new.self in
    let act_is : action_of c.entry_of-entry.result.act ≡ act = ap (λ (y : Event). y.action) event_is in
    let number : new.number ≡ j.task.number = c.feed.ensures.task.0 ∙ ap (λ (y : TaskNow). y.number) t.task.0 in
    let which_is : new.which ≡ j.task.which = c.feed.ensures.task.1 ∙ ap (λ (y : TaskNow). y.which) t.task.0 in
    let ended : new.spot.ended ≡ ended_after j.task.spot.ended act =
    ap (λ (y : Spot). y.ended) c.feed.ensures.spot ∙ ap (λ y. ended_after held.task.spot.ended y) act_is ∙ ap (λ (y : TaskNow). ended_after y.spot.ended act)
    t.task.0 in
    let trace : drawn_of new.trace.items ≡ drawn_of j.task.trace.items ++ (k, event) ∷ [] =
    trace_fed new.trace.items j.task.trace.items k c.entry_of-entry.result event
    (c.feed.ensures.trace ∙ ap (λ (y : TaskNow). y.trace.items ++ (k, c.entry_of-entry.result) ∷ []) t.task.0) event_is in
    let feeds = feeds_as code c.args.code.now j.task held.task new (action_of c.entry_of-entry.result.act) act c.requires.run.2 t.task.0 act_is
    come.still job.running c.feed.ensures.state in
    let own_ready : IsReady code later new two held.reach c.fork-pace.new.pace u2 =
    parent_ready clock orders code limits b j v act which child kid xs is known fork k d new two held.reach c.fork-pace.new.pace u2 knows gone number which_is
    ended trace feeds
    numbers.cont_is split.cont.0 (subst (λ (y : List Strand). HasTable (events_in later) two.number y) (sym t.place.1) split.cont.1)
    c.fork-pace.ensures.paces.0 in
    let begins : IsPrefix (known_to j) later = prefix_more (known_to j) (entries_of b) ((k, event) ∷ [])
    (subst (λ y. IsPrefix (known_to j) y) known.known (t.told.second 0)) in
    record {
      run = (c.requires.run.0, c.requires.run.1);
      home = (
        c.begin.ensures.holder.1 ∙ c.draw.ensures.clock ∙ t.clock ∙ is.home.0,
        ap (λ (y : Writing). y.home) c.begin.ensures.writer
            ∙ c.create-strands.new.placer.own ∙ ap (λ y. y.0) c.create-strands.ensures.put.home ∙ c.requires.run.1,
        ap (λ (y : Reading). y.home) t.place.2 ∙ job.place.orders_is,
      );
      carried = ready_carried code later new two held.reach c.fork-pace.new.pace u2 own_ready;
      orders = subst (λ y. IsSound (events_in y) × AreOrders (events_in y) c.begin.new.writer.lists.english.order c.begin.new.writer.lists.hebrew.order)
          (sym own_ready.known)
          (sound, subst (λ (y : Writing). AreOrders (events_in later) y.lists.english.order y.lists.hebrew.order) (sym c.begin.ensures.writer) split.orders);
      knew = reader_knew clock orders j held.reader u2 job.place t.place.2 (subst (λ y. IsPrefix (known_to j) y) (sym own_ready.known) begins);
      strand = ready_strand code later new two held.reach c.fork-pace.new.pace u2 own_ready;
      job = ready_job clock orders code later new two held.reach c.fork-pace.new.pace u2 own_ready;
    }

pub invariant_of-self-2 : goal.invariant_of-self-2
invariant_of-self-2 g c =
    let clock = g.J.Run.clock in
    let orders = g.J.Run.orders in
    let code = g.J.Run.code in
    let limits = g.J.Run.limits in
    let b0 : BookNow = record {
      limits = c.self.inside.limits;
      holder = c.self.inside.holder;
      writer = c.self.inside.writer;
      lines = c.self.inside.lines.items;
      traces = c.self.inside.traces.items;
      creates = c.self.inside.creates;
      counts = c.self.inside.counts;
      first = c.self.inside.first;
    } in
    let lines : List LineNow = c.asked_create-job.new.lines.items in
    let same_all : AreSameLines b0.lines lines = subst (λ l. AreSameLines b0.lines l) (sym c.asked_create-job.ensures.lines) (same_lines b0.lines) in
    let b : BookNow = record b0 { lines = lines } in
    let is : IsBook clock orders code limits b = roomy_book clock orders code limits b0 lines c.self.invariant same_all in
    let j : JobNow = c.asked_create-job.result.0 in
    let same : IsOfCall c.args.job j =
    record { task = c.asked_create-job.ensures.task; place = c.asked_create-job.ensures.place.0; pace = c.asked_create-job.ensures.place.1 } in
    let job : IsJob clock orders code j = c.hold-held.ensures.was in
    let v = c.hold-held.new.holder.view in
    let held = c.hold-held.result in
    let t = c.hold-held.ensures in
    let known : IsKnown code (entries_of b) j b.holder.view.tasks v = job_known clock orders code limits b j v is job t.told t.own.0 t.one in
    let coming = c.in-Ok.coming in
    let which = coming.which in
    let xs = coming.args.items in
    let child = c.len-child.result in
    let kid = c.next_strand-kid.result in
    let child_len : child ≡ length lines = (let e = c.len-child.ensures in let s = c.asked_create-job.new.lines.ok.0 in omega (arith, e, s)) in
    let act : Action = Creates which child kid (kid + 1) xs in
    let event : Event = event_by j act in
    let event_is : event_of c.entry_of-entry.result ≡ event =
    c.entry_of-entry.ensures ∙ ap (λ (y : TaskNow). event_at y.number held.at.number act) t.task.0 ∙ ap (λ (y : Strand). event_at j.task.number y.number act)
    t.place.0 in
    let child_is : child ≡ next_task (past_in (entries_of b)) = child_len ∙ is.listed.tasks in
    let kid_is : kid ≡ next_strand (past_in (entries_of b)) = c.next_strand-kid.ensures ∙ strand_is clock orders code limits b is in
    let fork : IsFork (past_in (entries_of b)) j.task.number act which child kid xs =
    create_forks (past_in (entries_of b)) j.task.number which child kid (kid + 1) xs child_is kid_is refl in
    let come : IsComing code j.task (length b0.lines) which xs coming.task = if_ok c.asked_create-job.result.1 _
    (λ r. IsComing code j.task (length b0.lines) r.0.which r.0.args.items r.0.task) c.asked_create-job.ensures.child c.in-Ok.is in
    let stands : Stands code j.task (λ P w. Answers w act) = if_ok c.asked_create-job.result.1 _
    (λ r. Stands code j.task (λ P w. w ≡ ToCreate r.0.which r.0.args.items)) c.asked_create-job.ensures.stands c.in-Ok.is in
    let k = c.in-At.ticket in
    let below : k < limits.events =
    subst (λ n. k < n) (ap (λ (y : Ticking). y.size.bound) c.requires.run.0 ∙ is.limits_are.1) c.in-At.ensures.drawn.0 in
    let above : IsAbove k v = c.in-At.ensures.drawn.1 in
    let u = c.draw.new.holder.view in
    let drew : u ≡ drawn k event v = c.in-At.ensures.drawn.2 ∙ ap (λ y. drawn k y v) event_is in
    let d : HasDrawn code limits b j v k event = fork_drawn clock orders code limits b j v act which child kid xs is known fork k stands t.one below above in
    let later : List (ℕ × Event) = entries_of b ++ (k, event) ∷ [] in
    let sound : IsSound (events_in later) = sound_more clock orders code limits b j v k event is d in
    let en = b.writer.lists.english.order in
    let he = b.writer.lists.hebrew.order in
    let writer = c.create-strands.new.placer.writer.now in
    let one = c.create-strands.result.0 in
    let two = c.create-strands.result.1 in
    let numbers : AreNext kid one.number two.number = subst (λ n. AreNext n one.number two.number) (sym c.next_strand-kid.ensures)
    c.create-strands.ensures.numbers in
    let extends : Extends (events_in (entries_of b)) j.task.number j.place.at.number (Creates which child one.number two.number xs) en he
    writer.lists.english.order writer.lists.hebrew.order =
    subst (λ (y : Strand). Extends (events_in (entries_of b)) j.task.number y.number (Creates which child one.number two.number xs) en he
    writer.lists.english.order writer.lists.hebrew.order) t.place.0 (c.create-strands.ensures.extends (events_in (entries_of b)) j.task.number which xs) in
    let belong = subst (λ (y : Strand). Belongs (events_in (entries_of b)) j.task.number y (Creates which child one.number two.number xs) one
    × Belongs (events_in (entries_of b)) j.task.number y (Creates which child one.number two.number xs) two) t.place.0
    (c.create-strands.ensures.belong (events_in (entries_of b)) j.task.number which xs) in
    let kids : KidAfterCreate j.place.table j.place.at coming.reach = subst (λ (p : Placed). KidAfterCreate p.table p.at coming.reach) (sym same.place)
    (if_ok c.asked_create-job.result.1 _ (λ r. KidAfterCreate c.args.job.place.table c.args.job.place.at r.0.reach) c.asked_create-job.ensures.reach
    c.in-Ok.is) in
    let split : HasSplit later one two coming.reach j.place.table writer.lists.english.order writer.lists.hebrew.order =
    create_split (entries_of b) k j.task.number which child kid xs j.place.at one two j.place.table en he writer.lists.english.order writer.lists.hebrew.order
    numbers is.listed.orders known.task.placed.0 known.task.placed.1 coming.reach kids extends belong sound in
    let u2 = c.begin.new.holder.view in
    let gone : u2.tasks ≡ b.holder.view.tasks ++ carried_task j.task.number (drawn_of j.task.trace.items ++ (k, event) ∷ []) ∷ [] =
    ap (λ (y : View). y.tasks) (c.begin.ensures.holder.0 ∙ ap (λ y. after_note coming.task.number y) drew)
    ∙ child_gone clock orders code limits b j v act which child kid xs is known fork k d coming.task
    (come.number_is ∙ sym (child_len ∙ same_length b0.lines lines same_all)) in
    let new = c.feed.new.self in
    let number : new.number ≡ j.task.number = c.feed.ensures.task.0 ∙ ap (λ (y : TaskNow). y.number) t.task.0 in
    let h = c.release-2.new.holder in
    let w = c.release-2.new.writer in
    let view_is : h.view ≡ after_note new.number (after_note coming.task.number (drawn k event v)) =
    c.release-2.ensures.holder.0 ∙ ap (λ y. after_note new.number y) (c.begin.ensures.holder.0 ∙ ap (λ y. after_note coming.task.number y) drew) in
    let tasks : h.view.tasks ≡ b.holder.view.tasks =
    ap (λ (y : View). y.tasks) c.release-2.ensures.holder.0 ∙ parent_gone clock orders code limits b j v act which child kid xs is known fork k d new u2 gone
    number in
    let written : w ≡ writer = c.release-2.ensures.writer ∙ c.begin.ensures.writer in
    let all = lines_created code (entries_of b) k event is.listed.sound d.follows (ends_stay clock orders code limits b j v k event is d) lines
    (record { all = is.listed.tasks; each = is.listed.lines }) which child kid (kid + 1) xs refl in
    let lines_are : c.push_reserved.new.self.items ≡ lines ++ new_line None ∷ [] = c.push_reserved.ensures.items ∙ ap (λ y. lines ++ y ∷ [])
    c.line_of.ensures in
    let after : BookNow = record b {
      holder = h;
      writer = w;
      lines = c.push_reserved.new.self.items;
      creates = b0.creates + 1;
      counts = c.fork-pace.new.self;
    } in
    forked_book clock orders code limits b j v k event is d after new.number coming.task.number refl
    (c.release-2.ensures.holder.1 ∙ c.begin.ensures.holder.1 ∙ c.draw.ensures.clock ∙ t.clock)
    (ap (λ (y : Writing). y.home) written ∙ c.create-strands.new.placer.own ∙ ap (λ y. y.0) c.create-strands.ensures.put.home ∙ c.requires.run.1 ∙ sym
    is.home.1) view_is tasks
    (subst (λ (y : Writing). AreOrders (events_in later) y.lists.english.order y.lists.hebrew.order) (sym written) split.orders)
    (subst (λ (y : Writing). y.lists.english.room + 2 ≡ b.writer.lists.english.room) (sym written) c.create-strands.ensures.put.spare)
    (let whole = ap (λ (ls : List LineNow). length ls) lines_are in let more = length_pushed lines (new_line None) in omega (arith, whole, more))
    (subst (λ ls. AreLines code later ls) (sym lines_are) all) (ap waiting_in lines_are ∙ waiting_pushed lines None) refl
    (let few = is.creates_few in let test = c.if-self.false in let same_limits = ap (λ (x : Limits). x.futures) is.limits_are.0 in
    let z : b.creates + 1 ≤ limits.futures = omega (arith, few, test, same_limits) in z) refl refl c.fork-pace.ensures.counts

pub returns-clause-forks : goal.returns-clause-forks
returns-clause-forks g c =
    let clock = g.J.Run.clock in
    let orders = g.J.Run.orders in
    let code = g.J.Run.code in
    let limits = g.J.Run.limits in
    let b0 : BookNow = record {
      limits = c.self.inside.limits;
      holder = c.self.inside.holder;
      writer = c.self.inside.writer;
      lines = c.self.inside.lines.items;
      traces = c.self.inside.traces.items;
      creates = c.self.inside.creates;
      counts = c.self.inside.counts;
      first = c.self.inside.first;
    } in
    let lines : List LineNow = c.asked_create-job.new.lines.items in
    let same_all : AreSameLines b0.lines lines = subst (λ l. AreSameLines b0.lines l) (sym c.asked_create-job.ensures.lines) (same_lines b0.lines) in
    let b : BookNow = record b0 { lines = lines } in
    let is : IsBook clock orders code limits b = roomy_book clock orders code limits b0 lines c.self.invariant same_all in
    let j : JobNow = c.asked_create-job.result.0 in
    let same : IsOfCall c.args.job j =
    record { task = c.asked_create-job.ensures.task; place = c.asked_create-job.ensures.place.0; pace = c.asked_create-job.ensures.place.1 } in
    let job : IsJob clock orders code j = c.hold-held.ensures.was in
    let v = c.hold-held.new.holder.view in
    let held = c.hold-held.result in
    let t = c.hold-held.ensures in
    let known : IsKnown code (entries_of b) j b.holder.view.tasks v = job_known clock orders code limits b j v is job t.told t.own.0 t.one in
    let coming = c.in-Ok.coming in
    let which = coming.which in
    let xs = coming.args.items in
    let child = c.len-child.result in
    let kid = c.next_strand-kid.result in
    let child_len : child ≡ length lines = (let e = c.len-child.ensures in let s = c.asked_create-job.new.lines.ok.0 in omega (arith, e, s)) in
    let act : Action = Creates which child kid (kid + 1) xs in
    let event : Event = event_by j act in
    let event_is : event_of c.entry_of-entry.result ≡ event =
    c.entry_of-entry.ensures ∙ ap (λ (y : TaskNow). event_at y.number held.at.number act) t.task.0 ∙ ap (λ (y : Strand). event_at j.task.number y.number act)
    t.place.0 in
    let child_is : child ≡ next_task (past_in (entries_of b)) = child_len ∙ is.listed.tasks in
    let kid_is : kid ≡ next_strand (past_in (entries_of b)) = c.next_strand-kid.ensures ∙ strand_is clock orders code limits b is in
    let fork : IsFork (past_in (entries_of b)) j.task.number act which child kid xs =
    create_forks (past_in (entries_of b)) j.task.number which child kid (kid + 1) xs child_is kid_is refl in
    let come : IsComing code j.task (length b0.lines) which xs coming.task = if_ok c.asked_create-job.result.1 _
    (λ r. IsComing code j.task (length b0.lines) r.0.which r.0.args.items r.0.task) c.asked_create-job.ensures.child c.in-Ok.is in
    let stands : Stands code j.task (λ P w. Answers w act) = if_ok c.asked_create-job.result.1 _
    (λ r. Stands code j.task (λ P w. w ≡ ToCreate r.0.which r.0.args.items)) c.asked_create-job.ensures.stands c.in-Ok.is in
    let stands_call : Stands code c.args.job.task (λ P w. Answers w act) = if_ok c.asked_create-job.result.1 _
    (λ r. Stands code c.args.job.task (λ P w. w ≡ ToCreate r.0.which r.0.args.items)) c.asked_create-job.ensures.answers c.in-Ok.is in
    let k = c.in-At.ticket in
    let below : k < limits.events =
    subst (λ n. k < n) (ap (λ (y : Ticking). y.size.bound) c.requires.run.0 ∙ is.limits_are.1) c.in-At.ensures.drawn.0 in
    let above : IsAbove k v = c.in-At.ensures.drawn.1 in
    let u = c.draw.new.holder.view in
    let drew : u ≡ drawn k event v = c.in-At.ensures.drawn.2 ∙ ap (λ y. drawn k y v) event_is in
    let d : HasDrawn code limits b j v k event = fork_drawn clock orders code limits b j v act which child kid xs is known fork k stands t.one below above in
    let later : List (ℕ × Event) = entries_of b ++ (k, event) ∷ [] in
    let writer = c.create-strands.new.placer.writer.now in
    let new = c.feed.new.self in
    let number : new.number ≡ j.task.number = c.feed.ensures.task.0 ∙ ap (λ (y : TaskNow). y.number) t.task.0 in
    let which_is : new.which ≡ j.task.which = c.feed.ensures.task.1 ∙ ap (λ (y : TaskNow). y.which) t.task.0 in
    let trace : drawn_of new.trace.items ≡ drawn_of j.task.trace.items ++ (k, event) ∷ [] =
    trace_fed new.trace.items j.task.trace.items k c.entry_of-entry.result event
    (c.feed.ensures.trace ∙ ap (λ (y : TaskNow). y.trace.items ++ (k, c.entry_of-entry.result) ∷ []) t.task.0) event_is in
    let h = c.release-2.new.holder in
    let w = c.release-2.new.writer in
    let view_is : h.view ≡ after_note new.number (after_note coming.task.number (drawn k event v)) =
    c.release-2.ensures.holder.0 ∙ ap (λ y. after_note new.number y) (c.begin.ensures.holder.0 ∙ ap (λ y. after_note coming.task.number y) drew) in
    let after : BookNow = record b {
      holder = h;
      writer = w;
      lines = c.push_reserved.new.self.items;
      creates = b0.creates + 1;
      counts = c.fork-pace.new.self;
    } in
    let entries : entries_of after ≡ later = ap (λ (y : View). own_list y) view_is ∙ drawn_own clock orders code limits b j v k event is d in
    let room_is = if_ok c.asked_create-job.result.1 _ (λ r. (r.1.items ≡ []) × (2 ≤ r.1.spare)) c.asked_create-job.ensures.room c.in-Ok.is in
    let jobs : c.push-2.new.self.items ≡ c.begin.result ∷ c.release-2.result ∷ [] =
    c.push-2.ensures.items ∙ ap (λ l. l ++ c.release-2.result ∷ []) (c.push.ensures.items ∙ ap (λ l. l ++ c.begin.result ∷ []) room_is.0) in
    let kid_is_task = c.begin.ensures.task.0 in
    let own_is_task = c.release-2.ensures.task.0 in
    subst (λ (y : BookNow). HasForked code limits.events y after c.args.hand.now c.fork-pace.new.hand c.args.job c.push-2.new.self.items) c.self.view_is
    (has_forked code limits b0 b after c.args.job j v k act which child kid xs c.args.hand.now c.fork-pace.new.hand c.begin.result c.release-2.result
    c.push-2.new.self.items
    d fork same.task same.place stands_call entries jobs
    (ap (λ (y : TaskNow). y.number) kid_is_task ∙ come.number_is ∙ sym (child_len ∙ same_length b0.lines lines same_all))
    (ap (λ (y : TaskNow). y.trace.items) kid_is_task ∙ come.empty)
    (ap (λ (y : TaskNow). y.number) own_is_task ∙ number) (ap (λ (y : TaskNow). y.which) own_is_task ∙ which_is)
    (ap (λ (y : TaskNow). drawn_of y.trace.items) own_is_task ∙ trace)
    (c.begin.ensures.task.1 ∙ c.fork-pace.ensures.paces.1, c.release-2.ensures.task.1 ∙ c.fork-pace.ensures.paces.0)
    c.fork-pace.ensures.hand c.fork-pace.ensures.counts refl)

pub push_reserved-requires : goal.push_reserved-requires
push_reserved-requires g c =
    if_ok c.asked_create-job.result.1 _ (λ r. vec_len c.asked_create-job.new.lines < vec_capacity c.asked_create-job.new.lines)
    c.asked_create-job.ensures.space c.in-Ok.is

pub same-room : goal.same-room
same-room g c =
    refl

pub same-task : goal.same-task
same-task g c =
    refl

pub same-reach : goal.same-reach
same-reach g c =
    refl

pub push-requires : goal.push-requires
push-requires g c =
    let r = if_ok c.asked_create-job.result.1 _ (λ r. (r.1.items ≡ []) × (2 ≤ r.1.spare)) c.asked_create-job.ensures.room c.in-Ok.is in let two = r.1 in omega
    (arith, two)

pub push-requires-2 : goal.push-requires-2
push-requires-2 g c =
    let r = if_ok c.asked_create-job.result.1 _ (λ r. (r.1.items ≡ []) × (2 ≤ r.1.spare)) c.asked_create-job.ensures.room c.in-Ok.is in let two = r.1 in
    let e = c.push.ensures.spare in omega (arith, two, e)

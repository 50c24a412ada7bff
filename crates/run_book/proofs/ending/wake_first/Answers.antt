use Rattle.std.proofs.Common.{◌≡◌, subst, ap, sym, refl, ◌∙◌, arith}
use Rattle.event_clock.specs.Views.{own_list}
use Rattle.task_code.specs.Tasks.{TaskNow}
use Rattle.run_book.specs.Waking.{IsFirstFreed, IsFirstWoken}
use Rattle.run_book.proofs.Waking.{home_of_book, may_go_out}
use Rattle.run_book.proofs.ending.wake_first.Goals as goal

pub unreachable-requires : goal.unreachable-requires
unreachable-requires g c =
    subst (IsFirstFreed g.J.Run.code (own_list c.args.holder.now.view)) (c.in_default.ensures.none refl) c.requires.freed

pub unreachable-unreachable : goal.unreachable-unreachable
unreachable-unreachable g c =
    c.unreachable.result

pub hold-held-requires : goal.hold-held-requires
hold-held-requires g c =
    record {
      run =
          (c.requires.run.0, (home_of_book g.J.Run.clock g.J.Run.orders g.J.Run.code g.J.Run.limits c.args.holder.now c.args.writer.now c.requires.book).0);
    }

pub wake-requires-clause-waiting : goal.wake-requires-clause-waiting
wake-requires-clause-waiting g c =
    c.requires.counted

pub wake-requires-clause-pace : goal.wake-requires-clause-pace
wake-requires-clause-pace g c =
    c.hold-held.ensures.task.1 ∙ (subst (IsFirstFreed g.J.Run.code (own_list c.args.holder.now.view)) c.in-Some.ensures.items c.requires.freed).0

pub release-requires-clause-run : goal.release-requires-clause-run
release-requires-clause-run g c =
    c.requires.run

pub release-requires-clause-home : goal.release-requires-clause-home
release-requires-clause-home g c =
    let may = (may_go_out g.J.Run.clock g.J.Run.orders g.J.Run.code g.J.Run.limits c.args.holder.now c.args.writer.now c.in-Some.job c.hold-held.new.holder.view
    c.hold-held.result.task c.hold-held.result.at c.hold-held.result.reach c.hold-held.result.reader c.wake.new.pace c.requires.book c.hold-held.ensures.was
    c.hold-held.ensures.told c.hold-held.ensures.own.0 c.hold-held.ensures.one
    (subst (IsFirstFreed g.J.Run.code (own_list c.args.holder.now.view)) c.in-Some.ensures.items c.requires.freed)
    (c.hold-held.ensures.task.0, c.hold-held.ensures.place.0, c.hold-held.ensures.place.1, c.hold-held.ensures.place.2, c.wake.ensures.pace)) in
    (c.hold-held.ensures.clock ∙ may.home.0, may.home.1, may.home.2)

pub release-requires-clause-carried : goal.release-requires-clause-carried
release-requires-clause-carried g c =
    (may_go_out g.J.Run.clock g.J.Run.orders g.J.Run.code g.J.Run.limits c.args.holder.now c.args.writer.now c.in-Some.job c.hold-held.new.holder.view
    c.hold-held.result.task c.hold-held.result.at c.hold-held.result.reach c.hold-held.result.reader c.wake.new.pace c.requires.book c.hold-held.ensures.was
    c.hold-held.ensures.told c.hold-held.ensures.own.0 c.hold-held.ensures.one
    (subst (IsFirstFreed g.J.Run.code (own_list c.args.holder.now.view)) c.in-Some.ensures.items c.requires.freed)
    (c.hold-held.ensures.task.0, c.hold-held.ensures.place.0, c.hold-held.ensures.place.1, c.hold-held.ensures.place.2, c.wake.ensures.pace)).carried

pub release-requires-clause-orders : goal.release-requires-clause-orders
release-requires-clause-orders g c =
    (may_go_out g.J.Run.clock g.J.Run.orders g.J.Run.code g.J.Run.limits c.args.holder.now c.args.writer.now c.in-Some.job c.hold-held.new.holder.view
    c.hold-held.result.task c.hold-held.result.at c.hold-held.result.reach c.hold-held.result.reader c.wake.new.pace c.requires.book c.hold-held.ensures.was
    c.hold-held.ensures.told c.hold-held.ensures.own.0 c.hold-held.ensures.one
    (subst (IsFirstFreed g.J.Run.code (own_list c.args.holder.now.view)) c.in-Some.ensures.items c.requires.freed)
    (c.hold-held.ensures.task.0, c.hold-held.ensures.place.0, c.hold-held.ensures.place.1, c.hold-held.ensures.place.2, c.wake.ensures.pace)).orders_are

pub release-requires-clause-knew : goal.release-requires-clause-knew
release-requires-clause-knew g c =
    (may_go_out g.J.Run.clock g.J.Run.orders g.J.Run.code g.J.Run.limits c.args.holder.now c.args.writer.now c.in-Some.job c.hold-held.new.holder.view
    c.hold-held.result.task c.hold-held.result.at c.hold-held.result.reach c.hold-held.result.reader c.wake.new.pace c.requires.book c.hold-held.ensures.was
    c.hold-held.ensures.told c.hold-held.ensures.own.0 c.hold-held.ensures.one
    (subst (IsFirstFreed g.J.Run.code (own_list c.args.holder.now.view)) c.in-Some.ensures.items c.requires.freed)
    (c.hold-held.ensures.task.0, c.hold-held.ensures.place.0, c.hold-held.ensures.place.1, c.hold-held.ensures.place.2, c.wake.ensures.pace)).knew

pub release-requires-clause-strand : goal.release-requires-clause-strand
release-requires-clause-strand g c =
    (may_go_out g.J.Run.clock g.J.Run.orders g.J.Run.code g.J.Run.limits c.args.holder.now c.args.writer.now c.in-Some.job c.hold-held.new.holder.view
    c.hold-held.result.task c.hold-held.result.at c.hold-held.result.reach c.hold-held.result.reader c.wake.new.pace c.requires.book c.hold-held.ensures.was
    c.hold-held.ensures.told c.hold-held.ensures.own.0 c.hold-held.ensures.one
    (subst (IsFirstFreed g.J.Run.code (own_list c.args.holder.now.view)) c.in-Some.ensures.items c.requires.freed)
    (c.hold-held.ensures.task.0, c.hold-held.ensures.place.0, c.hold-held.ensures.place.1, c.hold-held.ensures.place.2, c.wake.ensures.pace)).strand

pub release-requires-clause-job : goal.release-requires-clause-job
release-requires-clause-job g c =
    (may_go_out g.J.Run.clock g.J.Run.orders g.J.Run.code g.J.Run.limits c.args.holder.now c.args.writer.now c.in-Some.job c.hold-held.new.holder.view
    c.hold-held.result.task c.hold-held.result.at c.hold-held.result.reach c.hold-held.result.reader c.wake.new.pace c.requires.book c.hold-held.ensures.was
    c.hold-held.ensures.told c.hold-held.ensures.own.0 c.hold-held.ensures.one
    (subst (IsFirstFreed g.J.Run.code (own_list c.args.holder.now.view)) c.in-Some.ensures.items c.requires.freed)
    (c.hold-held.ensures.task.0, c.hold-held.ensures.place.0, c.hold-held.ensures.place.1, c.hold-held.ensures.place.2, c.wake.ensures.pace)).job

pub push-requires : goal.push-requires
push-requires g c =
    let more = c.in-Some.ensures.spare in omega (arith, more)

pub returns-clause-jobs : goal.returns-clause-jobs
returns-clause-jobs g c =
    let rest = c.pop.new.self.items in
    let out = c.release.result in
    let task : out.task ≡ c.in-Some.job.task = c.release.ensures.task.0 ∙ c.hold-held.ensures.task.0 in
    subst (λ js. IsFirstWoken js c.push.new.self.items) (sym c.in-Some.ensures.items) (
      out,
      record {
        task = record {
          number = ap (λ (x : TaskNow). x.number) task;
          which = ap (λ (x : TaskNow). x.which) task;
          trace = ap (λ (x : TaskNow). x.trace.items) task;
        };
        strand = c.release.ensures.place.0 ∙ c.hold-held.ensures.place.0;
        table = c.release.ensures.place.1 ∙ c.hold-held.ensures.place.1;
        pace = c.release.ensures.task.1 ∙ c.wake.ensures.pace;
      },
      c.push.ensures.items,
    )

pub returns-clause-holder : goal.returns-clause-holder
returns-clause-holder g c =
    let may = (may_go_out g.J.Run.clock g.J.Run.orders g.J.Run.code g.J.Run.limits c.args.holder.now c.args.writer.now c.in-Some.job c.hold-held.new.holder.view
    c.hold-held.result.task c.hold-held.result.at c.hold-held.result.reach c.hold-held.result.reader c.wake.new.pace c.requires.book c.hold-held.ensures.was
    c.hold-held.ensures.told c.hold-held.ensures.own.0 c.hold-held.ensures.one
    (subst (IsFirstFreed g.J.Run.code (own_list c.args.holder.now.view)) c.in-Some.ensures.items c.requires.freed)
    (c.hold-held.ensures.task.0, c.hold-held.ensures.place.0, c.hold-held.ensures.place.1, c.hold-held.ensures.place.2, c.wake.ensures.pace)) in
    may.still c.release.new.holder (c.release.ensures.holder.1 ∙ c.hold-held.ensures.clock) c.hold-held.ensures.own.1 c.release.ensures.holder.0

pub returns-clause-writer : goal.returns-clause-writer
returns-clause-writer g c =
    c.release.ensures.writer

pub returns-clause-counts : goal.returns-clause-counts
returns-clause-counts g c =
    c.wake.ensures.counts

pub returns-clause-hand : goal.returns-clause-hand
returns-clause-hand g c =
    c.wake.ensures.hand

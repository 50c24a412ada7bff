use Rattle.std.proofs.Common.{◌≡◌, ◌<◌, length, subst, ap, sym, refl, ◌∙◌, arith}
use Rattle.event_clock.specs.Views.{first_entries, own_list}
use Rattle.run_counts.specs.Counted.{Counted}
use Rattle.run_counts.specs.Moves.{woken}
use Rattle.run_book.specs.Waking.{IsFirstFreed, handed, woken_by}
use Rattle.run_book.proofs.Waking.{HaveWoken, none_yet, still_self, still_then, still_of_book, first_freed, one_more_woken, all_woken}
use Rattle.run_book.proofs.Waking.{woken_none, woken_next, handed_none, handed_next}
use Rattle.run_book.proofs.ending.wake_all.Goals as goal

pub loop-job-init : goal.loop-job-init
loop-job-init g c = (
  none_yet g.J.Run.code (own_list c.args.holder.now.view) c.args.waiting.items c.requires.freed,
  still_self c.args.holder.now,
  refl,
  woken_none c.args.counts.now,
  handed_none c.args.hand.now,
)

pub wake_first-requires-clause-run : goal.wake_first-requires-clause-run
wake_first-requires-clause-run g c = c.requires.run

pub wake_first-requires-clause-book : goal.wake_first-requires-clause-book
wake_first-requires-clause-book g c =
    still_of_book g.J.Run.clock g.J.Run.orders g.J.Run.code g.J.Run.limits c.args.holder.now c.loop-job.holder c.args.writer.now c.loop-job.writer
    c.requires.book
    c.loop-job.invariant.1 c.loop-job.invariant.2

pub wake_first-requires-clause-freed : goal.wake_first-requires-clause-freed
wake_first-requires-clause-freed g c =
    let low : c.loop-job._job < length c.args.waiting.items = subst (λ n. c.loop-job._job < n) c.len-job-end.ensures c.loop-job-test.true in
    subst (λ l. IsFirstFreed g.J.Run.code l c.loop-job.jobs.items) (sym (ap first_entries c.loop-job.invariant.1.own))
    (first_freed g.J.Run.code (own_list c.args.holder.now.view) c.loop-job._job c.args.waiting.items c.loop-job.jobs.items c.loop-job.invariant.0 low)

pub wake_first-requires-clause-counted : goal.wake_first-requires-clause-counted
wake_first-requires-clause-counted g c =
    let low : c.loop-job._job < length c.args.waiting.items = subst (λ n. c.loop-job._job < n) c.len-job-end.ensures c.loop-job-test.true in
    let few = c.requires.counted in
    let left = ap (λ (k : Counted). k.waiting) c.loop-job.invariant.3 in
    omega (arith, low, few, left)

pub loop-job-preserved : goal.loop-job-preserved
loop-job-preserved g c =
    let low : c.loop-job._job < length c.args.waiting.items = subst (λ n. c.loop-job._job < n) c.len-job-end.ensures c.loop-job-test.true in (
      one_more_woken g.J.Run.code (own_list c.args.holder.now.view) c.loop-job._job c.args.waiting.items c.loop-job.jobs.items c.wake_first.new.jobs.items
          c.loop-job.invariant.0 low c.wake_first.ensures.jobs,
      still_then c.args.holder.now c.loop-job.holder c.wake_first.new.holder c.loop-job.invariant.1 c.wake_first.ensures.holder,
      c.wake_first.ensures.writer ∙ c.loop-job.invariant.2,
      c.wake_first.ensures.counts ∙ ap woken c.loop-job.invariant.3 ∙ woken_next c.loop-job._job c.args.counts.now,
      c.wake_first.ensures.hand ∙ ap (handed 1) c.loop-job.invariant.4 ∙ handed_next c.loop-job._job c.args.hand.now,
    )

pub returns-clause-jobs : goal.returns-clause-jobs
returns-clause-jobs g c =
    let all = c.len-job-end.ensures in
    let most = c.loop-job.auto._job-end in
    let least = c.loop-job-test.false in
    let size : c.loop-job._job ≡ length c.args.waiting.items = omega (arith, all, most, least) in
    all_woken g.J.Run.code (own_list c.args.holder.now.view) c.args.waiting.items c.loop-job.jobs.items
    (subst (λ n. HaveWoken g.J.Run.code (own_list c.args.holder.now.view) n c.args.waiting.items c.loop-job.jobs.items) size c.loop-job.invariant.0)

pub returns-clause-holder : goal.returns-clause-holder
returns-clause-holder g c = c.loop-job.invariant.1

pub returns-clause-writer : goal.returns-clause-writer
returns-clause-writer g c = c.loop-job.invariant.2

pub returns-clause-counts : goal.returns-clause-counts
returns-clause-counts g c =
    let all = c.len-job-end.ensures in
    let most = c.loop-job.auto._job-end in
    let least = c.loop-job-test.false in
    let size : c.loop-job._job ≡ length c.args.waiting.items = omega (arith, all, most, least) in
    c.loop-job.invariant.3 ∙ ap (λ n. woken_by n c.args.counts.now) size

pub returns-clause-hand : goal.returns-clause-hand
returns-clause-hand g c =
    let all = c.len-job-end.ensures in
    let most = c.loop-job.auto._job-end in
    let least = c.loop-job-test.false in
    let size : c.loop-job._job ≡ length c.args.waiting.items = omega (arith, all, most, least) in
    c.loop-job.invariant.4 ∙ ap (λ n. handed n c.args.hand.now) size

use Rattle.std.proofs.Common.{◌≡◌, subst, ap, sym, refl, ◌∙◌, arith}
use Rattle.task_code.specs.Tasks.{TaskNow, IsSomeTask}
use Rattle.run_book.specs.Jobs.{JobNow}
use Rattle.run_book.proofs.Advancing.{is_some_task}
use Rattle.run_book.proofs.Wishing.{HasAsked, asks_for, job_asked}
use Rattle.run_book.proofs.job.Job.wish.Goals as goal

pub advance-wish-requires-clause-running : goal.advance-wish-requires-clause-running
advance-wish-requires-clause-running g c = c.job.invariant.running

pub advance-wish-requires-clause-task : goal.advance-wish-requires-clause-task
advance-wish-requires-clause-task g c =
    subst (λ k. IsSomeTask k c.job.inside.task) (sym c.requires) (is_some_task g.J.Run.clock g.J.Run.orders g.J.Run.code _ c.job.invariant)

pub advance-wish-requires-clause-most : goal.advance-wish-requires-clause-most
advance-wish-requires-clause-most g c = omega arith

pub invariant_of-job : goal.invariant_of-job
invariant_of-job g c =
    let e = c.advance-wish.ensures in
    let asked : HasAsked c.args.code.now c.job.inside.task c.advance-wish.new.self 1000000 c.advance-wish.result =
    record { most = refl; number = e.task.0; which = e.task.1; running = e.task.2; trace = e.trace; state = e.state; stops = e.stops; wish = e.wish } in
    job_asked g.J.Run.clock g.J.Run.orders g.J.Run.code _ c.advance-wish.new.self 1000000 c.job.invariant c.advance-wish.result
    (subst (λ k. HasAsked k c.job.inside.task c.advance-wish.new.self 1000000 c.advance-wish.result) c.requires asked)

pub returns-clause-task : goal.returns-clause-task
returns-clause-task g c =
    let old = ap (λ (j : JobNow). j.task) c.job.view_is in
    let e = c.advance-wish.ensures in
    record {
      number = e.task.0 ∙ ap (λ (t : TaskNow). t.number) old;
      which = e.task.1 ∙ ap (λ (t : TaskNow). t.which) old;
      trace = ap (λ t. t.items) e.trace ∙ ap (λ (t : TaskNow). t.trace.items) old;
    }

pub returns-clause-place : goal.returns-clause-place
returns-clause-place g c = (ap (λ (j : JobNow). j.place) c.job.view_is, ap (λ (j : JobNow). j.pace) c.job.view_is)

pub returns-clause-asks : goal.returns-clause-asks
returns-clause-asks g c =
    let e = c.advance-wish.ensures in
    let asked : HasAsked c.args.code.now c.job.inside.task c.advance-wish.new.self 1000000 c.advance-wish.result =
    record { most = refl; number = e.task.0; which = e.task.1; running = e.task.2; trace = e.trace; state = e.state; stops = e.stops; wish = e.wish } in
    asks_for g.J.Run.code c.job.inside.task (record { task = c.advance-wish.new.self; place = c.job.inside.place; pace = c.job.inside.pace }) 1000000 c.advance-wish.result
    (subst (λ k. HasAsked k c.job.inside.task c.advance-wish.new.self 1000000 c.advance-wish.result) c.requires asked) c.job.invariant.started

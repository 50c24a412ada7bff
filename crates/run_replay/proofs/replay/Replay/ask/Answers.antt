use Rattle.std.proofs.Common.{◌∙◌, refl, sym, subst, length}
use Rattle.std.specs.Prelude.{slice_set}
use Rattle.std.proofs.lemmas.Option.{slice_get_read}
use Rattle.task_machine.proofs.Places.{get_below}
use Rattle.run_replay.specs.contracts.replay.Replay.{the_view}
use Rattle.run_replay.specs.declared.line.TaskLine.{TaskLine}
use Rattle.run_replay.specs.Ready.{links_of}
use Rattle.run_replay.specs.Replays.{ReplayNow, RunsAt, StandsStill, IsSomeReplay, IsReplayOf}
use Rattle.run_replay.proofs.Lining.{get_set_here}
use Rattle.run_replay.proofs.Starting.{still_by, now_of}
use Rattle.run_replay.proofs.Asking.{some_task, still_runs, wishes_of, stops_still}
use Rattle.run_replay.proofs.replay.Replay.ask.Goals as goal

pub advance-requires-clause-task : goal.advance-requires-clause-task
advance-requires-clause-task c =
    let lines = c.self.inside.lines.items in
    let x = c.index_mut-line.result.now in
    let t = c.args.task in
    let running = subst (λ (v : ReplayNow). RunsAt v.lines t) (sym c.self.view_is) c.requires.running in
    let present = slice_get_read lines (length lines) t x refl (get_below lines t running.0 running.1) c.index_mut-line.ensures.value in
    some_task c.args.code.now (the_view c.self.inside) t x (subst (λ v. IsSomeReplay c.args.code.now v) (sym c.self.view_is) c.requires.known) present

pub returns-clause-still : goal.returns-clause-still
returns-clause-still c =
    let lines = c.self.inside.lines.items in
    let x = c.index_mut-line.result.now in
    let t = c.args.task in
    let running = subst (λ (v : ReplayNow). RunsAt v.lines t) (sym c.self.view_is) c.requires.running in
    let present = slice_get_read lines (length lines) t x refl (get_below lines t running.0 running.1) c.index_mut-line.ensures.value in
    let task = c.advance.ensures in
    let y : TaskLine = record { task = c.advance.new.self; strand = x.strand; future = x.future; block = x.block; value = x.value } in
    let new : ReplayNow =
    (now_of (slice_set lines t y) c.self.inside.cells.items
    (links_of c.self.inside.ready) c.self.inside.entries c.self.inside.creates c.self.inside.strands c.self.inside.finder) in
    subst (λ v. StandsStill c.args.code.now v new) c.self.view_is
    (still_by c.args.code.now (the_view c.self.inside) new t
    (record {
      before = x;
      after = y;
      present = present;
      is = refl;
      keeps = record {
        task =
            record {
              which = task.task.1;
              ended = task.task.2 ∙ sym (still_runs lines t x running present);
              state = λ P w of args s h. task.state P args s of h;
            };
        strand = refl;
        future = refl;
        block = refl;
        value = refl;
      };
    })
    refl refl refl refl refl (λ h f. f))

pub returns-clause-running : goal.returns-clause-running
returns-clause-running c =
    let lines = c.self.inside.lines.items in
    let t = c.args.task in
    let running = subst (λ (v : ReplayNow). RunsAt v.lines t) (sym c.self.view_is) c.requires.running in
    (_, get_set_here lines t _ (get_below lines t running.0 running.1), c.advance.ensures.task.2)

pub returns-clause-wish : goal.returns-clause-wish
returns-clause-wish c = λ P h m r k is.
    let lines = c.self.inside.lines.items in
    let x = c.index_mut-line.result.now in
    let t = c.args.task in
    let running = subst (λ (v : ReplayNow). RunsAt v.lines t) (sym c.self.view_is) c.requires.running in
    let present = slice_get_read lines (length lines) t x refl (get_below lines t running.0 running.1) c.index_mut-line.ensures.value in
    wishes_of P c.args.code.now h (the_view c.self.inside) m t x r _ (subst (λ v. IsReplayOf P c.args.code.now h v m) (sym c.self.view_is) k) present is
    (λ args s w. c.advance.ensures.wish P args s k.code_is w)

pub returns-clause-stands : goal.returns-clause-stands
returns-clause-stands c = λ event.
    let lines = c.self.inside.lines.items in
    let t = c.args.task in
    let running = subst (λ (v : ReplayNow). RunsAt v.lines t) (sym c.self.view_is) c.requires.running in (
      _,
      get_set_here lines t _ (get_below lines t running.0 running.1),
      c.advance.ensures.task.2,
      stops_still c.args.code.now c.advance.new.self c.advance.result c.advance.ensures.stops event,
    )

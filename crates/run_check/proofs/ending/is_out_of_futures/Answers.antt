use Rattle.std.proofs.Common.{◌∙◌, sym, subst}
use Rattle.std.specs.Prelude.{IsTrue, ◌↔◌}
use Rattle.fut_base.specs.declared.record.Finish.TheVariants as finish
use Rattle.task_machine.specs.Machine.{FinishHolds}
use Rattle.run_replay.proofs.Answering.{running_task, runs_at}
use Rattle.run_check.proofs.Finishing.{futures_idle, futures_by}
use Rattle.run_check.proofs.ending.is_out_of_futures.Goals as goal

pub returns-then-not-runs : goal.returns-then-not-runs
returns-then-not-runs c = λ P h m x. futures_idle P c.args.code.now h c.args.run.now m x c.args.task (sym c.runs.ensures ∙ c.if-not-runs.true)

pub ask-requires-clause-running : goal.ask-requires-clause-running
ask-requires-clause-running c = runs_at c.args.code.now c.args.run.now c.args.task c.requires.known (sym c.runs.ensures ∙ c.if-not-runs.false)

pub returns : goal.returns
returns c = λ P h m x.
    let code = c.args.code.now in
    let r = running_task P code h c.args.run.now m c.args.task x (sym c.runs.ensures ∙ c.if-not-runs.false) in
    subst (λ b. IsTrue b ↔ FinishHolds P h (finish.Futures c.args.task)) (sym c.is_to_create.ensures)
    (futures_by P code h c.args.run.now m x c.args.task r.0 c.ask.result (sym c.creates.ensures ∙ c.if-creates-ne-MOST_CREATES.false) r.1
    (c.ask.ensures.wish P h m r.0 x r.1.0))

use Rattle.std.proofs.Common.{◌∙◌, sym}
use Rattle.run_replay.proofs.Answering.{running_task, runs_at}
use Rattle.run_check.proofs.Finishing.{local_idle, local_by}
use Rattle.run_check.proofs.ending.is_out_of_steps.Goals as goal

pub returns-then-not-runs : goal.returns-then-not-runs
returns-then-not-runs c = λ P h m x. local_idle P c.args.code.now h c.args.run.now m x c.args.task (sym c.runs.ensures ∙ c.if-not-runs.true)

pub ask-requires-clause-running : goal.ask-requires-clause-running
ask-requires-clause-running c = runs_at c.args.code.now c.args.run.now c.args.task c.requires.known (sym c.runs.ensures ∙ c.if-not-runs.false)

pub returns : goal.returns
returns c = λ P h m x.
    let code = c.args.code.now in
    let r = running_task P code h c.args.run.now m c.args.task x (sym c.runs.ensures ∙ c.if-not-runs.false) in
    local_by P code h c.args.run.now m x c.args.task r.0 c.ask.result c.is_long.result r.1
    (c.ask.ensures.wish P h m r.0 x r.1.0) c.is_long.ensures.long c.is_long.ensures.event

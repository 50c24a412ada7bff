use Rattle.fut_base.specs.Events.{event_of}
use Rattle.run_replay.proofs.Stepping.{some_after}
use Rattle.fut_engine.proofs.tests.answer.Goals as goal

pub returns : goal.returns
returns c =
    let (P, h, m, k) = c.requires in
    some_after P c.args.code.now h m (event_of c.args.entry.now) c.step.new.self c.step.result (c.step.ensures P h m k)

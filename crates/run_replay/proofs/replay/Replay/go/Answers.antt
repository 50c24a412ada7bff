use Rattle.fut_base.specs.Events.{action_of, event_of}
use Rattle.run_replay.proofs.Answering.{goes, if_ok}
use Rattle.run_replay.proofs.replay.Replay.go.Goals as goal

pub take-requires-clause-legal : goal.take-requires-clause-legal
take-requires-clause-legal c =
    let x = c.requires.free in
    record {
      program = x.program;
      history = x.history;
      machine = x.machine;
      task = x.task;
      replay = x.replay;
      running = x.running;
      can = c.in_ok-act.ensures x.program x.history x.machine x.task x.replay x.running.0 x.wishes x.free;
    }

pub act_of-requires-clause-known : goal.act_of-requires-clause-known
act_of-requires-clause-known c =
    let x = c.requires.free in
    (x.program, x.history, x.machine, x.replay)

pub returns-clause-made : goal.returns-clause-made
returns-clause-made c = λ P h m r k run w free.
    let can = c.in_ok-act.ensures P h m r k run.0 w free in
    if_ok _ _ _
    (λ entry taken. goes P c.args.code.now h m c.args.self.now c.take.new.self c.args.task c.args.wish (action_of c.in_ok-act.act)
    (event_of entry) r k run w can c.requires.still taken) c.take.ensures.taken

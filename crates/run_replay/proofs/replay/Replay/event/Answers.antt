use Rattle.std.proofs.Common.{◌∙◌, sym, arith}
use Rattle.fut_base.specs.Events.{event_of}
use Rattle.task_machine.proofs.Places.{get_below}
use Rattle.run_replay.proofs.Answering.{idle, running_task, runs_at, bar_next, made_of}
use Rattle.run_replay.proofs.replay.Replay.event.Goals as goal

pub returns-then-not-runs : goal.returns-then-not-runs
returns-then-not-runs c = λ P h m k. (λ r run. idle P c.args.code.now h c.args.self.now m c.args.task r k (sym c.runs.ensures ∙ c.if-not-runs.true) run, k)

pub ask-wish-requires-clause-running : goal.ask-wish-requires-clause-running
ask-wish-requires-clause-running c = runs_at c.args.code.now c.args.self.now c.args.task c.requires.known (sym c.runs.ensures ∙ c.if-not-runs.false)

pub bar-requires : goal.bar-requires
bar-requires c = let l = c.ask-wish.ensures.running in record { exists = get_below _ _ _ l.1 }

pub returns-in-Some : goal.returns-in-Some
returns-in-Some c = λ P h m k.
    let t = c.args.task in
    let code = c.args.code.now in
    let r = running_task P code h c.args.self.now m t k (sym c.runs.ensures ∙ c.if-not-runs.false) in
    let still = c.ask-wish.ensures.still P h m k in
    bar_next P code c.args.limits h m t c.ask-wish.new.self c.in-Some.next still
    (c.in-Some.ensures P code h m r.0 still r.1 (c.ask-wish.ensures.wish P h m r.0 k r.1.0))

pub go-requires-clause-event : goal.go-requires-clause-event
go-requires-clause-event c =
    let (P, h, m, k) = c.requires.known in
    let t = c.args.task in
    let r = running_task P c.args.code.now h c.args.self.now m t k (sym c.runs.ensures ∙ c.if-not-runs.false) in
    let still = c.ask-wish.ensures.still P h m k in
    let may = c.in_default.ensures P c.args.code.now h m r.0 still r.1 (c.ask-wish.ensures.wish P h m r.0 k r.1.0) in
    may.event

pub go-requires-clause-few : goal.go-requires-clause-few
go-requires-clause-few c =
    let (P, h, m, k) = c.requires.known in
    let t = c.args.task in
    let r = running_task P c.args.code.now h c.args.self.now m t k (sym c.runs.ensures ∙ c.if-not-runs.false) in
    let still = c.ask-wish.ensures.still P h m k in
    let may = c.in_default.ensures P c.args.code.now h m r.0 still r.1 (c.ask-wish.ensures.wish P h m r.0 k r.1.0) in
    let few = may.few in
    let bound = c.requires.events in
    let entries = still.entries in
    omega (arith, few, bound, entries)

pub go-requires-clause-free : goal.go-requires-clause-free
go-requires-clause-free c =
    let (P, h, m, k) = c.requires.known in
    let t = c.args.task in
    let r = running_task P c.args.code.now h c.args.self.now m t k (sym c.runs.ensures ∙ c.if-not-runs.false) in
    let still = c.ask-wish.ensures.still P h m k in
    let w = c.ask-wish.ensures.wish P h m r.0 k r.1.0 in
    let may = c.in_default.ensures P c.args.code.now h m r.0 still r.1 w in
    record { program = P; history = h; machine = m; task = r.0; replay = still; running = r.1; wishes = w; free = may.free }

pub returns-in-Ok : goal.returns-in-Ok
returns-in-Ok c = λ P h m k.
    let t = c.args.task in
    let code = c.args.code.now in
    let r = running_task P code h c.args.self.now m t k (sym c.runs.ensures ∙ c.if-not-runs.false) in
    let still = c.ask-wish.ensures.still P h m k in
    let w = c.ask-wish.ensures.wish P h m r.0 k r.1.0 in
    let may = c.in_default.ensures P code h m r.0 still r.1 w in
    made_of P code c.args.limits h m t r.0 c.ask-wish.result (event_of c.in-Ok.entry) c.go.new.self may (c.in-Ok.ensures.made P h m r.0 still r.1 w may.free)

pub returns-in-Err : goal.returns-in-Err
returns-in-Err c = λ P h m k.
    let t = c.args.task in
    let code = c.args.code.now in
    let r = running_task P code h c.args.self.now m t k (sym c.runs.ensures ∙ c.if-not-runs.false) in
    let still = c.ask-wish.ensures.still P h m k in
    (r, c.in-Err.ensures.unchanged P h m still)

pub go-requires-clause-still : goal.go-requires-clause-still
go-requires-clause-still c =
    let (P, h, m, k) = c.requires.known in
    let t = c.args.task in
    let r = running_task P c.args.code.now h c.args.self.now m t k (sym c.runs.ensures ∙ c.if-not-runs.false) in
    let still = c.ask-wish.ensures.still P h m k in
    let may = c.in_default.ensures P c.args.code.now h m r.0 still r.1 (c.ask-wish.ensures.wish P h m r.0 k r.1.0) in
    c.ask-wish.ensures.stands may.event

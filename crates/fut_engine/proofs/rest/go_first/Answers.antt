use Rattle.std.proofs.Common.{◌∙◌, ap, sym, subst, length}
use Rattle.std.specs.Prelude.{map}
use Rattle.fut_base.specs.Events.{event_of, events_of}
use Rattle.fut_base.specs.declared.record.Finish.TheVariants as finish
use Rattle.run_replay.proofs.Acting.{longer}
use Rattle.run_replay.proofs.Serially.{stops_of, never_waits, event_added}
use Rattle.fut_engine.specs.Going.{Goes}
use Rattle.fut_engine.proofs.Going.{stays, goes_further}
use Rattle.fut_engine.proofs.rest.go_first.Goals as goal

pub returns-in-None : goal.returns-in-None
returns-in-None c = λ start goes P typed of.
    let code = c.args.code.now in
    let h = events_of c.args.history.now in
    let x = goes P typed of in
    stays P code c.args.limits start h (events_of c.reserve.new.self) c.args.run.now c.args.run.now x finish.Whole
    (ap (map event_of) c.reserve.ensures.items) x.replay (c.in-None.ensures.first P code h x.machine x.replay)

pub returns-in-Spent : goal.returns-in-Spent
returns-in-Spent c = λ start goes P typed of.
    let code = c.args.code.now in
    let h = events_of c.args.history.now in
    let x = goes P typed of in
    let first = c.in-Some.ensures.first P code h x.machine x.replay in
    let spent = c.in-Spent.ensures P h x.machine x.replay in
    stays P code c.args.limits start h (events_of c.reserve.new.self) c.args.run.now c.event.new.self x c.in-Spent.finish
    (ap (map event_of) c.reserve.ensures.items) spent.1
    (stops_of P c.args.limits h x.machine c.in-Some.task first.0 c.in-Spent.finish first.1 spent.0)

pub returns-in-Made : goal.returns-in-Made
returns-in-Made c = λ start goes.
    let code = c.args.code.now in
    let h = events_of c.args.history.now in
    let e = c.in-Made.entry in
    let added = event_added c.args.history.now.items c.reserve.new.self.items c.push.new.self.items e c.reserve.ensures.items c.push.ensures.items in (
      ap length added ∙ longer h (event_of e),
      λ P typed of. (
          let x = goes P typed of in
          let first = c.in-Some.ensures.first P code h x.machine x.replay in
          subst (λ g. Goes P code c.args.limits start g c.event.new.self) (sym added)
          (goes_further P code c.args.limits start h c.args.run.now c.event.new.self x c.in-Some.task first.0 (event_of e) first.1
          (c.in-Made.ensures P h x.machine x.replay))),
    )

pub unreachable-requires : goal.unreachable-requires
unreachable-requires c =
    let p = c.requires.name.program in
    let h = events_of c.args.history.now in
    let x = c.requires.goes.1 p.0 p.1 p.2 in
    let first = c.in-Some.ensures.first p.0 c.args.code.now h x.machine x.replay in
    let waits = c.in-Waits.ensures p.0 h x.machine x.replay in
    never_waits p.0 h x.machine c.in-Some.task first.0 c.in-Waits.future p.1 x.replay.leads first.1 waits.0.0

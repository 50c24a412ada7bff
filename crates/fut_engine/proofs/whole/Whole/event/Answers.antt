use Rattle.std.proofs.Common.{subst}
use Rattle.fut_base.specs.Events.{events_of}
use Rattle.fut_engine.specs.Turns.{AlwaysTurns}
use Rattle.fut_engine.proofs.Turning.{seen, kept_so, turns_so}
use Rattle.fut_engine.proofs.whole.Whole.event.Goals as goal

pub invariant_of-self : goal.invariant_of-self
invariant_of-self g c =
    kept_so c.args.code.now g.J.Naming.code g.J.Naming.limits c.self.inside.limits
    (events_of c.self.inside.history) c.self.inside.run c.self.inside.seats.items c.requires.code c.self.invariant c.args.task
    (events_of c.turn.new.history) c.turn.new.run c.turn.new.seats.items
    c.turn.result c.turn.ensures

pub returns : goal.returns
returns g c =
    subst
    (λ o. AlwaysTurns c.args.code.now g.J.Naming.limits o c.args.task
    (seen (events_of c.turn.new.history) c.turn.new.seats.items) c.turn.result) c.self.view_is
    (turns_so c.args.code.now g.J.Naming.code g.J.Naming.limits c.self.inside.limits
    (events_of c.self.inside.history) c.self.inside.run c.self.inside.seats.items c.requires.code c.self.invariant c.args.task
    (events_of c.turn.new.history) c.turn.new.run c.turn.new.seats.items
    c.turn.result c.turn.ensures)

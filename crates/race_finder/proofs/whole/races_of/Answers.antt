use Rattle.std.proofs.Common.{arith, sym, subst, take, List}
use Rattle.std.specs.Prelude.{map}
use Rattle.fut_base.specs.declared.event.Event.{Event}
use Rattle.fut_base.specs.Events.{event_of}
use Rattle.race_finder.specs.Finding.{IsFinderOf}
use Rattle.race_finder.proofs.Following.{taken_more, steps_to, taken_few}
use Rattle.race_finder.proofs.whole.races_of.Goals as goal

pub take-requires : goal.take-requires
take-requires c =
    let xs = c.args.entries.now in
    let i = c.loop-entry.entry-index in
    let few = taken_few xs i in (
      map event_of (take i xs),
      c.loop-entry.invariant,
      steps_to xs i c.entry-item.result (omega arith) c.entry-item.is c.requires.steps,
      omega (arith, few, c.requires.few),
    )

pub loop-entry-preserved : goal.loop-entry-preserved
loop-entry-preserved c =
    let xs = c.args.entries.now in
    let i = c.loop-entry.entry-index in
    subst (λ (h : List Event). IsFinderOf h c.take.new.self) (sym (taken_more xs i c.entry-item.result (omega arith) c.entry-item.is))
    (c.in_ok-take.ensures.takes (map event_of (take i xs)) c.loop-entry.invariant
    (steps_to xs i c.entry-item.result (omega arith) c.entry-item.is c.requires.steps))

use Rattle.std.proofs.Common.{drop}
use Rattle.std.specs.Prelude.{map}
use Rattle.fut_base.specs.Events.{event_of}
use Rattle.fut_base.specs.Bounds.{AreNumbered}
use Rattle.fut_base.proofs.bounds.history_has_bounds.Given as goal

abbrev pub invariant-loop-entry : goal.invariant-loop-entry
invariant-loop-entry l = record { whole : AreNumbered (map event_of (drop l.entry-index l.entries)) → AreNumbered (map event_of l.entries) }

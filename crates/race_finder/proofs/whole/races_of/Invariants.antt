use Rattle.std.proofs.Common.{take}
use Rattle.std.specs.Prelude.{map}
use Rattle.fut_base.specs.Events.{event_of}
use Rattle.race_finder.specs.Finding.{IsFinderOf}
use Rattle.race_finder.proofs.whole.races_of.Given as goal

abbrev pub invariant-loop-entry : goal.invariant-loop-entry
invariant-loop-entry l = IsFinderOf (map event_of (take l.entry-index l.entries)) l.finder

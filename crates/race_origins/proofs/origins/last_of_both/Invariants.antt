use Rattle.std.proofs.Common.{map}
use Rattle.fut_base.specs.Events.{event_of}
use Rattle.race_origins.specs.Parting.{has_both}
use Rattle.race_origins.proofs.Places.{NoneFrom}
use Rattle.race_origins.proofs.origins.last_of_both.Given as goal

-- no entry from here on has both marks
abbrev pub invariant-loop-place : goal.invariant-loop-place
invariant-loop-place l = NoneFrom (has_both l.one l.other) (map event_of l.entries) l.place

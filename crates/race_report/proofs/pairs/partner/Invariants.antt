use Rattle.std.proofs.Common.{map}
use Rattle.fut_base.specs.Events.{event_of}
use Rattle.race_report.specs.Pairs.{is_rival}
use Rattle.race_report.proofs.Places.{NoneFrom}
use Rattle.race_report.proofs.pairs.partner.Given as goal

-- no entry from here on is a rival
abbrev pub invariant-loop-place : goal.invariant-loop-place
invariant-loop-place l = NoneFrom (is_rival l.access l.joined) (map event_of l.entries) l.place

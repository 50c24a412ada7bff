use Rattle.std.proofs.Common.{ℕ, map}
use Rattle.std.specs.Ordering.{nat_cmp}
use Rattle.std.specs.BTreeMap.{get}
use Rattle.fut_base.specs.Events.{event_of}
use Rattle.race_report.specs.Pairs.{IsFoundBefore}
use Rattle.race_report.proofs.found.first_pairs.Given as goal

abbrev pub invariant-loop-place : goal.invariant-loop-place
invariant-loop-place l = (c : ℕ) → IsFoundBefore (map event_of l.entries) l.place c (get nat_cmp l.found c)

use Rattle.std.proofs.Common.{◌≡◌, ◌-◌, ◌^◌, true}
use Rattle.std.specs.BTreeSet.{btree_set_len}
use Rattle.race_report.specs.Search.{has, OnlyReached}
use Rattle.race_report.proofs.search.reached_from.Given as goal

abbrev pub invariant-loop-reached : goal.invariant-loop-reached
invariant-loop-reached l = record {
  begun : has l.reached l.start ≡ true;
  sound : OnlyReached l.steps l.start l.reached;
}

-- a set has less than 2^63 strands
abbrev pub decreases-loop-reached : goal.decreases-loop-reached
decreases-loop-reached l = 2 ^ 63 - btree_set_len l.reached

use Rattle.std.proofs.Common.{length}
use Rattle.access_shards.specs.Kept.{AreKnown}
use Rattle.access_shards.proofs.tests.log_of.Given as goal

abbrev pub invariant-loop-touch : goal.invariant-loop-touch
invariant-loop-touch l = AreKnown (length l.judge.lists.english.order) l.log.kept

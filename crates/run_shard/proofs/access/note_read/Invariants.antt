use Rattle.std.proofs.Common.{◌≡◌}
use Rattle.run_shard.specs.Turns.{IsSameReader}
use Rattle.run_shard.proofs.access.note_read.Given as goal

abbrev pub invariant-loop : goal.invariant-loop
invariant-loop g l = IsSameReader l.fn.reader l.reader × (l.log ≡ l.fn.log)

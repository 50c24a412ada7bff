use Rattle.std.proofs.Common.{◌≡◌, length}
use Rattle.run_shard.proofs.Fresh.{AllNew}
use Rattle.run_shard.proofs.shard.Shard.make.Given as goal

abbrev pub invariant-loop-cell : goal.invariant-loop-cell
invariant-loop-cell g l = (length l.logs.items ≡ l._cell) × AllNew l.logs.items

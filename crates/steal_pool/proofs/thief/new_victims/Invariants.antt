use Rattle.std.proofs.Common.{◌≡◌, length}
use Rattle.steal_pool.proofs.Rows.{RowSoFar}
use Rattle.steal_pool.proofs.thief.new_victims.Given as goal

abbrev pub invariant-loop-k : goal.invariant-loop-k
invariant-loop-k g l = record { len : length l.owns ≡ length l.fn.owns; so : RowSoFar l.made l.fn.owns l.owns l.k l.row.items }

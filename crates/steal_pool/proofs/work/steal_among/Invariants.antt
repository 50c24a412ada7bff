use Rattle.std.proofs.Common.{[], length, ◌≤◌}
use Rattle.steal_pool.specs.Thieves.{Transfers}
use Rattle.steal_pool.proofs.work.steal_among.Given as goal

abbrev pub invariant-loop-victim : goal.invariant-loop-victim
invariant-loop-victim g l = record { room : l.to ≤ length l.thief.victims.items; shifts : Transfers l.fn.thief l.thief [] [] }

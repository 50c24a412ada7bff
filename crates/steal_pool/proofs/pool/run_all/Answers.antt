use Rattle.steal_pool.proofs.Starts.{still_tied}
use Rattle.steal_pool.proofs.Accounts.{still_pushed}
use Rattle.steal_pool.proofs.pool.run_all.Goals as goal

pub gather-requires : goal.gather-requires
gather-requires g c = still_tied (g.B.Body.turned c.args.body.now) c.args.workers.now c.run_workers.new.workers c.run_workers.ensures.worked c.requires.1

pub turn_rest-requires : goal.turn_rest-requires
turn_rest-requires g c = still_pushed c.run_workers.new.workers c.gather.new.workers c.gather.ensures c.run_workers.ensures.pushed

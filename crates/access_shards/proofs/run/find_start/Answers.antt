use Rattle.std.proofs.lemmas.Result.{err_from_is_err_and}
use Rattle.reach_table.proofs.Reaching.{moved_on}
use Rattle.access_shards.proofs.run.find_start.Goals as goal

pub returns-in_err-stand_of-clause-moved : goal.returns-in_err-stand_of-clause-moved
returns-in_err-stand_of-clause-moved g c =
    let p = err_from_is_err_and c.from_residual.result c.from_residual.ensures.1 in
    rw (p.1, p.2) (moved_on g.J.Judge _ c.loop-floor.invariant.judge c.in_err-stand_of.ensures.moved)

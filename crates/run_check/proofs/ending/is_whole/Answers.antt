use Rattle.run_check.proofs.Finishing.{whole_by}
use Rattle.run_check.proofs.ending.is_whole.Goals as goal

pub returns : goal.returns
returns c = λ P code h m x. whole_by P code h c.args.run.now m x c.next_ready.result c.is_none.result c.is_none.ensures
    (c.next_ready.ensures.first P code h m x)

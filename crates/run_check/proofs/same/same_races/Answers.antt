use Rattle.std.proofs.lemmas.Slice.Eq.{slice_eq-Decides}
use Rattle.run_check.proofs.Sameness.{race_decides}
use Rattle.run_check.proofs.same.same_races.Goals as goal

pub returns : goal.returns
returns c = slice_eq-Decides race_decides c.args.made.now c.args.told.now c.eq.result c.eq.ensures

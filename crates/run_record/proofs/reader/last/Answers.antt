use Rattle.std.proofs.Common.{[], ◌∷◌, codes}
use Rattle.std.proofs.lemmas.Result.{err_from_is_err_and}
use Rattle.run_record.specs.Machine.{Finish', due}
use Rattle.run_record.proofs.Chains.{second_stops}
use Rattle.run_record.proofs.reader.last.Goals as goal

pub returns-in_err-expect-2 : goal.returns-in_err-expect-2
returns-in_err-expect-2 c =
    let p = err_from_is_err_and c.from_residual-in_err-expect-2.result c.from_residual-in_err-expect-2.ensures.1 in
    let end = due (codes "end\n") in
    rw (p.1, p.2)
    (second_stops (due (codes "finish ")) (Finish' ∷ end) c.in_ok-expect.ensures.0
    (second_stops (Finish' ∷ []) end c.in_ok-finish.ensures.0 c.in_err-expect-2.ensures))

use Rattle.std.proofs.Common.{[], ◌∷◌, codes}
use Rattle.std.proofs.lemmas.Result.{err_from_is_err_and}
use Rattle.run_record.specs.declared.digits.Kind.TheVariants as kind
use Rattle.run_record.specs.Machine.{Number, due}
use Rattle.run_record.proofs.Chains.{first_stops}
use Rattle.run_record.proofs.reader.program.Goals as goal

pub returns-in_err-expect : goal.returns-in_err-expect
returns-in_err-expect c =
    let p = err_from_is_err_and c.from_residual.result c.from_residual.ensures.1 in
    rw (p.1, p.2) (first_stops (due (codes "forder 1\nprogram ")) (Number kind.Bytes ∷ []) c.in_err-expect.ensures)

use Rattle.std.proofs.lemmas.Result.{err_from_is_err_and}
use Rattle.fut_syntax.proofs.Chains.{stops_after, init_opens}
use Rattle.fut_syntax.proofs.inits.init.Goals as goal

pub returns-in_err-value-in_default : goal.returns-in_err-value-in_default
returns-in_err-value-in_default c =
    let p = err_from_is_err_and c.from_residual-in_err-value-in_default.result c.from_residual-in_err-value-in_default.ensures.1 in
    rw (p.1, p.2)
    (stops_after
    (init_opens c.peek.result.now c.peek.ensures.front c.in_default.not-Get c.in_default.not-Create c.in_default.not-Word)
    c.in_err-value-in_default.ensures)

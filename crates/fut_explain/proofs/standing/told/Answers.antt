use Rattle.std.proofs.Common.{sym, ap, subst, nat_lt}
use Rattle.std.specs.Prelude.{IfOk}
use Rattle.fut_explain.specs.Standing.{TellsAll}
use Rattle.fut_explain.proofs.Trying.{whole_tells, stop_tells}
use Rattle.fut_explain.proofs.standing.told.Goals as goal
use Rattle.fut_explain.proofs.standing.told.Goals.{in-Ok, in-Err-Syntax, in-Err-NoMemory}

pub returns : goal.returns
returns c =
    let front = c.args.front.items in
    let k = c.args.kind in
    elim c.match-parse_tokens.branch [
      | in-Ok w ↦ subst (λ r. IfOk r (TellsAll front k)) (sym w.result-is) (whole_tells k front w.in-Ok.ensures.0 w.in-Ok.ensures.2)
      | in-Err-Syntax w ↦ subst (λ r. IfOk r (TellsAll front k)) (sym w.result-is)
          (stop_tells k front w.in-Err-Syntax.left _ (rw w.in-Err-Syntax.field-0-is at w.in-Err-Syntax.ensures)
          (ap (λ n. nat_lt w.in-Err-Syntax.left n) w.behind.ensures))
      | in-Err-NoMemory w ↦ subst (λ r. IfOk r (TellsAll front k)) (sym w.result-is) tt
    ]

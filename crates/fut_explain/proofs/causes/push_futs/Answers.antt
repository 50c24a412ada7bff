use Rattle.std.proofs.Common.{◌-◌, ◌++◌, ap, sym, ◌∙◌, append_assoc, arith}
use Rattle.std.specs.Prelude.{codes}
use Rattle.fut_explain.specs.Causes.{futs}
use Rattle.fut_explain.proofs.Futs.{futs_step}
use Rattle.fut_explain.proofs.causes.push_futs.Goals as goal

pub loop-left-preserved : goal.loop-left-preserved
loop-left-preserved c =
    let left = c.loop-left.left in
    ap (λ l. l ++ futs (left - 1)) c.in_ok-extend_from_slice.ensures.items ∙ append_assoc c.loop-left.out.items (codes "fut ") (futs (left - 1))
    ∙ ap (λ l. c.loop-left.out.items ++ l) (sym (futs_step left (omega arith))) ∙ c.loop-left.invariant

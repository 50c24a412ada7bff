use Rattle.std.proofs.Common.{◌≡◌, subst, sym, arith}
use Rattle.fut_base.specs.Events.{events_of}
use Rattle.fut_driver.specs.Outcomes.{IsRefused, RanAs}
use Rattle.fut_driver.specs.Verdict.{IsWellTypedText}
use Rattle.fut_driver.proofs.Endings.{refused, run_verdict}
use Rattle.fut_driver.proofs.Inputs.{given_whole}
use Rattle.fut_driver.proofs.run.run_text.Goals as goal

pub returns-in-Err : goal.returns-in-Err
returns-in-Err c = λ asks asked a words read.
    let text = c.args.text.items in
    refused a asks text text c.in-Err.refusal _ _ _ c.refused.ensures.status c.refused.ensures.history
    (given_whole asks c.args.events c.args.form c.args.workers text asked)
    (subst (λ t. IsRefused t c.in-Err.refusal) c.as_slice.ensures.value c.in-Err.ensures) words read

pub returns-in-Ok-run_code : goal.returns-in-Ok-run_code
returns-in-Ok-run_code c = λ asks asked a words read.
    let text = c.args.text.items in
    let o = c.in-Ok-run_code.outcome in
    let P = c.in-Ok.ensures.0 in
    let typed : IsWellTypedText text P = subst (λ t. IsWellTypedText t P) c.as_slice.ensures.value c.in-Ok.ensures.1 in
    let one : c.args.workers ≡ 1 = omega (arith, c.if-workers-ne1.false) in
    let ran : RanAs P 1 c.args.events c.args.form text o.status (events_of o.history) o.text.items =
    subst (λ t. RanAs P 1 c.args.events c.args.form t o.status (events_of o.history) o.text.items) c.as_slice-2.ensures.value
    (c.in-Ok-run_code.ensures P typed.well_typed c.in-Ok.ensures.2) in
    run_verdict a asks c.args.workers c.args.events c.args.form text P o.status (events_of o.history) o.text.items asked typed
    (subst (λ n. RanAs P n c.args.events c.args.form text o.status (events_of o.history) o.text.items) (sym one) ran) words read

use Rattle.command_words.proofs.Wording.{bounded}
use Rattle.fut_driver.proofs.Inputs.{untold}
use Rattle.fut_driver.proofs.Jobs.{no_usage}
use Rattle.fut_driver.proofs.judge.judge.Goals as goal

pub input_of-requires : goal.input_of-requires
input_of-requires g c = bounded c.args.may_run c.args.words.now c.in-Some.command c.in-Some.ensures

pub prepared-requires-clause-bounded : goal.prepared-requires-clause-bounded
prepared-requires-clause-bounded g c = bounded c.args.may_run c.args.words.now c.in-Some.command c.in-Some.ensures

pub returns-in-Whole-clause-usage : goal.returns-in-Whole-clause-usage
returns-in-Whole-clause-usage g c = λ usage.
    let whole = c.in-Whole.ensures.input in
    absurd
    (no_usage c.args.may_run c.args.words.now c.in-Some.command c.in-Whole.bytes.items c.prepared.result c.in-Some.ensures whole.0
    (untold c.in-Some.command _ _ _ c.in-Whole.bytes.items whole.1) c.prepared.ensures usage)

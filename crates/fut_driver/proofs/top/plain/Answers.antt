use Rattle.fut_driver.proofs.Jobs.{ending_is_free, no_job}
use Rattle.fut_driver.proofs.top.plain.Goals as goal

pub unreachable-requires : goal.unreachable-requires
unreachable-requires g c =
    let asked = c.in-Due.ensures.judged in
    let job = c.in-Due.field-0 in
    no_job c.args.words.now asked.command job.events job.form job.workers asked.words asked.asked asked.job_is.1.several

pub returns-clause-complete : goal.returns-clause-complete
returns-clause-complete g c = ending_is_free _ _ c.in-Done.outcome c.told.result c.in-Done.ensures.judged c.told.ensures

use Rattle.fut_base.specs.Events.{events_of}
use Rattle.fut_driver.proofs.Jobs.{job_verdict}
use Rattle.fut_driver.proofs.job.run_on_workers.Goals as goal

pub returns-in-Ok-clause-verdict : goal.returns-in-Ok-clause-verdict
returns-in-Ok-clause-verdict g c = λ a asked.
    let o = c.in-Ok.outcome in
    job_verdict a c.args.job.now o.status (events_of o.history) o.text.items asked c.in-Ok.ensures

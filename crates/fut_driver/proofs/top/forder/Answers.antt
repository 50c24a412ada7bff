use Rattle.fut_base.specs.Events.{events_of}
use Rattle.fut_driver.proofs.Jobs.{ending_answers, ending_is_free}
use Rattle.fut_driver.proofs.top.forder.Goals as goal

pub returns-in-Done-clause-complete : goal.returns-in-Done-clause-complete
returns-in-Done-clause-complete g c = ending_is_free _ _ c.in-Done.outcome c.told.result c.in-Done.ensures.judged c.told.ensures

pub returns-in-Due-clause-answer : goal.returns-in-Due-clause-answer
returns-in-Due-clause-answer g c =
    ending_answers _ _ c.run_on_workers.result c.told-in-Due.result (c.run_on_workers.ensures.verdict _ c.in-Due.ensures.judged) c.told-in-Due.ensures

pub returns-in-Due-clause-complete : goal.returns-in-Due-clause-complete
returns-in-Due-clause-complete g c =
    ending_is_free _ _ c.run_on_workers.result c.told-in-Due.result (c.run_on_workers.ensures.verdict _ c.in-Due.ensures.judged) c.told-in-Due.ensures

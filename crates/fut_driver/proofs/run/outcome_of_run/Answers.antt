use Rattle.fut_base.specs.Events.{events_of}
use Rattle.fut_driver.proofs.Endings.{ran_as}
use Rattle.fut_driver.proofs.run.outcome_of_run.Goals as goal

pub returns : goal.returns
returns c = λ P workers typed of run serial.
    let ran = c.args.ran in
    ran_as P workers c.args.events c.args.form c.args.text.now _
    (events_of ran.history) _ c.args.code.now ran.races.items ran.finish ran.cells.items c.ending.ensures run serial c.requires.races c.in_ok-made.ensures
    of typed c.requires.bounded c.requires.short c.history_has_bounds.ensures c.finish_has_bounds.ensures

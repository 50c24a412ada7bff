use Rattle.std.proofs.Common.{◌∙◌}
use Rattle.fut_base.specs.Events.{events_of}
use Rattle.fut_driver.proofs.process.carry_out.Goals as goal

pub returns : goal.returns
returns g c =
    let ended = c.answer_line-status.result in (
      c.line_of-line.result,
      c.line_of-line.ensures,
      (ended.status, events_of ended.history, c.answer_line-status.ensures.answer, c.from.ensures ∙ c.number.ensures),
    )

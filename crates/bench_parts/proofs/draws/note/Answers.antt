use Rattle.std.proofs.Common.{◌∙◌}
use Rattle.bench_parts.proofs.Drawing.{note_draws}
use Rattle.bench_parts.proofs.draws.note.Goals as goal

pub returns : goal.returns
returns c =
    let note = c.note-pass.ensures in
    let tell = c.tell.ensures in
    let same = tell.clock ∙ note.clock.0 ∙ c.requires.clock_is in
    note_draws c.args.clock.now c.args.holder.now c.tell.new.holder c.args.task _ _ c.requires same note.holder note.pass tell.told.view

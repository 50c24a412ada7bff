use Rattle.std.proofs.Common.{◌∙◌, refl}
use Rattle.bench_parts.proofs.Drawing.{spawned_first, spawned_other}
use Rattle.bench_parts.proofs.draws.spawn.Goals as goal

pub returns-clause-first : goal.returns-clause-first
returns-clause-first c =
    let note = c.note-pass.ensures in
    let drawn = c.in-At.ensures in
    spawned_first c.args.clock.now c.args.first.now c.note-pass.new.holder c.args.child _ _ _ c.requires.first c.requires.child (λ t. refl) drawn.drawn.2
    (note.clock.0 ∙ drawn.clock ∙ c.requires.first.draws.clock_is) note.holder

pub returns-clause-other : goal.returns-clause-other
returns-clause-other c =
    let note = c.note-pass.ensures in
    let tell = c.tell.ensures in
    let same = tell.clock ∙ c.requires.clock in
    spawned_other c.args.clock.now c.args.other.now c.tell.new.holder c.args.child _ _ _ _ _ (λ t. refl) c.in-At.ensures.drawn.2 note.pass same tell.told.view

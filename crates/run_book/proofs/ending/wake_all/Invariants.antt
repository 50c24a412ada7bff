use Rattle.std.proofs.Common.{◌≡◌}
use Rattle.event_clock.specs.Views.{own_list}
use Rattle.run_book.specs.Waking.{IsHolderStill, woken_by, handed}
use Rattle.run_book.proofs.Waking.{HaveWoken}
use Rattle.run_book.proofs.ending.wake_all.Given as goal

abbrev pub invariant-loop-job : goal.invariant-loop-job
invariant-loop-job g l = HaveWoken g.J.Run.code (own_list l.initial.holder.view) l._job l.initial.jobs.items l.jobs.items
    × IsHolderStill l.initial.holder l.holder × (l.writer ≡ l.initial.writer) × (l.counts ≡ woken_by l._job l.initial.counts)
    × (l.hand ≡ handed l._job l.initial.hand)
